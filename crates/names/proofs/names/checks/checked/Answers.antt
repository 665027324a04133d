use Rattle.std.proofs.Common.{sym, subst}
use Rattle.std.proofs.lemmas.Bool.Decides.{not_from_Decides}
use Rattle.names.specs.Names.{Each, length_ok, bytes_ok}
use Rattle.names.proofs.names.checks.checked.Goals as goal

pub invariant_of-result : goal.invariant_of-result
invariant_of-result c =
    let e = c.copied-list.ensures in
    record {
      short = ∣ subst (λ ws. Each length_ok ws) (sym e) c.in_default.ensures ∣₁;
      plain = ∣ subst (λ ws. Each bytes_ok ws) (sym e) c.in_default-first_odd.ensures ∣₁;
      apart = ∣ (λ j k twins. not_from_Decides _ c.has_twins.ensures c.if-has_twins.false (j, (k, twins))) ∣₁;
    }
