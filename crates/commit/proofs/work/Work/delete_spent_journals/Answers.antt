use Rattle.std.proofs.Common.{◌≡◌, ℕ, ◌+◌, false, true, get_or, List, sym, ◌∙◌, subst, arith}
use Rattle.card.specs.Meaning.{Name}
use Rattle.card.specs.Calls.{Called, cause_of, delete}
use Rattle.card.specs.Runs.{Act}
use Rattle.commit.specs.Works.{files, several}
use Rattle.commit.proofs.Trying.{dropped_none, trying_more, trying_all, ill, well}
use Rattle.commit.proofs.work.Work.delete_spent_journals.Goals as goal

pub returns-then-not-many : goal.returns-then-not-many
returns-then-not-many g c =
    let one : several c.args.self.now ≡ false = sym c.many.ensures ∙ c.if-not-many.true in
    rw one (dropped_none g.C.Card.meaning c.args.card.now)

pub loop-database-init : goal.loop-database-init
loop-database-init g c = (dropped_none _ _, omega arith)

pub loop-database-preserved : goal.loop-database-preserved
loop-database-preserved g c =
    let file : ℕ → Name = files c.args.self.now in
    let list : List ℕ = c.changed-database-items.result.now in
    let i = c.loop-database.database-index in
    let n = c.loop-database.left in
    let r = c.delete.result in
    let act : ℕ → Act = λ k. record { name = file (4 + k); op = delete } in
    let name : c.bytes.result.now ≡ file (4 + get_or list i 0) = rw c.journal_of.ensures at (c.bytes.ensures ∙ c.file-journal.ensures) in
    let called = subst (λ (x : Name). Called g.C.Card.meaning c.loop-database.card x delete (cause_of r) c.delete.new.self) name c.delete.ensures.called in
    let more = λ (k : ℕ). trying_more g.C.Card.meaning act list c.args.card.now i n k c.loop-database.card c.delete.new.self (cause_of r) c.loop-database-test.true c.loop-database.invariant.0 called c.delete.ensures.origins in
    elim c.if-is_err.branch [
      | goal.then-is_err w ↦
          let one = ill r (sym c.is_err.ensures.value ∙ w.if-is_err.true) in
          (more c.if-is_err.left (omega (arith, w.left-is, one)), omega (arith, w.left-is, c.loop-database.invariant.1))
      | goal.else-is_err w ↦
          let none = well r (sym c.is_err.ensures.value ∙ w.if-is_err.false) in
          (more c.if-is_err.left (omega (arith, w.left-is, none)), omega (arith, w.left-is, c.loop-database.invariant.1))
    ]

pub returns : goal.returns
returns g c =
    let two : several c.args.self.now ≡ true = sym c.many.ensures ∙ c.if-not-many.false in
    rw two (trying_all _ _ _ _ _ c.changed-database-items.ensures.is c.loop-database.database-index _ _ c.loop-database-test.false c.loop-database.invariant.0)
