use Rattle.std.proofs.Common.{◌≡◌, ℕ, List, length, ◌++◌, ap, subst, ◌∙◌, arith}
use Rattle.std.proofs.lemmas.List.{append-nil}
use Rattle.few.specs.Items.{Few}
use Rattle.names.specs.Names.{Bytes, journal_ending, super_ending}
use Rattle.names.specs.Numbered.{Numbered}
use Rattle.names.specs.declared.file.File.{File}
use Rattle.names.proofs.Texts.{length_held, goes_database, goes_journal, goes_super}
use Rattle.names.proofs.names.NameList.name_of.Goals as goal

-- what the number tells, said of the list and of the variant
told : {ws list : List (Few ℕ)} {f g : File} (k : ℕ) → ws ≡ list → f ≡ g → Numbered (length ws) k f → Numbered (length list) k g
told {ws} {list} {f} {g} k e is h = subst (Numbered (length list) k) is (subst (λ (l : List (Few ℕ)). Numbered (length l) k f) e h)

pub returns-in-Database : goal.returns-in-Database
returns-in-Database c =
    let h = told c.args.number c.as_slice-names.ensures.is c.in-Database.is c.in_ok-i.ensures in
    let goes = goes_database _ c.args.self.now.few c.args.number c.in-Database.i c.index-names-i.result h.0 h.1 (rw c.as_slice-names.ensures.is at c.index-names-i.is) in
    (goes.0, c.ending.ensures ∙ append-nil _ ∙ c.as_slice.ensures.is ∙ goes.1)

pub returns-in-Journal : goal.returns-in-Journal
returns-in-Journal c =
    let h = told c.args.number c.as_slice-names.ensures.is c.in-Journal.is c.in_ok-i.ensures in
    let goes = goes_journal _ c.args.self.now.few c.args.number c.in-Journal.i c.index-names-i-in-Journal.result h.0 h.1 (rw c.as_slice-names.ensures.is at c.index-names-i-in-Journal.is) in
    (goes.0, c.ending-in-Journal.ensures ∙ ap (λ (w : Bytes). w ++ journal_ending) c.as_slice-in-Journal.ensures.is ∙ goes.1)

pub returns-in-SuperJournal : goal.returns-in-SuperJournal
returns-in-SuperJournal c =
    let h = told c.args.number c.as_slice-names.ensures.is c.in-SuperJournal.is c.in_ok-i.ensures in
    let n = length_held c.args.self.now.names.items in
    let goes = goes_super c.args.self.now.names.items c.args.self.now.few c.args.number c.index-names-0.result (omega arith) h (rw c.as_slice-names.ensures.is at c.index-names-0.is) in
    (goes.0, c.ending-in-SuperJournal.ensures ∙ ap (λ (w : Bytes). w ++ super_ending) c.as_slice-in-SuperJournal.ensures.is ∙ goes.1)
