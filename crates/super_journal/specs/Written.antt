-- What a buffer holds after a super-journal was put into it, and why one is not put.
use Rattle.std.specs.Prelude.{◌≡◌, ℕ, ◌<◌, ◌≤◌, List, map, length, Ok, Err, Result}
use Rattle.std.specs.Borrow.{Bor}
use Rattle.card.specs.Meaning.{Bytes, Name}
use Rattle.card.specs.Calls.{overwrite}
use Rattle.journal_writer.specs.declared.writer.Unfit.{Unfit}
use Rattle.journal_writer.specs.declared.writer.Unfit.TheVariants.{Limit, Room}
use Rattle.super_journal.specs.Super.{super_journal_bytes, LawfulNames}

-- names that are passed
abbrev pub texts : List (Bor Bytes) → List Name
texts rs = map (λ r. r.now) rs

-- the super-journal of the names now stands at the start of the buffer, and its length is told; or why not
abbrev pub Named : Bytes → List Name → Result ℕ Unfit → Bytes → Type 0
Named old names (Ok n) new = LawfulNames names × (n ≡ length (super_journal_bytes names)) × (n ≤ length old) × (new ≡ overwrite old 0 (super_journal_bytes names))
Named old names (Err Limit) new = (LawfulNames names → ⊥) × (new ≡ old)
Named old names (Err Room) new = LawfulNames names × (length old < length (super_journal_bytes names)) × (new ≡ old)
