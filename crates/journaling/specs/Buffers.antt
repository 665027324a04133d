-- What the buffer of a commit holds while a journal is made.
use Rattle.std.specs.Prelude.{◌≡◌, ℕ, ◌+◌, ◌<◌, ◌≤◌, List, map, length, Ok, Err, Result, slice_index}
use Rattle.card.specs.Meaning.{Bytes}
use Rattle.card.specs.Calls.{overwrite, part}
use Rattle.journal.specs.Judged.{record_place}
use Rattle.journal_writer.specs.Written.{originals}
use Rattle.refusal.specs.declared.fault.SetFault.{SetFault}
use Rattle.journaling.specs.Plan.{place, original}

-- a page of a file lies at the place of a record; after a refusal the buffer is as it was
abbrev pub Copied : Bytes → ℕ → ℕ → Bytes → Result (Unit {0}) SetFault → Bytes → Type 0
Copied stored page index old (Ok u) new = new ≡ overwrite old (record_place index + 4) (part stored (place page) 512)
Copied stored page index old (Err f) new = new ≡ old

-- the originals of all pages lie at the places of their records
abbrev pub RecordedIn : Bytes → List ℕ → Result (Unit {0}) SetFault → Bytes → Type 0
RecordedIn stored pages (Ok u) new = originals new 0 pages ≡ map (original stored) pages
RecordedIn stored pages (Err f) new = Unit {0}

-- pages that a database can have
abbrev pub PagesOk : List ℕ → Type 0
PagesOk pages = (i : ℕ) → i < length pages → (1 ≤ slice_index pages i) × (slice_index pages i ≤ 4096)
