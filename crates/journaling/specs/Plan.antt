-- The card calls of a commit, in their order, by the databases that it changes.
-- Files go by number: 0 to 3 a database, 4 to 7 its journal, 8 the super-journal.
use Rattle.std.specs.Prelude.{ℕ, suc, ◌+◌, ◌-◌, ◌*◌, Bool, cond, List, [], ◌∷◌, ◌++◌, map, length, Some, None, Option, nat_le}
use Rattle.card.specs.Meaning.{Bytes, Name}
use Rattle.card.specs.Calls.{Op, read, create, write, sync, delete, part}
use Rattle.card.specs.Runs.{Act}
use Rattle.journal.specs.Format.{PageRecord, Journal, encode}
use Rattle.super_journal.specs.Super.{super_journal_bytes}
use Rattle.journal_writer.specs.OnCard.{store_acts}
use Rattle.refusal.specs.declared.step.Step.{Step}
use Rattle.refusal.specs.declared.step.Step.TheVariants.{C1, C2, C3, C4}
use Rattle.steps.specs.Tasks.{Task, task, tasks, at, at_record}

-- one database that a commit changes: its number, what its file holds, its size in pages at the start,
-- the pages that its journal records, and the changed pages in ascending order
pub record Change : Type 0 where
  pub database : ℕ
  pub stored : Bytes
  pub size : ℕ
  pub recorded : List ℕ
  pub pages : List PageRecord

-- where a page lies in a database
abbrev pub place : ℕ → ℕ
place page = (page - 1) * 512

-- a page of a database, as a record of its journal
abbrev pub original : Bytes → ℕ → PageRecord
original stored page = record { page = page; bytes = part stored (place page) 512 }

abbrev pub journal_of : ℕ → Option Name → Change → Journal
journal_of nonce super ch = record { nonce = nonce; size = ch.size; records = map (original ch.stored) ch.recorded; super = super }

-- what is done for each, one after the other
unfoldable pub for_each : {A : Type 0} → (A → List Task) → List A → List Task
for_each f [] = []
for_each f (x ∷ xs) = f x ++ for_each f xs

-- two or more databases change
abbrev pub many : List Change → Bool
many chs = nat_le 2 (length chs)

-- the originals of pages are read from a database, for the records from number k on
unfoldable pub read_tasks : Name → ℕ → ℕ → List ℕ → List Task
read_tasks n d k [] = []
read_tasks n d k (p ∷ ps) = task (at_record C2 d k) n (read (place p) 512) ∷ read_tasks n d (suc k) ps

-- pages are written to a database
unfoldable pub write_tasks : Name → ℕ → List PageRecord → List Task
write_tasks n d [] = []
write_tasks n d (r ∷ rs) = task (at C3 d) n (write (place r.page) r.bytes) ∷ write_tasks n d rs

module _ (file : ℕ → Name) where
  abbrev pub call : Step → ℕ → Op → Task
  call step k op = task (at step k) (file k) op

  abbrev pub journal_name : Change → Name
  journal_name ch = file (4 + ch.database)

  -- C1: the super-journal is made, with the names of the journals
  abbrev pub naming_tasks : List Name → List Task
  naming_tasks ns = call C1 8 create ∷ call C1 8 (write 0 (super_journal_bytes ns)) ∷ call C1 8 sync ∷ []

  abbrev pub super_tasks : List Change → List Task
  super_tasks chs = naming_tasks (map journal_name chs)

  -- C2: a journal is made, first with count 0, and, once it is safe, with its count
  abbrev pub journal_tasks : ℕ → Option Name → Change → List Task
  journal_tasks nonce super ch =
      call C2 (4 + ch.database) create
      ∷ (read_tasks (file ch.database) ch.database 1 ch.recorded
      ++ tasks (at C2 (4 + ch.database)) (store_acts (journal_name ch) (encode 0 (journal_of nonce super ch)) (length ch.recorded)))

  -- C3: the changed pages are written, and made safe
  abbrev pub change_tasks : Change → List Task
  change_tasks ch = write_tasks (file ch.database) ch.database ch.pages ++ (call C3 ch.database sync ∷ [])

  -- C4: the only journal is deleted
  abbrev pub only_tasks : Change → List Task
  only_tasks ch = call C4 (4 + ch.database) delete ∷ []

  abbrev pub super_of : Bool → Option Name
  super_of several = cond several (Some (file 8)) None

  -- all of it: with two or more databases the super-journal is made first and deleted last
  abbrev pub plan : ℕ → List Change → List Task
  plan nonce chs =
      cond (many chs) (super_tasks chs) []
      ++ (for_each (journal_tasks nonce (super_of (many chs))) chs
      ++ (for_each change_tasks chs ++ cond (many chs) (call C4 8 delete ∷ []) (for_each only_tasks chs)))

  -- C5: after a super-journal each journal is deleted, whatever the others were answered
  abbrev pub drops : List Change → List Act
  drops chs = cond (many chs) (map (λ ch. record { name = journal_name ch; op = delete }) chs) []
