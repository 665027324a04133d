-- The numbers of the refusals, and where a fault is placed.
use Rattle.std.specs.Prelude.{ℕ, Option}
use Rattle.refusal.specs.declared.step.Step.{Step}
use Rattle.refusal.specs.declared.fault.SetFault.{SetFault}
use Rattle.refusal.specs.declared.refusals.Refusal.{Refusal}
use Rattle.refusal.specs.declared.refusals.Refusal.TheVariants.{
  NameCount,
  NameLength,
  NameByte,
  NamesEqual,
  Cold,
  Transaction,
  NoDatabase,
  BufferLength,
  Page,
  ChangedFull,
  SavedFull,
  SavepointsFull,
  NoSavepoint,
  Damaged,
  Foreign,
  Database,
  Card,
}

abbrev pub refusal_number : Refusal → ℕ
refusal_number NameCount = 1
refusal_number (NameLength i) = 2
refusal_number (NameByte i) = 3
refusal_number NamesEqual = 4
refusal_number Cold = 5
refusal_number Transaction = 6
refusal_number NoDatabase = 7
refusal_number BufferLength = 8
refusal_number Page = 9
refusal_number ChangedFull = 10
refusal_number SavedFull = 11
refusal_number SavepointsFull = 12
refusal_number NoSavepoint = 13
refusal_number (Damaged f k) = 14
refusal_number (Foreign f) = 15
refusal_number (Database f) = 16
refusal_number (Card e) = 17

-- a fault told with its step, its file and the page record that it is about
abbrev pub placed : SetFault → Option Step → ℕ → ℕ → SetFault
placed f step file n = record { journal = record { card = f.journal.card; «record» = n }; step = step; file = file }
