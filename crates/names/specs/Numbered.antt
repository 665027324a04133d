-- The numbers of files.
use Rattle.std.specs.Prelude.{◌≡◌, ℕ, ◌+◌, ◌<◌}
use Rattle.names.specs.declared.file.File.{File}
use Rattle.names.specs.declared.file.File.TheVariants.{Database, Journal, SuperJournal}

-- the file that has the number k with n databases
abbrev pub Numbered : ℕ → ℕ → File → Type 0
Numbered n k (Database i) = (i < n) × (k ≡ i)
Numbered n k (Journal i) = (i < n) × (k ≡ 4 + i)
Numbered n k SuperJournal = k ≡ 8
