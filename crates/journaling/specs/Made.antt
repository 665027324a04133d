-- What the journals of a commit are made by, and what one of them records.
use Rattle.std.specs.Prelude.{ℕ, [], Option, slice_index}
use Rattle.std.specs.Option.{option_map}
use Rattle.card.specs.Meaning.{Bytes, Name}
use Rattle.names.specs.Files.{file_of}
use Rattle.pager.specs.Sound.{map_of}
use Rattle.journaling.specs.declared.journals.Journals.{Journals}
use Rattle.journaling.specs.Plan.{Change}
use Rattle.journaling.specs.Changes.{recorded}

-- the names of the files, by number
abbrev pub files : Journals → ℕ → Name
files j = file_of j.names.now

-- the super-journal that each names, or none
abbrev pub super_named : Journals → Option Name
super_named j = option_map (λ f. f.bytes.items) j.super_journal

-- the size of a database in pages
abbrev pub size_of : Journals → ℕ → ℕ
size_of j database = slice_index j.sizes.now.rows database

-- what the journal of a database records, by what its file holds
abbrev pub recorded_by : Journals → Bytes → ℕ → Change
recorded_by j stored database = record {
  database = database;
  stored = stored;
  size = size_of j database;
  recorded = recorded (map_of j.memory.now.maps database) (size_of j database);
  pages = [];
}
