-- What a work of a commit says of it.
use Rattle.std.specs.Prelude.{ℕ, ◌+◌, Bool, List, map, length, nat_le}
use Rattle.card.specs.Meaning.{Name}
use Rattle.names.specs.Files.{how_many, file_of}
use Rattle.pager.specs.Sound.{map_of}
use Rattle.journaling.specs.Changes.{changed_list}
use Rattle.commit.specs.declared.work.Work.{Work}

-- the names of the files, by number
abbrev pub files : Work → ℕ → Name
files w = file_of w.names.now

-- the databases that change, ascending
abbrev pub listed : Work → List ℕ
listed w = changed_list (map_of w.memory.now.maps) (how_many w.names.now)

-- the names of their journals
abbrev pub journals : Work → List Name
journals w = map (λ d. files w (4 + d)) (listed w)

-- two or more of them change
abbrev pub several : Work → Bool
several w = nat_le 2 (length (listed w))
