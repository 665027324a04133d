-- Small cases of what a card's calls do, for readers of the definitions.
use Rattle.std.specs.Prelude.{◌≡◌, [], ◌∷◌, replicate, Some, None}
use Rattle.card.specs.declared.fault.Cause.TheVariants.{Absent, Present, Range}
use Rattle.card.specs.Calls.{overwrite, resized, part, tested, read, create, write, set_length, length_of, Partly, Between}
use Rattle.card.specs.Numbers.{number_at, number_bytes}

pub record Examples : Type 0 where
  -- bytes put inside a content, and over its end
  pub inside : overwrite (1 ∷ 2 ∷ 3 ∷ 4 ∷ []) 1 (8 ∷ 9 ∷ []) ≡ 1 ∷ 8 ∷ 9 ∷ 4 ∷ []
  pub longer : overwrite (1 ∷ 2 ∷ []) 1 (8 ∷ 9 ∷ []) ≡ 1 ∷ 8 ∷ 9 ∷ []
  -- a content cut, and filled with zeros
  pub cut : resized (1 ∷ 2 ∷ 3 ∷ []) 2 ≡ 1 ∷ 2 ∷ []
  pub filled : resized (1 ∷ []) 3 ≡ 1 ∷ 0 ∷ 0 ∷ []
  pub middle : part (1 ∷ 2 ∷ 3 ∷ []) 1 2 ≡ 2 ∷ 3 ∷ []
  -- the name is tested before the file, and the file before the range
  pub bad_name : tested create [] None ≡ Some Range
  pub long_name : tested length_of (replicate 33 97) None ≡ Some Range
  pub absent : tested (read 5 1) (97 ∷ []) None ≡ Some Absent
  pub present : tested create (97 ∷ []) (Some []) ≡ Some Present
  -- nothing may be read and written at the very end, and not one past it
  pub read_end : tested (read 2 0) (97 ∷ []) (Some (1 ∷ 2 ∷ [])) ≡ None
  pub read_past : tested (read 3 0) (97 ∷ []) (Some (1 ∷ 2 ∷ [])) ≡ Some Range
  pub write_end : tested (write 2 []) (97 ∷ []) (Some (1 ∷ 2 ∷ [])) ≡ None
  pub write_past : tested (write 3 []) (97 ∷ []) (Some (1 ∷ 2 ∷ [])) ≡ Some Range
  pub limit : tested (set_length 2097152) (97 ∷ []) (Some []) ≡ None
  pub past_limit : tested (set_length 2097153) (97 ∷ []) (Some []) ≡ Some Range
  -- of a write of 8 9 at place 1 into 1 2, the second byte alone may remain, with the first as it was
  pub torn : Partly (1 ∷ 2 ∷ []) 1 (8 ∷ 9 ∷ []) (1 ∷ 2 ∷ 9 ∷ [])
  -- of a set length to 1, the old length may remain, with zeros in the place of what was cut
  pub half_cut : Between (1 ∷ 2 ∷ 3 ∷ []) 1 (1 ∷ 0 ∷ 3 ∷ [])
  -- numbers have the highest byte first
  pub number : number_at (9 ∷ 0 ∷ 0 ∷ 1 ∷ 2 ∷ []) 1 ≡ 258
  pub bytes : number_bytes 258 ≡ 0 ∷ 0 ∷ 1 ∷ 2 ∷ []
