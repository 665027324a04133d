-- Numbers in files: four bytes, the highest first.
use Rattle.std.specs.Prelude.{ℕ, ◌+◌, ◌*◌, ◌/◌, ◌%◌, [], ◌∷◌, slice_index}
use Rattle.card.specs.Meaning.{Bytes}

-- the number at a place
abbrev pub number_at : Bytes → ℕ → ℕ
number_at s i = slice_index s i * 16777216 + slice_index s (i + 1) * 65536 + slice_index s (i + 2) * 256 + slice_index s (i + 3)

-- the bytes of a number
abbrev pub number_bytes : ℕ → Bytes
number_bytes n = (n / 16777216 % 256) ∷ (n / 65536 % 256) ∷ (n / 256 % 256) ∷ (n % 256) ∷ []
