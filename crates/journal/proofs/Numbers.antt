-- Numbers at places of bytes and of their parts.
use Rattle.std.proofs.Common.{◌≡◌, ℕ, zero, suc, ◌+◌, ◌*◌, ◌/◌, ◌%◌, ◌<◌, ◌≤◌, [], ◌∷◌, length, get_or, take, drop, sym, ap, ◌∙◌, arith, length-drop, length-take}
use Rattle.std.proofs.lemmas.List.{get_or-take, get_or-drop, ext_get_or}
use Rattle.card.specs.Meaning.{Bytes}
use Rattle.card.specs.Calls.{part}
use Rattle.card.specs.Numbers.{number_at, number_bytes}
use Rattle.journal.specs.Format.{Octets}

pub number_take : (b : Bytes) (n i : ℕ) → i + 4 ≤ n → number_at (take n b) i ≡ number_at b i
number_take b n i h =
    omega (arith, get_or-take n b i 0 (omega arith), get_or-take n b (i + 1) 0 (omega arith), get_or-take n b (i + 2) 0 (omega arith), get_or-take n b (i + 3) 0 (omega arith))

pub number_drop : (b : Bytes) (n i : ℕ) → number_at (drop n b) i ≡ number_at b (n + i)
number_drop b n i =
    omega (arith, get_or-drop n b i 0, at 1, at 2, at 3)
  where
    at : (k : ℕ) → get_or (drop n b) (i + k) 0 ≡ get_or b (n + i + k) 0
    at k = get_or-drop n b (i + k) 0 ∙ ap (λ (m : ℕ). get_or b m 0) (omega arith)

-- the first number of a part
pub number_part : (b : Bytes) (i n : ℕ) → 4 ≤ n → number_at (part b i n) 0 ≡ number_at b i
number_part b i n h = number_take (drop i b) n 0 h ∙ number_drop b i 0 ∙ ap (number_at b) (omega arith)

-- bytes have the bytes of the number that they are
pub bytes_of_number : (a b c d : ℕ) → a < 256 → b < 256 → c < 256 → d < 256 → number_bytes (a * 16777216 + b * 65536 + c * 256 + d) ≡ a ∷ b ∷ c ∷ d ∷ []
bytes_of_number a b c d ha hb hc hd = λ i. one i ∷ two i ∷ three i ∷ four i ∷ []
  where
    n : ℕ
    n = a * 16777216 + b * 65536 + c * 256 + d

    one : n / 16777216 % 256 ≡ a
    one = omega arith

    two : n / 65536 % 256 ≡ b
    two = omega arith

    three : n / 256 % 256 ≡ c
    three = omega arith

    four : n % 256 ≡ d
    four = omega arith

four_bytes : (b : Bytes) (i : ℕ) → i + 4 ≤ length b → part b i 4 ≡ get_or b i 0 ∷ get_or b (i + 1) 0 ∷ get_or b (i + 2) 0 ∷ get_or b (i + 3) 0 ∷ []
four_bytes b i h = ext_get_or 0 _ _ (simp (length-take, length-drop) (omega arith)) each
  where
    each : (k : ℕ) → k < length (part b i 4) → get_or (part b i 4) k 0 ≡ get_or (get_or b i 0 ∷ get_or b (i + 1) 0 ∷ get_or b (i + 2) 0 ∷ get_or b (i + 3) 0 ∷ []) k 0
    each zero lt = get_or-take 4 (drop i b) 0 0 (omega arith) ∙ get_or-drop i b 0 0 ∙ ap (λ (m : ℕ). get_or b m 0) (omega arith)
    each (suc zero) lt = get_or-take 4 (drop i b) 1 0 (omega arith) ∙ get_or-drop i b 1 0
    each (suc (suc zero)) lt = get_or-take 4 (drop i b) 2 0 (omega arith) ∙ get_or-drop i b 2 0
    each (suc (suc (suc zero))) lt = get_or-take 4 (drop i b) 3 0 (omega arith) ∙ get_or-drop i b 3 0
    each (suc (suc (suc (suc k)))) lt = absurd (omega (arith, length-take 4 (drop i b)))

pub part_number : (b : Bytes) (i : ℕ) → Octets b → i + 4 ≤ length b → part b i 4 ≡ number_bytes (number_at b i)
part_number b i fit h =
    four_bytes b i h ∙ sym (bytes_of_number (get_or b i 0) (get_or b (i + 1) 0) (get_or b (i + 2) 0) (get_or b (i + 3) 0) (fit i) (fit (i + 1)) (fit (i + 2)) (fit (i + 3)))
