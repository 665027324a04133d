-- What a file's length and the read of its front tell of it.
use Rattle.std.proofs.Common.{◌≡◌, ℕ, ◌+◌, ◌-◌, min, ◌++◌, length, take, drop, Some, None, Option, sym, refl, ap, ◌∙◌, ap₂, arith, length-take}
use Rattle.std.proofs.lemmas.List.{ext_get_or, get_or-take, take_at}
use Rattle.card.specs.Meaning.{Bytes}
use Rattle.card.specs.Calls.{length_told, overwrite}

pub no_file : (f : Option Bytes) → None ≡ length_told f → f ≡ None
no_file None e = refl
no_file (Some b) e = let z : ◌≡◌ {A = ℕ} 0 1 = cc in absurd (omega arith)

pub a_file : (f : Option Bytes) (n : ℕ) → Some n ≡ length_told f → (b : Bytes) × (f ≡ Some b) × (n ≡ length b)
a_file None n e = let z : ◌≡◌ {A = ℕ} 0 1 = cc in absurd (omega arith)
a_file (Some b) n e = (b, refl, cc)

-- as much as was asked for is the front of the file
pub front_is : (b : Bytes) (n : ℕ) → n ≡ min (length b) 17724 → take n b ≡ take 17724 b
front_is b n e = ext_get_or 0 (take n b) (take 17724 b) (simp length-take (omega arith)) (λ k lt. get_or-take n b k 0 (omega (arith, length-take n b)) ∙ sym (get_or-take 17724 b k 0 (omega (arith, length-take n b))))

module _ (b buf : Bytes) (t n : ℕ) (long : n ≡ length b) (taken : t ≡ min n 17724) (room : length buf ≡ 17724) where
  pub asked : length (take (t - 0) buf) ≡ min (length b) 17724
  asked = length-take (t - 0) buf ∙ omega arith

  module _ (new : Bytes) (read : new ≡ take (length (take (t - 0) buf)) b) where
    pub new_is : new ≡ take 17724 b
    new_is = read ∙ front_is b (length (take (t - 0) buf)) asked

    new_long : length new ≡ t - 0
    new_long = ap length new_is ∙ length-take 17724 b ∙ omega arith

    pub front_read : take 17724 b ≡ take (t - 0) (new ++ drop (t - 0) buf)
    front_read = sym (take_at new (drop (t - 0) buf) (t - 0) new_long ∙ new_is)

    pub whole_read : new ++ drop (t - 0) buf ≡ overwrite buf 0 (take 17724 b)
    whole_read =
        let size : t - 0 ≡ 0 + length (take 17724 b) = sym new_long ∙ ap length new_is ∙ omega arith in
        ap₂ (λ (x : Bytes) (m : ℕ). x ++ drop m buf) new_is size
