-- The files of two small lists of names are as the examples say.
use Rattle.std.proofs.Common.{◌≡◌, ℕ, ◌+◌, ◌-◌, ◌<◌, ◌≤◌, true, cond, eqb, ◌⊎◌, length, get_or, refl, sym, ap, ◌∙◌, inl, inr, arith}
use native.Mathlib.Decide.{ℕ_discrete}
use Rattle.names.specs.Names.{Bytes, is_file, file_name, listed, named, Alike}
use Rattle.names.specs.Examples.{Examples, a_and_b}
use Rattle.names.proofs.Files.{ways}

-- the number of a file of the databases a and b, by its name
abbrev number : Bytes → ℕ
number w = cond (eqb (length w) 1) (get_or w 0 0 - 97) (cond (eqb (length w) 9) (get_or w 0 0 - 93) 8)

name : ℕ → Bytes
name = file_name (listed a_and_b)

numbered : (k : ℕ) → is_file 2 k ≡ true → number (name k) ≡ k
unfolding name file_name
numbered k is = by (ways 2 k is)
  where
    at : (i : ℕ) → number (name i) ≡ i → k ≡ i → number (name k) ≡ k
    at i right e = ap (λ (n : ℕ). number (name n)) e ∙ right ∙ sym e

    one_of : (i : ℕ) → number (name i) ≡ i → number (name (i + 1)) ≡ i + 1 → i ≤ k → k < i + 2 → number (name k) ≡ k
    one_of i right next low high = which (ℕ_discrete k i)
      where
        which : Dec (k ≡ i) → number (name k) ≡ k
        which (yes e) = at i right e
        which (no ne) = at (i + 1) next (omega arith)

    by : (k < 2) ⊎ (((4 ≤ k) × (k < 6)) ⊎ (k ≡ 8)) → number (name k) ≡ k
    by (inl low) = one_of 0 refl refl (omega arith) low
    by (inr (inl within)) = one_of 4 refl refl within.0 within.1
    by (inr (inr e)) = at 8 refl e

apart : (j k : ℕ) → Alike a_and_b j k → ⊥
unfolding name
apart j k (is-j, is-k, less, same) = omega (arith, sym (numbered j is-j) ∙ ap number same ∙ numbered k is-k)

pub examples : Examples
unfolding named file_name
examples =
    record {
      files = refl;
      first = refl;
      second = refl;
      first_journal = refl;
      second_journal = refl;
      super_journal = refl;
      absent = refl;
      apart = apart;
      alike = (refl, refl, omega arith, refl);
    }
