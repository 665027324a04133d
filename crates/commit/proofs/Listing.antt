-- The names of the journals, put one after the other into the buffer.
use Rattle.std.proofs.Common.{◌≡◌, ℕ, ◌+◌, ◌*◌, ◌<◌, ◌≤◌, List, [], ◌∷◌, ◌++◌, get_or, map, length, take, sym, refl, ap, ◌∙◌, ap₂, arith}
use Rattle.std.proofs.lemmas.List.{append_assoc, map-append, take_all, take_more}
use Rattle.card.specs.Meaning.{Bytes, Name}
use Rattle.super_journal.specs.Super.{super_journal_bytes}

super_append : (ms ns : List Name) → super_journal_bytes (ms ++ ns) ≡ super_journal_bytes ms ++ super_journal_bytes ns
unfolding super_journal_bytes
super_append [] ns = refl
super_append (n ∷ ms) ns = ap (λ (x : Bytes). n ++ (0 ∷ x)) (super_append ms ns) ∙ sym (append_assoc n (0 ∷ super_journal_bytes ms) (super_journal_bytes ns))

super_one : (n : Name) → super_journal_bytes (n ∷ []) ≡ n ++ (0 ∷ [])
unfolding super_journal_bytes
super_one n = refl

-- the names of the journals before place i stand in the buffer
pub record Listing (name : ℕ → Name) (list : List ℕ) (i : ℕ) (b : Bytes) (end : ℕ) : Type 0 where
  pub filled : take end b ≡ super_journal_bytes (map name (take i list))
  pub few : end ≤ 33 * i

module _ (name : ℕ → Name) (list : List ℕ) where
  pub listing_none : (b : Bytes) → Listing name list 0 b 0
  unfolding super_journal_bytes
  listing_none b = record { filled = refl; few = omega arith }

  pub listing_more :
      (i : ℕ) (b b₁ : Bytes) (end : ℕ) → i < length list → length (name (get_or list i 0)) ≤ 32 → Listing name list i b end →
      take (end + length (name (get_or list i 0)) + 1) b₁ ≡ take end b ++ (name (get_or list i 0) ++ (0 ∷ [])) → Listing name list (i + 1) b₁ (end + length (name (get_or list i 0)) + 1)
  listing_more i b b₁ end lt short g put =
      let n = name (get_or list i 0) in
      record {
        filled =
            put ∙ ap₂ (λ (x y : Bytes). x ++ y) g.filled (sym (super_one n)) ∙ sym (super_append (map name (take i list)) (n ∷ []))
            ∙ ap super_journal_bytes (sym (ap (map name) (take_more list i 0 lt) ∙ map-append name (take i list) (get_or list i 0 ∷ [])));
        few = omega (arith, g.few, short);
      }

  pub listing_all : (all : List ℕ) → list ≡ all → (i : ℕ) (b : Bytes) (end : ℕ) → length list ≤ i → Listing name list i b end → take end b ≡ super_journal_bytes (map name all)
  listing_all all same i b end past g = g.filled ∙ ap (λ (xs : List ℕ). super_journal_bytes (map name xs)) (take_all i list past ∙ same)
