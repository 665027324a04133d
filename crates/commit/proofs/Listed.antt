-- The list of the databases that have a changed page.
use Rattle.std.proofs.Common.{◌≡◌, ℕ, ◌<◌, ◌≤◌, List, get_or, length, sym, subst, arith}
use Rattle.std.specs.List.{range_with_len}
use Rattle.std.proofs.lemmas.List.Elements.{All-filter}
use Rattle.std.proofs.lemmas.List.FromFn.{length-range_with_len, get_or-range_with_len}
use Rattle.std.proofs.lemmas.List.Sums.{length-filter, count_by-le-length}
use Rattle.page_map.specs.Sets.{PageSet}
use Rattle.journaling.specs.Changes.{is_changed, changed_list}

-- there are no more of them than databases
pub list_few : (changed : ℕ → PageSet) (n : ℕ) → length (changed_list changed n) ≤ n
unfolding changed_list
list_few changed n =
    omega (arith, length-filter (is_changed changed) (range_with_len 0 n), count_by-le-length (is_changed changed) (range_with_len 0 n), length-range_with_len 0 n)

-- each is one of the databases
listed_at : (changed : ℕ → PageSet) (n i : ℕ) → i < length (changed_list changed n) → get_or (changed_list changed n) i 0 < n
unfolding changed_list
listed_at changed n i lt = All-filter (is_changed changed) (λ d. d < n) (range_with_len 0 n) in_range i 0 lt
  where
    in_range : (k d : ℕ) → k < length (range_with_len 0 n) → get_or (range_with_len 0 n) k d < n
    in_range k d low =
        let short : k < n = omega (arith, low, length-range_with_len 0 n) in
        omega (arith, get_or-range_with_len 0 n k d short, short)

-- and so in a list that is this one
pub listed_in : (changed : ℕ → PageSet) (n : ℕ) (list : List ℕ) → list ≡ changed_list changed n → (i : ℕ) → i < length list → get_or list i 0 < n
listed_in changed n list is = subst (λ (xs : List ℕ). (i : ℕ) → i < length xs → get_or xs i 0 < n) (sym is) (listed_at changed n)
