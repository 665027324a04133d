-- What the files of a set hold: of its databases what the card holds, so that a commit of either changes the
-- same; of other numbers zeros, so that all of them can hold what is stored.
use Rattle.std.proofs.Common.{◌≡◌, ℕ, suc, ◌*◌, ◌<◌, ◌≤◌, ◌⊎◌, List, [], ◌∷◌, map, length, get_or, replicate, sym, ap, ◌∙◌, ap₂, refl, inl, inr, arith}
use Rattle.std.proofs.lemmas.Bool.{cases_lt, cond_below, cond_above}
use Rattle.std.proofs.lemmas.List.{length-replicate}
use Rattle.card.specs.Meaning.{Meaning, Bytes}
use Rattle.card.specs.Calls.{part}
use Rattle.names.specs.Files.{how_many}
use Rattle.pager.specs.declared.memory.Memory.{Memory}
use Rattle.pager.specs.Changed.{look}
use Rattle.pager.specs.Sound.{map_of}
use Rattle.pager.specs.View.{fields, file_page, joined, or_file, view, Stored}
use Rattle.page_map.specs.Listed.{above}
use Rattle.journaling.specs.Changes.{contents, recorded, changed_list, change_of, changes}
use Rattle.journaling.specs.Plan.{Change, place}
use Rattle.commit.proofs.Listed.{listed_in}
use Rattle.store.specs.declared.set.Set.{Set}
use Rattle.store.specs.Reads.{file_of, files_of}

-- a change, by what the database's file holds
change_by : List ℕ → Memory → ℕ → Bytes → Change
change_by base m d file = record {
  database = d;
  stored = file;
  size = get_or base d 0;
  recorded = recorded (map_of m.maps d) (get_or base d 0);
  pages = map (λ p. record { page = p; bytes = part (joined (get_or m.sizes d 0) (λ q. or_file (look (fields m).changed d q) (file_page file q))) (place p) 512 }) (above (map_of m.maps d) 0 4096);
}

map_same : (f g : ℕ → Change) (xs : List ℕ) → ((i : ℕ) → i < length xs → f (get_or xs i 0) ≡ g (get_or xs i 0)) → map f xs ≡ map g xs
map_same f g [] same = refl
map_same f g (x ∷ xs) same = ap₂ (λ (c : Change) (cs : List Change). c ∷ cs) (same 0 (omega arith)) (map_same f g xs (λ i lt. same (suc i) (omega (arith, lt))))

-- only the files of the databases count
changes_same :
    (f g : ℕ → Bytes) (base : List ℕ) (m : Memory) (n : ℕ) → ((d : ℕ) → d < n → f d ≡ g d) → changes f base (view f m) n ≡ changes g base (view g m) n
unfolding change_by
changes_same f g base m n same =
    map_same (change_of f base (view f m)) (change_of g base (view g m)) (changed_list (map_of m.maps) n)
    (λ i lt. let d = get_or (changed_list (map_of m.maps) n) i 0 in ap (change_by base m d) (same d (listed_in (map_of m.maps) n (changed_list (map_of m.maps) n) refl i lt)))

module _ {C : Type 0} (m : Meaning C) (s : Set C) where
  pub of_database : (d : ℕ) → d < how_many s.names → files_of m s d ≡ contents (m.holds s.card (file_of s d))
  of_database d lt = sym (cond_below d (how_many s.names) _ _ lt)

  pub same_changes :
      (base : List ℕ) (memory : Memory) →
      changes (λ d. contents (m.holds s.card (file_of s d))) base (view (λ d. contents (m.holds s.card (file_of s d))) memory) (how_many s.names)
      ≡ changes (files_of m s) base (view (files_of m s) memory) (how_many s.names)
  same_changes base memory = changes_same _ _ base memory (how_many s.names) (λ d lt. sym (of_database d lt))

  -- where the files of the databases hold so many whole pages as are stored, those of all numbers do
  pub all_stored :
      ((d : ℕ) → d < how_many s.names → length (contents (m.holds s.card (file_of s d))) ≡ get_or s.stored.rows d 0 * 512) → Stored (files_of m s) s.stored.rows
  all_stored whole d = by (cases_lt d (how_many s.names))
    where
      by : (d < how_many s.names) ⊎ (how_many s.names ≤ d) → length (files_of m s d) ≡ get_or s.stored.rows d 0 * 512
      by (inl lt) = ap length (of_database d lt) ∙ whole d lt
      by (inr past) =
          ap length (sym (cond_above d (how_many s.names) (contents (m.holds s.card (file_of s d))) _ (replicate (get_or s.stored.rows d 0 * 512) 0) past refl))
          ∙ length-replicate (get_or s.stored.rows d 0 * 512) 0
