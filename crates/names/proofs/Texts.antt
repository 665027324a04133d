-- Lists of names: what references refer to, and names in fixed memory.
use Rattle.std.proofs.Common.{◌≡◌, ℕ, ◌+◌, ◌-◌, ◌<◌, ◌≤◌, Bool, true, false, cond, List, [], ◌++◌, length, get_or, sym, ap, ◌∙◌, subst, arith, Bor, Option, Some, None, MatchOption}
use Rattle.std.specs.List.{AllWithin, HoldsAt}
use Rattle.std.specs.Option.{unwrap_or}
use Rattle.std.proofs.lemmas.Bool.{leb-true, and_parts}
use Rattle.std.proofs.lemmas.List.{get_or-map, length-map}
use Rattle.few.specs.Items.{Few}
use Rattle.names.specs.Names.{Bytes, Each, texts, held, listed, length_ok, named, is_file, file_name, journal_ending, super_ending}
use Rattle.names.specs.Refused.{FirstBad}
use Rattle.names.specs.declared.file_name.FileName.{FileName}
use Rattle.names.proofs.Files.{named_file, database_is_file, journal_is_file, super_is_file, name_database, name_journal, name_super}

pub text_at : (d : Bor Bytes) (rs : List (Bor Bytes)) (i : ℕ) → i < length rs → listed (texts rs) i ≡ (get_or rs i d).now
text_at d rs i lt = get_or-map (λ r. r.now) rs i d [] lt

pub held_at : (ws : List (Few ℕ)) (i : ℕ) (w : Few ℕ) → i < length ws → w ≡ get_or ws i w → w.items ≡ listed (held ws) i
held_at ws i w lt is = ap (λ (v : Few ℕ). v.items) is ∙ sym (get_or-map (λ v. v.items) ws i w [] lt)

pub length_texts : (rs : List (Bor Bytes)) → length (texts rs) ≡ length rs
length_texts rs = length-map rs (λ r. r.now)

pub length_held : (ws : List (Few ℕ)) → length (held ws) ≡ length ws
length_held ws = length-map ws (λ w. w.items)

-- the first text of which a test is false
pub first_bad : (good : Bytes → Bool) (rs : List (Bor Bytes)) (r : Option ℕ) →
    MatchOption r (AllWithin (λ t. good t.now ≡ true) rs 0 (length rs)) (λ i. (i < length rs) × HoldsAt (λ t. good t.now ≡ false) rs i × AllWithin (λ t. good t.now ≡ true) rs 0 i) →
    MatchOption r (Each good (texts rs)) (λ i. FirstBad good (texts rs) i)
first_bad good rs None all = λ i lt.
    let d : Bor Bytes = record { ref_ptr = (0, 0); now = [] } in
    let n = length_texts rs in
    ap good (text_at d rs i (omega arith)) ∙ all i d (omega arith) (omega arith)
first_bad good rs (Some i) w =
    let d : Bor Bytes = record { ref_ptr = (0, 0); now = [] } in
    let n = length_texts rs in
    let lt : i < length rs = w.0 in
    record {
      within = omega arith;
      bad = ap good (text_at d rs i lt) ∙ w.1 d;
      before = λ j less. ap good (text_at d rs j (omega arith)) ∙ w.2 j d (omega arith) less;
    }

-- a name of a list that was checked for its lengths
pub short_name : (d : Bor Bytes) (rs : List (Bor Bytes)) (i : ℕ) → Each length_ok (texts rs) → i < length rs → length (get_or rs i d).now ≤ 24
short_name d rs i each lt =
    let n = length_texts rs in
    subst (λ (w : Bytes). length w ≤ 24) (text_at d rs i lt) (leb-true (length (listed (texts rs) i)) 24 (and_parts _ _ (each i (omega arith))).1)

-- the file of a number is there, and has its name
module _ (ws : List (Few ℕ)) (few : length (held ws) ≤ 4) (k : ℕ) where
  abbrev Goes : Bytes → Type 0
  Goes w = (is_file (length (held ws)) k ≡ true) × (w ≡ file_name (listed (held ws)) k)

  pub goes_database : (i : ℕ) (w : Few ℕ) → i < length ws → k ≡ i → w ≡ get_or ws i w → Goes w.items
  goes_database i w lt e is =
      let n = length_held ws in (
        database_is_file (length (held ws)) k (omega arith),
        held_at ws i w lt is ∙ ap (listed (held ws)) (sym e) ∙ sym (name_database (listed (held ws)) k (omega arith)),
      )

  pub goes_journal : (i : ℕ) (w : Few ℕ) → i < length ws → k ≡ 4 + i → w ≡ get_or ws i w → Goes (w.items ++ journal_ending)
  goes_journal i w lt e is =
      let n = length_held ws in
      let place : i ≡ k - 4 = omega arith in (
        subst (λ (j : ℕ). is_file (length (held ws)) j ≡ true) (sym e) (journal_is_file (length (held ws)) i (omega arith)),
        ap (λ (v : Bytes). v ++ journal_ending) (held_at ws i w lt is ∙ ap (listed (held ws)) place) ∙ sym (name_journal (listed (held ws)) k (omega arith) (omega arith)),
      )

  pub goes_super : (w : Few ℕ) → 0 < length ws → k ≡ 8 → w ≡ get_or ws 0 w → Goes (w.items ++ super_ending)
  goes_super w some e is = (
    subst (λ (j : ℕ). is_file (length (held ws)) j ≡ true) (sym e) (super_is_file (length (held ws))),
    ap (λ (v : Bytes). v ++ super_ending) (held_at ws 0 w some is) ∙ sym (name_super (listed (held ws)) k (omega arith)),
  )

-- the name of the file of a number, or none
pub named_or : (names : List Bytes) (k : ℕ) (o : Option FileName) (d : FileName) → d.bytes.items ≡ [] →
    MatchOption o (is_file (length names) k ≡ false) (λ f. (is_file (length names) k ≡ true) × (f.bytes.items ≡ file_name (listed names) k)) →
    (unwrap_or o d).bytes.items ≡ named names k
unfolding named
named_or names k None d empty not = empty ∙ sym (ap (λ (b : Bool). cond b (file_name (listed names) k) []) not)
named_or names k (Some f) d empty w = w.1 ∙ sym (named_file names k w.0)
