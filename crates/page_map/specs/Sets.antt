-- Sets of pages, as tests: how many are in, which comes next, and a visit in ascending order.
use Rattle.std.specs.Prelude.{◌≡◌, ℕ, zero, suc, ◌+◌, ◌<◌, Bool, true, false, cond, ◌&&◌, List, [], ◌∷◌, length, ◌==◌, nat_le}

-- the most pages of a database; the first page is 1
abbrev pub page_limit : ℕ
page_limit = 4096

abbrev pub PageSet : Type 0
PageSet = ℕ → Bool

-- a database can have this page
abbrev pub is_page : ℕ → Bool
is_page p = nat_le 1 p && nat_le p page_limit

-- the set with the page p in it
abbrev pub including : PageSet → ℕ → PageSet
including s p q = cond (q == p) true (s q)

-- the set with the page p not in it
abbrev pub without : PageSet → ℕ → PageSet
without s p q = cond (q == p) false (s q)

abbrev pub one_if : Bool → ℕ
one_if true = 1
one_if false = 0

-- how many of the pages 1 to n are in
unfoldable pub counted : PageSet → ℕ → ℕ
counted s zero = 0
counted s (suc n) = counted s n + one_if (s (suc n))

-- how many of the pages of the databases below n are in, by database
unfoldable pub total : (ℕ → PageSet) → ℕ → ℕ
total sets zero = 0
total sets (suc n) = total sets n + counted (sets n) page_limit

-- no page above this one is in
abbrev pub NoneAbove : PageSet → ℕ → Type 0
NoneAbove s after = (q : ℕ) → after < q → s q ≡ false

-- p is the least page above this one that is in
pub record NextAbove (s : PageSet) (after p : ℕ) : Type 0 where
  pub above : after < p
  pub member : s p ≡ true
  pub least : (q : ℕ) → after < q → q < p → s q ≡ false

-- a visit: from a page on, always the next one, until there is none above
pub data Visit (s : PageSet) : ℕ → List ℕ → Type 0 where
  end : {after : ℕ} → NoneAbove s after → Visit s after []
  next : {after p : ℕ} {rest : List ℕ} → NextAbove s after p → Visit s p rest → Visit s after (p ∷ rest)

-- each page of the list is larger than the one before it, the first larger than `after`
abbrev pub Ascending : ℕ → List ℕ → Type 0
Ascending after [] = Unit {0}
Ascending after (p ∷ rest) = (after < p) × Ascending p rest

-- the page stands in the list
abbrev pub listed : List ℕ → ℕ → Bool
listed [] q = false
listed (p ∷ rest) q = cond (q == p) true (listed rest q)

-- a visit from the start gives each page of the set once and no other, in ascending order
pub record Visited (s : PageSet) (pages : List ℕ) : Type 0 where
  pub ascending : Ascending 0 pages
  pub each : (q : ℕ) → 0 < q → listed pages q ≡ s q
  pub number : ((q : ℕ) → page_limit < q → s q ≡ false) → length pages ≡ counted s page_limit

abbrev pub VisitLaw : PageSet → Type 0
VisitLaw s = (pages : List ℕ) → Visit s 0 pages → Visited s pages
