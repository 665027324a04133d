-- The super-journal that the journals of a commit name.
use Rattle.std.proofs.Common.{◌≡◌, ℕ, ◌≤◌, Bool, true, false, length, Some, Option, ap, ◌∙◌, subst}
use Rattle.std.specs.Bool.{then_some}
use Rattle.std.specs.Option.{ForSome, option_map}
use Rattle.card.specs.Meaning.{Name}
use Rattle.names.specs.declared.file_name.FileName.{FileName}
use Rattle.journaling.specs.Plan.{super_of}

-- where there are several databases it is the set's, and else none
pub name_passed :
    (file : ℕ → Name) (several : Bool) (name : FileName) (o : Option FileName) → o ≡ then_some several name → name.bytes.items ≡ file 8 →
    option_map (λ n. n.bytes.items) o ≡ super_of file several
name_passed file true name o e is = ap (option_map (λ n. n.bytes.items)) e ∙ ap (λ (n : Name). Some n) is
name_passed file false name o e is = ap (option_map (λ n. n.bytes.items)) e

-- and not empty
pub name_some : (several : Bool) (name : FileName) (o : Option FileName) → o ≡ then_some several name → 1 ≤ length name.bytes.items → ForSome o (λ n. 1 ≤ length n.bytes.items)
name_some true name o e some x is = let same : name ≡ x = cc in subst (λ (n : FileName). 1 ≤ length n.bytes.items) same some
name_some false name o e some x is = absurd (let no : ⊥ = cc in no)
