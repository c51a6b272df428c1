-- What a table has for the name at a place, where the names rise.
use Rattle.std.proofs.Common.{◌≡◌, ℕ, zero, suc, ◌<◌, List, [], ◌∷◌, length, get_or, Option, Some, None, Bool, true, false, cond, Less, nat_cmp, refl, sym, ap, ◌∙◌, arith}
use Rattle.std.specs.Cmp.Lexicographic.{slice_cmp}
use Rattle.std.specs.Ordering.{is_eq}
use Rattle.std.specs.Str.{bytes_eq}
use Rattle.std.proofs.lemmas.Map.Text.{is_eq-slice_cmp}
use Rattle.std.proofs.lemmas.Slice.Eq.{bytes_eq-Decides}
use Rattle.flag_text.specs.Readers.{find_member}
use Rattle.flag_text.specs.Shape.{Shape, comes_first, names_rise}
use Rattle.flag_text.specs.View.{view, members_view}
use Rattle.flag_text.proofs.Bools.{left, right}
use Rattle.flag_text.proofs.Halving.{name_of, before_each}
use Rattle.flag_text.proofs.Views.{Named}
use Rattle.flag_references.specs.Measure.{known}

unlike : (a b : List ℕ) → slice_cmp nat_cmp a b ≡ Less → bytes_eq a b ≡ false
unlike a b e = sym (is_eq-slice_cmp a b) ∙ ap is_eq e

passed : {A : Type 0} (b : Bool) (x y : Option A) → b ≡ false → cond b x y ≡ y
passed b x y e = rw e refl

taken : {A : Type 0} (b : Bool) (x y : Option A) → b ≡ true → cond b x y ≡ x
taken b x y e = rw e refl

same : (a : List ℕ) → bytes_eq a a ≡ true
same a = (bytes_eq-Decides a a).1 refl

-- the name of a member
abbrev pub name_at : List Named → ℕ → Named → List ℕ
name_at ms i d = name_of (get_or ms i d)

pub known_at : {A : Type 0} (ms : List Named) (es : List (Option A)) → names_rise (members_view ms) ≡ true → length es ≡ length ms → (i : ℕ) (d : Named) (e : Option A) → i < length ms
    → known (members_view ms) es (name_of (get_or ms i d)) ≡ get_or es i e
known_at [] es rise each i d e h = absurd (omega arith)
known_at (m ∷ ms) [] rise each i d e h = absurd (omega arith)
known_at (m ∷ ms) (x ∷ es) rise each zero d e h = taken (bytes_eq (name_of m) (name_of m)) x _ (same (name_of m))
known_at (m ∷ ms) (x ∷ es) rise each (suc i) d e h =
    let rest = right (comes_first (name_of m) (members_view ms)) _ rise in
    let first = before_each (name_of m) ms (left _ _ rise) rest i d (omega arith) in
    passed (bytes_eq (name_of m) (name_of (get_or ms i d))) x _ (unlike (name_of m) (name_of (get_or ms i d)) first) ∙ known_at ms es rest (omega arith) i d e (omega arith)

absent_here : (b : Bool) (t : Shape) (o : Option Shape) → cond b (Some t) o ≡ None → (b ≡ false) × (o ≡ None)
absent_here true t o e = cc
absent_here false t o e = (refl, e)

pub known-absent : {A : Type 0} (ms : List Named) (es : List (Option A)) (name : List ℕ) → find_member name (members_view ms) ≡ None → known (members_view ms) es name ≡ None
known-absent [] es name h = refl
known-absent (m ∷ ms) [] name h = refl
known-absent (m ∷ ms) (x ∷ es) name h =
    let k = absent_here (bytes_eq (name_of m) name) (view m.1) (find_member name (members_view ms)) h in
    passed (bytes_eq (name_of m) name) x _ k.0 ∙ known-absent ms es name k.1
