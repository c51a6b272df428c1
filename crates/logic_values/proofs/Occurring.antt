-- A text occurs in another where the other is made of what stands before it, the text, and what stands behind it.
use Rattle.std.proofs.Common.{◌≡◌, ℕ, List, [], ◌∷◌, ◌++◌, length, nat_eq, ◌==◌, Bool, true, false, ◌||◌, ◌↔◌, refl, sym, ap, ap₂, ◌∙◌, arith}
use Rattle.std.proofs.lemmas.Bool.{eqb-true}
use Rattle.std.specs.List.{starts_with}
use Rattle.std.specs.Str.Iter.{HasSubslice}
use Rattle.flag_text.proofs.Bools.{left, right}
use Rattle.logic_values.specs.Text.{occurs_in}

same : (x : ℕ) → nat_eq x x ≡ true
same x = grind arith

alike : (x y : ℕ) → nat_eq x y ≡ true → x ≡ y
alike x y h = grind (arith, h)

front : (s b : List ℕ) → starts_with nat_eq (s ++ b) s ≡ true
front [] b = refl
front (x ∷ s) b = rw (same x) (front s b)

behind : (s bs : List ℕ) → starts_with nat_eq bs s ≡ true → (b : List ℕ) × (bs ≡ s ++ b)
behind [] bs h = (bs, refl)
behind (x ∷ s) [] h = cc
behind (x ∷ s) (y ∷ bs) h =
    let k = behind s bs (right (nat_eq x y) _ h) in
    let e : x ≡ y = alike x y (left (nat_eq x y) _ h) in
    (k.0, ap₂ (λ z zs. z ∷ zs) (sym e) k.1)

or_left : (a b : Bool) → a ≡ true → (a || b) ≡ true
or_left a b h = rw h refl

or_right : (a b : Bool) → b ≡ true → (a || b) ≡ true
or_right true b h = refl
or_right false b h = h

empty_occurs : (b : List ℕ) → occurs_in [] b ≡ true
empty_occurs [] = refl
empty_occurs (x ∷ b) = refl

occurs_here : (s b : List ℕ) → occurs_in s (s ++ b) ≡ true
occurs_here [] b = empty_occurs b
occurs_here (x ∷ s) b = or_left (starts_with nat_eq (x ∷ (s ++ b)) (x ∷ s)) _ (front (x ∷ s) b)

occurs_behind : (s a b : List ℕ) → occurs_in s (a ++ (s ++ b)) ≡ true
occurs_behind s [] b = occurs_here s b
occurs_behind s (x ∷ a) b = or_right (starts_with nat_eq (x ∷ (a ++ (s ++ b))) s) _ (occurs_behind s a b)

of_length_zero : (s : List ℕ) → (length s == 0) ≡ true → s ≡ []
of_length_zero [] h = refl
of_length_zero (x ∷ s) h = let z : length (x ∷ s) ≡ 0 = eqb-true (length (x ∷ s)) 0 h in absurd (omega arith)

later : (s bs : List ℕ) (x : ℕ) → HasSubslice bs s → HasSubslice (x ∷ bs) s
later s bs x h = (x ∷ h.0, h.1, ap (λ zs. x ∷ zs) h.2)

first_or_later : (s bs : List ℕ) (x : ℕ) (t u : Bool) → starts_with nat_eq (x ∷ bs) s ≡ t → (u ≡ true → HasSubslice bs s) → (t || u) ≡ true → HasSubslice (x ∷ bs) s
first_or_later s bs x true u e rest h = let k = behind s (x ∷ bs) e in ([], k.0, k.1)
first_or_later s bs x false u e rest h = later s bs x (rest h)

places : (s bs : List ℕ) → occurs_in s bs ≡ true → HasSubslice bs s
places s [] h = ([], [], ap (λ z. z ++ []) (sym (of_length_zero s h)))
places s (x ∷ bs) h = first_or_later s bs x (starts_with nat_eq (x ∷ bs) s) (occurs_in s bs) refl (places s bs) h

from_parts : (s bs : List ℕ) → HasSubslice bs s → occurs_in s bs ≡ true
from_parts s bs h = ap (occurs_in s) h.2 ∙ occurs_behind s h.0 h.1

both_ways : (r x : Bool) → (r ≡ true → x ≡ true) → (x ≡ true → r ≡ true) → r ≡ x
both_ways true x f g = sym (f refl)
both_ways false true f g = g refl
both_ways false false f g = refl

-- a test that is true just where the text stands in the other
pub occurs_in_is : (r : Bool) (s bs : List ℕ) → (r ≡ true) ↔ HasSubslice bs s → r ≡ occurs_in s bs
occurs_in_is r s bs h = both_ways r (occurs_in s bs) (λ e. from_parts s bs (h.0 e)) (λ e. h.1 (places s bs e))
