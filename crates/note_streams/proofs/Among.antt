-- What stands in a list, by recursion.
use Rattle.std.proofs.Common.{◌≡◌, ◌<◌, ◌⊎◌, ℕ, zero, suc, List, [], ◌∷◌, ◌++◌, length, map, get_or, refl, ap, subst, inl, inr, arith}
use Rattle.std.specs.List.{AllByRecursion, Contains}

abbrev pub In : {X : Type 0} → X → List X → Type 0
In x [] = ⊥
In x (y ∷ ys) = (y ≡ x) ⊎ In x ys

in_at : {X : Type 0} (xs : List X) (x : X) (k : ℕ) → k < length xs → get_or xs k x ≡ x → In x xs
in_at [] x k below is = absurd (omega (arith, below))
in_at (y ∷ ys) x zero below is = inl is
in_at (y ∷ ys) x (suc k) below is = inr (in_at ys x k (omega (arith, below)) is)

pub to_in : {X : Type 0} (xs : List X) (x : X) → Contains xs x → In x xs
to_in xs x there = in_at xs x there.0 there.1 there.2

pub from_in : {X : Type 0} (xs : List X) (x : X) → In x xs → Contains xs x
from_in [] x there = absurd there
from_in (y ∷ ys) x (inl same) = (0, omega arith, same)
from_in (y ∷ ys) x (inr later) = let more = from_in ys x later in (suc more.0, omega (arith, more.1), more.2)

-- what a function gives of the members
pub in_map : {X Y : Type 0} (f : X → Y) (xs : List X) (y : Y) → In y (map f xs) → (x : X) × In x xs × (f x ≡ y)
in_map f [] y there = absurd there
in_map f (x ∷ xs) y (inl same) = (x, inl refl, same)
in_map f (x ∷ xs) y (inr later) = let more = in_map f xs y later in (more.0, inr more.1, more.2)

pub map_in : {X Y : Type 0} (f : X → Y) (xs : List X) (x : X) → In x xs → In (f x) (map f xs)
map_in f [] x there = absurd there
map_in f (y ∷ ys) x (inl same) = inl (ap f same)
map_in f (y ∷ ys) x (inr later) = inr (map_in f ys x later)

pub in_front : {X : Type 0} (xs ys : List X) (x : X) → In x xs → In x (xs ++ ys)
in_front [] ys x there = absurd there
in_front (z ∷ zs) ys x (inl same) = inl same
in_front (z ∷ zs) ys x (inr later) = inr (in_front zs ys x later)

pub in_middle : {X : Type 0} (xs ys : List X) (x : X) → In x (xs ++ x ∷ ys)
in_middle [] ys x = inl refl
in_middle (z ∷ zs) ys x = inr (in_middle zs ys x)

-- what holds of each member
pub all_of : {X : Type 0} (P : X → Type 0) (xs : List X) → ((x : X) → In x xs → P x) → AllByRecursion P xs
all_of P [] each = tt
all_of P (x ∷ xs) each = (each x (inl refl), all_of P xs (λ y there. each y (inr there)))

pub of_all : {X : Type 0} (P : X → Type 0) (xs : List X) (x : X) → AllByRecursion P xs → In x xs → P x
of_all P [] x all there = absurd there
of_all P (y ∷ ys) x all (inl same) = subst P same all.0
of_all P (y ∷ ys) x all (inr later) = of_all P ys x all.1 later

pub all_both : {X : Type 0} (P : X → Type 0) (xs ys : List X) → AllByRecursion P xs → AllByRecursion P ys → AllByRecursion P (xs ++ ys)
all_both P [] ys one other = other
all_both P (x ∷ xs) ys one other = (one.0, all_both P xs ys one.1 other)
