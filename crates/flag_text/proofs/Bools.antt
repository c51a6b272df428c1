-- The parts of a test that is an "and" or an "or", and what holds of the value of an option.
use Rattle.std.proofs.Common.{◌≡◌, Bool, true, false, ◌&&◌, ◌||◌, Option, None, Some, option_map, option_and_then, refl}
use Rattle.std.specs.Prelude.{IfSome}

pub both : (a b : Bool) → a ≡ true → b ≡ true → (a && b) ≡ true
both a b p q = rw (p, q) refl

pub left : (a b : Bool) → (a && b) ≡ true → a ≡ true
left true b h = refl
left false b h = h

pub right : (a b : Bool) → (a && b) ≡ true → b ≡ true
right true b h = h
right false b h = cc

pub or_left : (a b : Bool) → (a || b) ≡ false → a ≡ false
or_left true b h = h
or_left false b h = refl

pub or_right : (a b : Bool) → (a || b) ≡ false → b ≡ false
or_right true b h = cc
or_right false b h = h

-- the test holds of the value, if there is one
abbrev pub Holds : {A : Type 0} → (A → Bool) → Option A → Type 0
Holds f o = IfSome o (λ a. f a ≡ true)

pub Holds-map : {A B : Type 0} (f : A → Bool) (g : B → Bool) (h : A → B) → ((a : A) → f a ≡ true → g (h a) ≡ true) → (o : Option A) → Holds f o → Holds g (option_map h o)
Holds-map f g h k None x = tt
Holds-map f g h k (Some a) x = k a x

pub Holds-and_then : {A B : Type 0} (f : A → Bool) (g : B → Bool) (h : A → Option B) → ((a : A) → f a ≡ true → Holds g (h a)) → (o : Option A) → Holds f o → Holds g (option_and_then h o)
Holds-and_then f g h k None x = tt
Holds-and_then f g h k (Some a) x = k a x
