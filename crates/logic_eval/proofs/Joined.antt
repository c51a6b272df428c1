-- A text in two parts, compared part by part.
use Rattle.std.proofs.Common.{◌≡◌, ℕ, List, [], ◌∷◌, ◌++◌, ◌&&◌, ◌+◌, ◌≤◌, Bool, true, false, Ok, length, take, drop, refl, sym, ap, ◌∙◌, arith}
use Rattle.std.proofs.lemmas.Slice.Eq.{bytes_eq-Decides}
use Rattle.std.proofs.lemmas.List.{length-append}
use Rattle.std.specs.Prelude.{nat_eq, nat_lt}
use Rattle.std.specs.Str.{bytes_eq}
use Rattle.logic_values.specs.Text.{made, most_bytes}

and_grouped : (a b c : Bool) → (a && (b && c)) ≡ ((a && b) && c)
and_grouped true b c = refl
and_grouped false b c = refl

joined_parts : (f k t : List ℕ) → bytes_eq t (f ++ k) ≡ (bytes_eq (take (length f) t) f && bytes_eq (drop (length f) t) k)
joined_parts [] k t = refl
joined_parts (a ∷ f) k [] = refl
joined_parts (a ∷ f) k (b ∷ t) = ap (λ x. nat_eq b a && x) (joined_parts f k t) ∙ and_grouped (nat_eq b a) _ _

pub joined_some : (f k t rest : List ℕ) → bytes_eq (take (length f) t) f ≡ true → rest ≡ drop (length f) t → bytes_eq rest k ≡ bytes_eq t (f ++ k)
joined_some f k t rest h e = ap (λ r. bytes_eq r k) e ∙ sym (joined_parts f k t ∙ ap (λ b. b && bytes_eq (drop (length f) t) k) h)

pub joined_none : (f k t : List ℕ) → bytes_eq (take (length f) t) f ≡ false → false ≡ bytes_eq t (f ++ k)
joined_none f k t h = sym (joined_parts f k t ∙ ap (λ b. b && bytes_eq (drop (length f) t) k) h)

pub joined_same : (t s : List ℕ) → bytes_eq t s ≡ true → t ≡ s
joined_same t s = (bytes_eq-Decides t s).0

pub made_short : (f k : List ℕ) → length f + length k ≤ most_bytes → made (f ++ k) ≡ Ok (f ++ k)
made_short f k h = let short : nat_lt most_bytes (length (f ++ k)) ≡ false = grind (arith, length-append f k) in rw short refl
