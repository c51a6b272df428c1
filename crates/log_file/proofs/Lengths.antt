-- How many bytes a file has as it is cut and grows.
use Rattle.std.proofs.Common.{◌≡◌, ◌≤◌, ◌<◌, ◌+◌, ◌-◌, ◌^◌, ℕ, List, length, min, take, Option, Some, None, IfSome, refl, sym, ap, subst, arith}
use Rattle.std.proofs.Math.Logic.{∥∥₁_map}
use Rattle.std.proofs.lemmas.List.{length-append, length-take-le, take_all}
use Rattle.std.specs.Io.KnownBytes.{append_known}
use Rattle.log_file.specs.File.{IsLength, cut_known}
use Rattle.log_file.specs.Journal.{LeavesLines}
use Rattle.log_file.specs.Line.{EndsLine, IsWholePart}

-- a length in 64 bits
pub exact_length : (n : ℕ) (bytes : Option (List ℕ)) → n < 2 ^ 64 → IfSome bytes (λ bs. n ≡ length bs) → ∥ IsLength n bytes ∥₁
exact_length n None small h = ∣ tt ∣₁
exact_length n (Some bs) small h = ∣ omega (arith, small, h) ∣₁

-- of what was cut
pub cut_length : (n : ℕ) (old new : Option (List ℕ)) → new ≡ cut_known n old → IfSome old (λ bs. IsWholePart bs n) → IfSome new (λ bs. n ≡ length bs)
cut_length n None new is h = subst (λ (o : Option (List ℕ)). IfSome o (λ bs. n ≡ length bs)) (sym is) tt
cut_length n (Some bs) new is h = subst (λ (o : Option (List ℕ)). IfSome o (λ bs. n ≡ length bs)) (sym is) (sym (length-take-le n bs h.0))

grown : (len n : ℕ) (bytes : Option (List ℕ)) (buf : List ℕ) → n ≤ length buf → IsLength len bytes → IsLength (min (len + n) (2 ^ 64 - 1)) (append_known bytes (take n buf))
grown len n None buf most h = tt
grown len n (Some bs) buf most h = omega (arith, h, length-append bs (take n buf), length-take-le n buf most)

-- of what has grown
pub grown_length : (len n : ℕ) (old new : Option (List ℕ)) (buf : List ℕ) → n ≤ length buf → new ≡ append_known old (take n buf) → ∥ IsLength len old ∥₁ → ∥ IsLength (min (len + n) (2 ^ 64 - 1)) new ∥₁
grown_length len n old new buf most is h = ∥∥₁_map h (λ (t : IsLength len old). subst (IsLength (min (len + n) (2 ^ 64 - 1))) (sym is) (grown len n old buf most t))

-- of what stays
pub same_length : (len : ℕ) (old new : Option (List ℕ)) → new ≡ old → ∥ IsLength len old ∥₁ → ∥ IsLength len new ∥₁
same_length len old new is h = subst (λ (o : Option (List ℕ)). ∥ IsLength len o ∥₁) (sym is) h

-- the whole lines are left
pub left : (n : ℕ) (old new : Option (List ℕ)) → new ≡ cut_known n old → IfSome old (λ bs. IsWholePart bs n) → LeavesLines old new
left n None new is h = is
left n (Some bs) new is h = (n, h, is)

-- all is whole lines
pub all_left : (len n : ℕ) (old : Option (List ℕ)) → len ≤ n → IfSome old (λ bs. len ≡ length bs) → IfSome old (λ bs. IsWholePart bs n) → LeavesLines old old
all_left len n None most is h = refl
all_left len n (Some bs) most is h = (n, h, ap Some (sym (take_all n bs (omega (arith, most, is)))))

pub all_length : (len n : ℕ) (old : Option (List ℕ)) → len ≤ n → IfSome old (λ bs. len ≡ length bs) → IfSome old (λ bs. IsWholePart bs n) → IfSome old (λ bs. n ≡ length bs)
all_length len n None most is h = tt
all_length len n (Some bs) most is h = omega (arith, most, is, h.0)

-- what opens is whole lines
pub left_ends : (old new : Option (List ℕ)) → LeavesLines old new → IfSome new EndsLine
left_ends None new h = subst (λ (o : Option (List ℕ)). IfSome o EndsLine) (sym h) tt
left_ends (Some bs) new h = subst (λ (o : Option (List ℕ)). IfSome o EndsLine) (sym h.2) h.1.1
