-- What holds of a slice of words and of a number holds of the words that were read, and of the status that has the number.
use Rattle.std.proofs.Common.{◌≡◌, ℕ, List, IfOk, sym, subst}
use Rattle.std.specs.Prelude.{Result, Ok}

pub carried : {V E T : Type 0} (P : List T → ℕ → Type 0) (items : V → List T) (words : Result V E) (w : V) (slice : List T) (status code : ℕ)
    → words ≡ Ok w → slice ≡ items w → status ≡ code → P slice code → IfOk words (λ v. P (items v) status)
carried {V} {E} {T} P items words w slice status code is same gives h =
    subst (λ (r : Result V E). IfOk r (λ v. P (items v) status)) (sym is)
    (subst (λ (l : List T). P l status) same (subst (λ (n : ℕ). P slice n) (sym gives) h))
