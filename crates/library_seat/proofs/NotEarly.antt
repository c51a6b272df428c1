-- What was read was not refused before.
use Rattle.std.proofs.Common.{◌≡◌, Option, Some, None, Result, Ok, Err, IfSome, IsErrOf, true≢false, is_ok, ap, ◌∙◌}
use Rattle.library_seat.specs.declared.refusal.Refusal.{Refusal}

pub not_early : {X : Type 0} (o : Option Refusal) (x : X) (P : Refusal → Type 0) → IfSome o (λ e. IsErrOf (Ok x) e) → IfSome o P
not_early None x P h = tt
not_early (Some e) x P h = absurd (true≢false (ap is_ok h))

-- a refusal that is passed on is the same one
pub early_passed : (X : Type 0) {Y : Type 0} (o : Option Refusal) (e : Refusal) (result : Result Y Refusal) → result ≡ Err e → IfSome o (λ f. IsErrOf {T = X} (Err e) f) → IfSome o (λ f. IsErrOf result f)
early_passed X None e result is h = tt
early_passed X (Some f) e result is h = let same : e ≡ f = cc in is ∙ ap Err same
