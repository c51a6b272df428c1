-- Items that are looked at one by one.
use Rattle.std.proofs.Common.{◌≡◌, ◌+◌, ◌||◌, ◌∙◌, ℕ, Bool, false, List, Some, ap, drop, slice_get}
use Rattle.std.specs.List.{list_any}
use Rattle.std.proofs.lemmas.Option.{get_or_from_slice_get, slice_get_within}
use Rattle.flagops_service.proofs.Reread.{left_at}

-- one that does not pass makes no difference to those that are left
pub one_passed : {X : Type 0} (test : X → Bool) (xs : List X) (i : ℕ) (x : X) → slice_get xs i ≡ Some x → test x ≡ false → list_any test (drop i xs) ≡ list_any test (drop (i + 1) xs)
one_passed test xs i x at fails =
    ap (list_any test) (left_at xs i x (slice_get_within xs i x at) (get_or_from_slice_get xs i x x at)) ∙ ap (λ b. b || list_any test (drop (i + 1) xs)) fails
