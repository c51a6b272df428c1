-- Seats, and those that were not made.
use Rattle.std.proofs.Common.{◌≡◌, ◌≤◌, ◌+◌, ℕ, List, Option, Some, None, ap, arith, is_some}
use Rattle.std.specs.Prelude.{IfNone, IfSome}
use Rattle.flagops_streams.specs.Documents.{MayFail}
use Rattle.flagops_streams.specs.declared.refusal.Refusal.TheVariants.{Share}
use Rattle.snap_share.specs.declared.fault.ShareFault.{ShareFault}
use Rattle.snap_share.specs.declared.fault.ShareFault.TheVariants as share
use Rattle.flagops_service.specs.Words.{operators_of}

-- Where no more were to be made than are wanted, and none only where none are wanted, it fails as those that are wanted.
pub fewer_fail : (made wanted : ℕ) (fault : ShareFault) → made ≤ wanted → (made ≡ 0 → wanted ≡ 0) → MayFail made (Share fault) → MayFail wanted (Share fault)
fewer_fail made wanted share.WantOfMemory few none may = tt
fewer_fail made wanted share.NoSeats few none may = none may
fewer_fail made wanted share.TooManySeats few none may = omega (arith, may, few)
fewer_fail made wanted share.NoReader few none may = tt
fewer_fail made wanted share.LastNumber few none may = absurd may
fewer_fail made wanted share.Closed few none may = absurd may

-- there is a seat for each listener, once operations, where they are asked for, have theirs
pub one_each : {O V : Type 0} (o : Option O) (admin log : Option (List ℕ)) (was left : V) (count : V → ℕ) (listeners : ℕ) → is_some o ≡ is_some admin → count was ≡ listeners + operators_of admin log
    → IfSome o (λ _. count left ≡ listeners) → IfNone o (left ≡ was) → count left ≡ listeners
one_each (Some x) admin log was left count listeners same all some none = some
one_each None None log was left count listeners same all some none = omega (arith, ap count none, all)
one_each None (Some a) log was left count listeners same all some none = absurd (cc same)

-- and for each thread of operations two
pub in_pairs : {O : Type 0} (o : Option O) (seats desks : O → ℕ) (threads : ℕ) → IfSome o (λ x. (seats x ≡ threads) × (desks x ≡ threads)) → IfSome o (λ x. seats x ≡ desks x)
in_pairs None seats desks threads each = tt
in_pairs (Some x) seats desks threads each = omega (arith, each.0, each.1)
