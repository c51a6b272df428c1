-- What a seat knows only grows.
use Rattle.std.proofs.Common.{◌≡◌, ◌∙◌, ◌+◌, ℕ, None, Some, Result, Ok, Err, MatchResult, ap}
use mathlib.Core.List.{IsPrefix}
use Rattle.sync_frames.specs.Snapshots.{snapshot_view}
use Rattle.snap_core.specs.declared.snapshot.Snapshot.{Snapshot}
use Rattle.snap_share.specs.Known.{IsReadOnce, Seat, WasRead}
use Rattle.snap_share.specs.declared.fault.ShareFault.{ShareFault}
pub use Rattle.snap_share.proofs.Fronts.{prefix_self, prefix_trans}

-- a seat that learned before it was read
behind : (start old new : Seat) → IsPrefix start.known old.known → old.reads ≡ start.reads → IsReadOnce old new → IsReadOnce start new
behind start old new forward same once = record {
  forward = prefix_trans start.known old.known new.known forward once.forward;
  once = once.once ∙ ap (λ (n : ℕ). n + 1) same;
}

module _ {X : Type 0} (view : X → Snapshot) where
  pub grown : (r : Result X ShareFault) (old new : Seat) → MatchResult r (λ s. WasRead old (Some (snapshot_view (view s))) new) (λ _. WasRead old None new) → IsPrefix old.known new.known
  grown (Ok s) old new (once, last) = once.forward
  grown (Err e) old new once = once.forward

  pub learned : (r : Result X ShareFault) (start old new : Seat) → IsPrefix start.known old.known → old.reads ≡ start.reads
      → MatchResult r (λ s. WasRead old (Some (snapshot_view (view s))) new) (λ _. WasRead old None new)
      → MatchResult r (λ s. WasRead start (Some (snapshot_view (view s))) new) (λ _. WasRead start None new)
  learned (Ok s) start old new forward same (once, last) = (behind start old new forward same once, last)
  learned (Err e) start old new forward same once = behind start old new forward same once
