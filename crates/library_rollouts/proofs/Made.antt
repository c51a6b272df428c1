-- What was made of the bytes of a call is written, or refused, as they mean it.
use Rattle.std.proofs.Common.{◌≡◌, ◌≢◌, ℕ, List, Result, Ok, Err, refl, sym, subst}
use Rattle.library_seat.specs.Room.{Room, IsTooSmall}
use Rattle.library_rollouts.specs.Writing.{Meaning, Puts, Writes}
use Rattle.library_rollouts.specs.declared.refusal.RolloutRefusal.{RolloutRefusal}
use Rattle.library_rollouts.specs.declared.refusal.RolloutRefusal.TheVariants.{WantOfMemory, Room as NoRoom, NoRule, Document, Rollout, Notes, Tally, Plan, Check, Keep}

module _ {A : Type 0} (Is : Meaning A) (old new : Room) where
  unmade_at : (e : RolloutRefusal) → e ≢ NoRoom → (e ≢ WantOfMemory → Is (Err e)) → new ≡ old → Writes Is (Err e) old new
  unmade_at WantOfMemory no_room is same = same
  unmade_at NoRoom no_room is same = absurd (no_room refl)
  unmade_at NoRule no_room is same = (is (λ e. cc), same)
  unmade_at (Document f) no_room is same = (is (λ e. cc), same)
  unmade_at (Rollout f) no_room is same = (is (λ e. cc), same)
  unmade_at (Notes f) no_room is same = (is (λ e. cc), same)
  unmade_at (Tally f) no_room is same = (is (λ e. cc), same)
  unmade_at (Plan f) no_room is same = (is (λ e. cc), same)
  unmade_at (Check f) no_room is same = (is (λ e. cc), same)
  unmade_at (Keep f) no_room is same = (is (λ e. cc), same)

  -- what was not made is not written
  pub unmade : (e : RolloutRefusal) (r : Result A RolloutRefusal) → r ≡ Err e → (e ≢ NoRoom) × (e ≢ WantOfMemory → Is (Err e)) → new ≡ old → Writes Is r old new
  unmade e r is made same = subst (λ (x : Result A RolloutRefusal). Writes Is x old new) (sym is) (unmade_at e made.0 made.1 same)

  -- what had no room
  pub unwritten : (text : List ℕ) (a : A) (e : RolloutRefusal) (r : Result A RolloutRefusal) → r ≡ Err e → Is (Ok (text, a)) → (e ≡ NoRoom) × IsTooSmall text old new → Writes Is r old new
  unwritten text a e r is made small =
      subst (λ (x : Result A RolloutRefusal). Writes Is x old new) (sym is) (subst (λ (f : RolloutRefusal). Writes Is (Err f) old new) (sym small.0) (text, a, made, small.1))

-- a text that was made is written
pub put_so : (Is : Meaning (Unit {0})) (old new : Room) (text : List ℕ) (r : Result (Unit {0}) RolloutRefusal) → Is (Ok (text, tt)) → Puts text r old new → Writes Is r old new
put_so Is old new text (Ok done) made puts = (text, made, puts)
put_so Is old new text (Err e) made puts = unwritten Is old new text tt e (Err e) refl made puts
