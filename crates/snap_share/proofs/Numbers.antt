-- Published flags and their numbers.
use Rattle.std.proofs.Common.{◌≡◌, ℕ, ◌+◌, List, [], ◌∷◌, ◌++◌, length, Contains, refl, ap, sym, subst, ◌∙◌, arith, length-append, None, Some, Result, Ok, Err, IfOk, MatchResult}
use Rattle.std.proofs.lemmas.List.Elements.{Contains-append_right}
use mathlib.Core.List.{IsPrefix}
use Rattle.flag_defs.specs.declared.flags.Flags.{Flags}
use Rattle.sync_frames.specs.Snapshots.{Numbered, snapshot_view}
use Rattle.snap_core.specs.declared.snapshot.Snapshot.{Snapshot}
use Rattle.snap_share.specs.Known.{IsLastOf, IsSnapshotOf, Seat, WasRead, last_of, numbered, numbered_from, snapshots_of}
use Rattle.snap_share.specs.Lists.{StartsWith}
use Rattle.snap_share.specs.declared.fault.ShareFault.{ShareFault}

pub last_of_snoc : (xs : List Flags) (x : Flags) → last_of (xs ++ x ∷ []) ≡ Some x
last_of_snoc [] x = refl
last_of_snoc (y ∷ []) x = refl
last_of_snoc (y ∷ z ∷ xs) x = last_of_snoc (z ∷ xs) x

-- a list with a last one is a front and the last one
last_behind : (xs : List Flags) (x : Flags) → last_of xs ≡ Some x → (front : List Flags) × (xs ≡ front ++ x ∷ [])
last_behind [] x e = absurd (cc (e))
last_behind (y ∷ []) x e = ([], cc (e))
last_behind (y ∷ z ∷ xs) x e = let r = last_behind (z ∷ xs) x e in (y ∷ r.0, ap (λ (l : List Flags). y ∷ l) r.1)

numbered_append : (n : ℕ) (xs ys : List Flags) → numbered_from n (xs ++ ys) ≡ numbered_from n xs ++ numbered_from (n + length xs) ys
numbered_append n [] ys = ap (λ (k : ℕ). numbered_from k ys) (omega arith)
numbered_append n (x ∷ xs) ys = ap (λ (l : List Numbered). numbered n x ∷ l) (numbered_append (n + 1) xs ys ∙ ap (λ (k : ℕ). numbered_from (n + 1) xs ++ numbered_from k ys) (omega arith))

-- what began the flags begins the snapshots
pub starts : (xs ys : List Flags) → IsPrefix xs ys → StartsWith (snapshots_of ys) (snapshots_of xs)
starts xs ys p = (numbered_from (1 + length xs) p.0, ap snapshots_of (sym p.1) ∙ numbered_append 1 xs p.0)

-- the last snapshot is one of them
pub is_known : (xs : List Flags) (s : Numbered) → IsLastOf xs s → Contains (snapshots_of xs) s
is_known xs s (f, last, is) =
    let r = last_behind xs f last in
    let here : s ≡ numbered (1 + length r.0) f = is ∙ ap (λ (k : ℕ). numbered k f) (omega (arith, ap length r.1, length-append r.0 (f ∷ []))) in
    let all : snapshots_of xs ≡ snapshots_of r.0 ++ numbered (1 + length r.0) f ∷ [] = ap snapshots_of r.1 ∙ numbered_append 1 r.0 (f ∷ []) in
    subst (λ (l : List Numbered). Contains l s) (sym all) (Contains-append_right (snapshots_of r.0) (numbered (1 + length r.0) f ∷ []) s (0, omega arith, sym here))

-- a snapshot of the last flags is the last of the snapshots
pub is_last : (xs : List Flags) (s : Snapshot) → IsSnapshotOf xs s → IsLastOf xs (snapshot_view s)
is_last xs s is = (s.flags, is.last, ap (λ (k : ℕ). numbered k s.flags) is.number)

pub answer_known : {X : Type 0} (view : X → Snapshot) (r : Result X ShareFault) (xs : List Flags) → IfOk r (λ s. IsSnapshotOf xs (view s)) → IfOk r (λ s. Contains (snapshots_of xs) (snapshot_view (view s)))
answer_known view (Ok s) xs h = is_known xs (snapshot_view (view s)) (is_last xs (view s) h)
answer_known view (Err e) xs h = tt

-- a seat that was read, and what it answered
pub answers : {X : Type 0} (view : X → Snapshot) (r : Result X ShareFault) (old new : Seat) → IsPrefix old.known new.known → new.reads ≡ old.reads + 1 → IfOk r (λ s. IsSnapshotOf new.known (view s))
    → MatchResult r (λ s. WasRead old (Some (snapshot_view (view s))) new) (λ _. WasRead old None new)
answers view (Ok s) old new forward once last = (record { forward = forward; once = once }, is_last new.known (view s) last)
answers view (Err e) old new forward once last = record { forward = forward; once = once }

-- a snapshot of flags that were put behind others
pub snapshot_of_snoc : (xs : List Flags) (s : Snapshot) → s.number ≡ length xs + 1 → IsSnapshotOf (xs ++ s.flags ∷ []) s
snapshot_of_snoc xs s number = record { last = last_of_snoc xs s.flags; number = omega (arith, number, length-append xs (s.flags ∷ [])) }

pub first_snapshot : (s : Snapshot) → s.number ≡ 1 → IsSnapshotOf (s.flags ∷ []) s
first_snapshot s number = snapshot_of_snoc [] s number
