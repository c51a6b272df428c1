-- A piece without a byte.
use Rattle.std.proofs.Common.{◌≡◌, ◌≢◌, ℕ, ◌+◌, ◌<◌, ◌≤◌, List, [], ◌∷◌, ◌++◌, length, drop, refl, sym, ap, ap₂, subst, ◌∙◌, arith, true, true≢false, append-nil, Option, Some, None, Result, Ok, Err, IfOk, IfErr, IsErrOf, IsOk}
use Rattle.std.specs.Prelude.{option_map}
use Rattle.std.specs.List.{last_or}
use Rattle.sync_frames.specs.Snapshots.{Numbered, snapshot_view}
use Rattle.snap_core.specs.declared.snapshot.Snapshot.{Snapshot}
use Rattle.sync_frames.specs.Feed.{FaultWith, IsSame, Stands, has_failed, is_failed, waiting_in}
use Rattle.sync_frames.specs.Feed as feeds
use Rattle.sync_frames.specs.Frames.{Gains, Reads, Shows, ShowsFault, ShowsNothing, last_number, length_in}
use Rattle.sync_frames.specs.Stage.{is_shown, is_stage}
use Rattle.sync_frames.specs.declared.fault.FrameFault.{FrameFault}
use Rattle.sync_frames.specs.declared.fault.FrameFault.TheVariants.{WantOfMemory, Length, NotRising, Document, Failed}
use Rattle.sync_frames.specs.declared.feed.Feed.{Feed}
use Rattle.sync_frames.specs.declared.stage.Stage.{Stage}
use Rattle.sync_frames.specs.declared.stage.Stage.TheVariants as stage
use Rattle.sync_frames.proofs.Streams.{reads_once}
use Rattle.library_seat.specs.Connection.{Connection, HasGiven}
use Rattle.library_seat.specs.Feeding.{Brings, Heard, HearsNothing, IsIdle, Refuses, hearing, over}
use Rattle.library_seat.specs.Refusal.{of_frame}
use Rattle.library_seat.specs.View.{connection_view}
use Rattle.library_seat.specs.declared.refusal.Refusal.{Refusal}
use Rattle.library_seat.proofs.Feeds.{refuses, same}

abbrev connection : ℕ → List ℕ → Stage → Connection
connection last kept s = record { last = last; kept = kept; stage = s }

-- a stream shows a fault, or none
no_shows : (stream : List ℕ) (fault : FrameFault) → ShowsNothing stream → ShowsFault stream fault → ⊥
no_shows stream fault (ss, rest, r, none) (ts, rest', r', shows) =
    let one = reads_once stream ss ts rest rest' r r' in
    none fault
    (subst (λ (l : List ℕ). Shows (last_number 0 ss) l fault) (sym one.1) (subst (λ (l : List Numbered). Shows (last_number 0 l) rest' fault) (sym one.0) shows))

-- a connection on which no fault was shown is read on
read_on : (stream : List ℕ) (last : ℕ) (kept : List ℕ) (s : Stage) → Stands stream last kept s → ShowsNothing stream → (s ≡ stage.Reading) × ((ss : List Numbered) × Reads stream ss kept × (last ≡ last_number 0 ss))
read_on stream last kept stage.Reading h none = (refl, h)
read_on stream last kept (stage.Faulty fault) h none = absurd (no_shows stream fault none h)
read_on stream last kept stage.Failed (fault, h) none = absurd (no_shows stream fault none h)

-- and its stream says how it stands
one_standing : (stream : List ℕ) (last last' : ℕ) (kept kept' : List ℕ) (s s' : Stage) → Stands stream last kept s → Stands stream last' kept' s' → ShowsNothing stream → connection last kept s ≡ connection last' kept' s'
one_standing stream last last' kept kept' s s' h h' none =
    let a = read_on stream last kept s h none in let b = read_on stream last' kept' s' h' none in
    let one = reads_once stream a.1.0 b.1.0 kept kept' a.1.1 b.1.1 in
    ap₂ (λ (n : ℕ) (l : List ℕ). connection n l s) (a.1.2 ∙ ap (last_number 0) one.0 ∙ sym b.1.2) one.1 ∙ ap (λ (t : Stage). connection last' kept' t) (a.0 ∙ sym b.0)

none_more : {A : Type 0} (xs ys : List A) → xs ≡ xs ++ ys → ys ≡ []
none_more [] ys e = sym e
none_more (x ∷ xs) ys e = none_more xs ys (ap (drop 1) e)

-- a stream that has not grown gains nothing
gains_none : (stream : List ℕ) (ss : List Numbered) → Gains stream stream ss → ss ≡ []
gains_none stream ss (old, r, q, before, now) = none_more old ss (reads_once stream old (old ++ ss) r q before now).0

pub idle : (piece : List ℕ) (ss : List Numbered) (old new : Connection) → IsIdle piece old → Brings piece ss old new → (ss ≡ []) × (new ≡ old)
idle piece ss old new i b =
    let same : i.stream ++ piece ≡ i.stream = ap (λ (l : List ℕ). i.stream ++ l) i.none ∙ append-nil i.stream in
    let now = b.gains i.stream i.given in (
      gains_none i.stream ss (subst (λ (l : List ℕ). Gains i.stream l ss) same now.1),
      one_standing i.stream new.last old.last new.kept old.kept new.stage old.stage (subst (HasGiven new) same now.0) i.given i.quiet,
    )

-- only want of memory could refuse it
pub wants : (piece : List ℕ) (old new : Feed) (fault : FrameFault) → IsIdle piece (connection_view old) → feeds.Refuses old new piece fault → fault ≡ WantOfMemory
wants piece old new fault i r = by_fault fault r
  where
    same : i.stream ++ piece ≡ i.stream
    same = ap (λ (l : List ℕ). i.stream ++ l) i.none ∙ append-nil i.stream

    not_shown : (f : FrameFault) → feeds.Faults old new piece f → ⊥
    not_shown f r = no_shows i.stream f i.quiet (subst (λ (l : List ℕ). ShowsFault l f) same (r.shown i.stream i.given).2)

    by_fault : (f : FrameFault) → feeds.Refuses old new piece f → f ≡ WantOfMemory
    by_fault WantOfMemory r = refl
    by_fault Length r = absurd (not_shown Length r)
    by_fault NotRising r = absurd (not_shown NotRising r)
    by_fault Document r = absurd (not_shown Document r)
    by_fault Failed r = absurd (true≢false (sym r.0 ∙ ap is_failed (read_on i.stream old.last old.kept.items old.stage i.given i.quiet).0))

-- where only nothing comes, nothing is heard
pub heard_nothing : (piece : List ℕ) (old after : Heard) (now : Connection) (n : Option Numbered)
    → (ss : List Numbered) × Brings piece ss old.seat.connection now × (n ≡ last_or None ss) → after ≡ hearing n (over now old) → IsIdle piece old.seat.connection
    → HearsNothing old after
heard_nothing piece old after now n b is i =
    let none = idle piece b.0 old.seat.connection now i b.1 in
    is ∙ ap (λ (m : Option Numbered). hearing m (over now old)) (b.2 ∙ ap (last_or None) none.0) ∙ ap (λ (c : Connection). hearing None (over c old)) none.1

-- ---- a feed that ran out of memory over nothing

-- a fault that waits is no want of memory
waits_no_want : (s : Stage) → is_stage s ≡ true → (f : FrameFault) → waiting_in s ≡ Some f → f ≢ WantOfMemory
waits_no_want stage.Reading ok f is want = cc
waits_no_want (stage.Faulty g) ok f is want =
    let same_fault : g ≡ WantOfMemory = cc in true≢false (sym ok ∙ ap is_shown same_fault)
waits_no_want stage.Failed ok f is want = cc

-- a feed that waits for no fault reads on
reads_on : (s : Stage) → is_stage s ≡ true → ((f : FrameFault) → waiting_in s ≡ Some f → f ≡ WantOfMemory) → s ≡ stage.Reading
reads_on stage.Reading ok w = refl
reads_on (stage.Faulty g) ok w = absurd (waits_no_want (stage.Faulty g) ok g refl (w g refl))
reads_on stage.Failed ok w = absurd (waits_no_want stage.Failed ok Failed refl (w Failed refl))

-- it brings nothing, and shows nothing
module _ (old new : Feed) (piece : List ℕ) (none : piece ≡ []) (stays : IsSame old new) (reading : old.stage ≡ stage.Reading)
    (no_length : FaultWith old piece Length → ⊥) (no_rising : FaultWith old piece NotRising → ⊥)
    (part : 4 ≤ length old.kept.items → length old.kept.items < 4 + length_in old.kept.items) where
  grown : (stream : List ℕ) → stream ≡ stream ++ piece
  grown stream = sym (ap (λ (l : List ℕ). stream ++ l) none ∙ append-nil stream)

  reads_of : (stream : List ℕ) → HasGiven (connection_view old) stream → (ss : List Numbered) × Reads stream ss old.kept.items × (old.last ≡ last_number 0 ss)
  reads_of stream h = subst (Stands stream old.last old.kept.items) reading h

  shows_none : (fault : FrameFault) → Shows old.last old.kept.items fault → ⊥
  shows_none WantOfMemory h = h
  shows_none Length h = no_length (record { reading = reading; shows = subst (λ (l : List ℕ). Shows old.last l Length) (grown old.kept.items) h })
  shows_none NotRising h = no_rising (record { reading = reading; shows = subst (λ (l : List ℕ). Shows old.last l NotRising) (grown old.kept.items) h })
  shows_none Document h = omega (arith, h.frame.there, h.frame.low, part (omega (arith, h.frame.there, h.frame.low)))
  shows_none Failed h = h

  vain : Brings piece [] (connection_view old) (connection_view new)
  vain = record {
    gains = λ stream h. let r = reads_of stream h in (
      subst (λ (c : Connection). HasGiven c (stream ++ piece)) (sym (same old new stays)) (subst (HasGiven (connection_view old)) (grown stream) h),
      (r.0, old.kept.items, old.kept.items, r.1, subst (λ (l : List ℕ). Reads l (r.0 ++ []) old.kept.items) (grown stream) (subst (λ (ss : List Numbered). Reads stream ss old.kept.items) (sym (append-nil r.0)) r.1)),
    );
    quiet = λ _ stream h. let r = reads_of stream h in
        subst ShowsNothing (grown stream) (r.0, old.kept.items, r.1, λ fault shows. shows_none fault (subst (λ (n : ℕ). Shows n old.kept.items fault) (sym r.2) shows));
    works = ap is_failed (stays.stage ∙ reading);
  }

-- ---- what its fault comes to

-- the refusal of a fault, unless it is want of memory over nothing
abbrev pub Comes : List ℕ → FrameFault → Result (Option Snapshot) Refusal → Type 0
Comes piece fault result =
    IfOk result (λ n. (n ≡ None) × (piece ≡ []) × (fault ≡ WantOfMemory)) × IfErr result (λ e. (e ≡ of_frame fault) × (fault ≡ WantOfMemory → piece ≢ []))

pub comes_brings : (old new : Feed) (piece : List ℕ) (fault : FrameFault) (result : Result (Option Snapshot) Refusal) → Comes piece fault result → feeds.Refuses old new piece fault
    → is_stage old.stage ≡ true → (4 ≤ length old.kept.items → length old.kept.items < 4 + length_in old.kept.items)
    → ((f : FrameFault) → waiting_in old.stage ≡ Some f → fault ≡ f) → (FaultWith old piece Length → fault ≡ Length) → (FaultWith old piece NotRising → fault ≡ NotRising)
    → IfOk result (λ newest. (snapshots : List Numbered) × Brings piece snapshots (connection_view old) (connection_view new) × (option_map snapshot_view newest ≡ last_or None snapshots))
comes_brings old new piece fault (Err e) comes said ok part waits no_length no_rising = tt
comes_brings old new piece fault (Ok newest) comes said ok part waits no_length no_rising =
    let want : fault ≡ WantOfMemory = comes.0.2 in
    let reading = reads_on old.stage ok (λ f is. sym (waits f is) ∙ want) in (
      [],
      vain old new piece comes.0.1 (subst (feeds.Refuses old new piece) want said) reading (λ h. not_length (sym want ∙ no_length h)) (λ h. not_rising (sym want ∙ no_rising h)) part,
      ap (option_map snapshot_view) comes.0.0,
    )
  where
    not_length : WantOfMemory ≡ Length → ⊥
    not_length e = true≢false (sym (ap is_shown e))

    not_rising : WantOfMemory ≡ NotRising → ⊥
    not_rising e = true≢false (sym (ap is_shown e))

pub comes_refuses : (old new : Feed) (piece : List ℕ) (fault : FrameFault) (result : Result (Option Snapshot) Refusal) → Comes piece fault result → feeds.Refuses old new piece fault
    → IfErr result (λ e. Refuses piece e (connection_view old) (connection_view new))
comes_refuses old new piece fault (Ok newest) comes said = tt
comes_refuses old new piece fault (Err e) comes said = subst (λ (x : Refusal). Refuses piece x (connection_view old) (connection_view new)) (sym comes.1.0) (refuses old new piece fault said)

-- a fault that is no want of memory is refused
comes_to : (piece : List ℕ) (fault : FrameFault) (result : Result (Option Snapshot) Refusal) → Comes piece fault result → (f : FrameFault) → fault ≡ f → f ≢ WantOfMemory → IsErrOf result (of_frame f)
comes_to piece fault (Ok newest) comes f is no_want = absurd (no_want (sym is ∙ comes.0.2))
comes_to piece fault (Err e) comes f is no_want = ap Err (comes.1.0 ∙ ap of_frame is)

pub comes_waiting : (old : Feed) (piece : List ℕ) (fault : FrameFault) (result : Result (Option Snapshot) Refusal) → Comes piece fault result → is_stage old.stage ≡ true
    → ((f : FrameFault) → waiting_in old.stage ≡ Some f → fault ≡ f) → (f : FrameFault) → waiting_in old.stage ≡ Some f → IsErrOf result (of_frame f)
comes_waiting old piece fault result comes ok waits f is = comes_to piece fault result comes f (waits f is) (waits_no_want old.stage ok f is)

pub comes_shown : (piece : List ℕ) (fault : FrameFault) (result : Result (Option Snapshot) Refusal) → Comes piece fault result → (f : FrameFault) → is_shown f ≡ true → fault ≡ f → IsErrOf result (of_frame f)
comes_shown piece fault result comes f shown is = comes_to piece fault result comes f is (λ want. true≢false (sym shown ∙ ap is_shown want))

-- nothing is refused where no fault was shown
pub comes_idle : (old new : Feed) (piece : List ℕ) (fault : FrameFault) (result : Result (Option Snapshot) Refusal) → Comes piece fault result → feeds.Refuses old new piece fault
    → IsIdle piece (connection_view old) → IsOk result
comes_idle old new piece fault (Ok newest) comes said i = refl
comes_idle old new piece fault (Err e) comes said i = absurd (comes.1.1 (wants piece old new fault i said) i.none)

pub same_fault : (X : Type 0) (r : Result X FrameFault) (a b : FrameFault) → r ≡ Err a → r ≡ Err b → a ≡ b
same_fault X r a b one other = cc
