-- What a sink has as a piece of the stream comes.
use Rattle.std.proofs.Common.{◌≡◌, ℕ, zero, suc, ◌<◌, ◌≤◌, take, drop, Bool, true, false, List, [], ◌∷◌, ◌++◌, length, ◌||◌, arith, Option, Some, None, refl, sym, ap, subst, ◌∙◌, append-nil, append_assoc}
use Rattle.std.proofs.lemmas.Bool.{true≢false}
use Rattle.std.proofs.lemmas.List.{append_cancel_left}
use Rattle.sync_frames.specs.Snapshots.{Numbered}
use Rattle.sync_frames.specs.Feed.{HasBeenFed, has_failed, waiting, Refuses, Gives, snapshots_view, is_failed, waiting_in}
use Rattle.sync_frames.specs.declared.stage.Stage.{Stage}
use Rattle.sync_frames.specs.declared.stage.Stage.TheVariants as stage
use Rattle.sync_frames.specs.Frames.{Reads, Gains, ShowsNothing}
use Rattle.sync_frames.specs.Header.{IsPart}
use Rattle.std.specs.Io.KnownBytes.{Consumes, Keeps, IsAtEnd}
use Rattle.snap_core.specs.declared.snapshot.Snapshot.{Snapshot}
use Rattle.sync_frames.specs.declared.fault.FrameFault.{FrameFault}
use Rattle.sync_frames.specs.declared.fault.FrameFault.TheVariants.{WantOfMemory, Length, NotRising, Document, Failed}
use Rattle.sync_frames.specs.declared.feed.Feed.{Feed}
use Rattle.sync_frames.proofs.Streams.{reads_once, reads, part-no_frame}
use Rattle.sync_frames.proofs.Feeds.{opening, is_quiet}
use Rattle.sync_server.specs.End.{is_limit_result, of_fault}
use Rattle.sync_server.specs.Ends.{AllOf, FirstOf, Ends}
use Rattle.sync_server.specs.Follows.{Stands, LeadsTo, AtEnd}
use Rattle.sync_server.specs.Handed.{Took, Handed}
use Rattle.sync_server.specs.Reads.{AfterReads, ReadUpTo, ReadWithin}
use Rattle.sync_server.specs.declared.end.ReadEnd.{ReadEnd}
use Rattle.sync_server.specs.declared.end.ReadEnd.TheVariants as end
use Rattle.sync_server.specs.declared.follow.Step.TheVariants as step

pub gained : (x y : List ℕ) (ss new : List Numbered) → AllOf x ss → Gains x y new → AllOf y (ss ++ new)
gained x y ss new (r, a) (old, r', q, b, d) = (q, subst (λ (l : List Numbered). Reads y (l ++ new) q) (reads_once x old ss r' r b a).0 d)

-- no byte, no snapshot
pub nothing_new : (x : List ℕ) (new : List Numbered) → Gains x (x ++ []) new → new ≡ []
nothing_new x new (old, r, q, b, d) =
    let here : Reads x (old ++ new) q = subst (λ (l : List ℕ). Reads l (old ++ new) q) (append-nil x) d in
    sym (append_cancel_left old [] new (append-nil old ∙ (reads_once x old (old ++ new) r q b here).0))

-- all that is whole is the first of what is
pub first_all : (x : List ℕ) (ss : List Numbered) → AllOf x ss → FirstOf x ss
first_all x ss a = (x, [], [], sym (append-nil x), subst (AllOf x) (sym (append-nil ss)) a)

-- what is first in a front is first in the stream
pub first_front : (x y : List ℕ) (ss : List Numbered) → AllOf x ss → FirstOf (x ++ y) ss
first_front x y ss a = (x, y, [], refl, subst (AllOf x) (sym (append-nil ss)) a)

-- where the feed refuses a piece
pub refused : (old new : Feed) (x piece : List ℕ) (ss : List Numbered) (left : Option (List ℕ)) (fault : FrameFault) → has_failed old ≡ false → Refuses old new piece fault → HasBeenFed old x → AllOf x ss
    → Ends (x ++ piece) (ss ++ []) left false (of_fault fault)
refused old new x piece ss left WantOfMemory works r fed all = first_front x piece (ss ++ []) (subst (AllOf x) (sym (append-nil ss)) all)
refused old new x piece ss left Length works r fed all = let w = r.shown x fed in (gained x (x ++ piece) ss [] all w.1, w.2, refl)
refused old new x piece ss left NotRising works r fed all = let w = r.shown x fed in (gained x (x ++ piece) ss [] all w.1, w.2, refl)
refused old new x piece ss left Document works r fed all = let w = r.shown x fed in (gained x (x ++ piece) ss [] all w.1, w.2, refl)
refused old new x piece ss left Failed works r fed all = absurd (true≢false (sym r.0 ∙ works))

-- where it refuses no piece at all, behind snapshots that were handed on
pub refused_behind : (old new : Feed) (x : List ℕ) (ss : List Numbered) (left : Option (List ℕ)) (fault : FrameFault) → has_failed old ≡ false → Refuses old new [] fault → HasBeenFed old x → AllOf x ss
    → Ends x ss left false (of_fault fault)
refused_behind old new x ss left fault works r fed all =
    subst (λ (l : List Numbered). Ends x l left false (of_fault fault)) (append-nil ss)
    (subst (λ (y : List ℕ). Ends y (ss ++ []) left false (of_fault fault)) (append-nil x) (refused old new x [] ss left fault works r fed all))

-- where the feed takes a piece, and then no piece: nothing is wrong
pub goes_on : (old mid new : Feed) (x piece : List ℕ) (ss more none : List Numbered) (left : Option (List ℕ)) → Gives old mid piece more → Gives mid new [] none → (none ≡ [] → (stream : List ℕ) → HasBeenFed mid stream → ShowsNothing (stream ++ [])) → has_failed new ≡ false
    → Stands old x ss → LeadsTo new (x ++ piece) (ss ++ more) left false step.GoesOn
goes_on old mid new x piece ss more none left gives then quiet works (fed, all, shows) =
    let now = gives x fed in
    let there = then (x ++ piece) now.0 in
    let is_none : none ≡ [] = nothing_new (x ++ piece) none there.1 in
    let same : (x ++ piece) ++ [] ≡ x ++ piece = append-nil (x ++ piece) in
    ((subst (HasBeenFed new) same there.0, gained x (x ++ piece) ss more all now.1, subst ShowsNothing same (quiet is_none (x ++ piece) now.0)), works, refl)

-- where the sink takes some of what came, and no more
pub full : (old mid : Feed) (x piece : List ℕ) (ss taken left : List Numbered) → Gives old mid piece (taken ++ left) → Stands old x ss → FirstOf (x ++ piece) (ss ++ taken)
full old mid x piece ss taken left gives (fed, all, shows) =
    let now = gives x fed in
    (x ++ piece, [], left, sym (append-nil (x ++ piece)), subst (AllOf (x ++ piece)) (sym (append_assoc ss taken left)) (gained x (x ++ piece) ss (taken ++ left) all now.1))

-- where a fault shows behind what came
pub ends_behind : (old mid new : Feed) (x piece : List ℕ) (ss more : List Numbered) (left : Option (List ℕ)) (fault : FrameFault) → Gives old mid piece more → has_failed mid ≡ false → Refuses mid new [] fault → Stands old x ss → Ends (x ++ piece) (ss ++ more) left false (of_fault fault)
ends_behind old mid new x piece ss more left fault gives works refuses (fed, all, shows) =
    let now = gives x fed in
    refused_behind mid new (x ++ piece) (ss ++ more) left fault works refuses now.0 (gained x (x ++ piece) ss more all now.1)

-- no snapshots are none
pub no_items : (xs : List Snapshot) → snapshots_view xs ≡ [] → xs ≡ []
no_items [] e = refl
no_items (x ∷ xs) e = absurd (cc (e))

-- ---- the sink

module _ {X : Type 0} (took refused : X → Numbered → X → Type 0) where
  -- these, and behind them those
  pub took_both : (x y z : X) (ss ts : List Numbered) → Took took x ss y → Took took y ts z → Took took x (ss ++ ts) z
  took_both x y z [] ts h next = subst (λ (w : X). Took took w ts z) h next
  took_both x y z (s ∷ ss) ts (w, t, h) next = (w, t, took_both w y z ss ts h next)

  pub took_more : (x y z : X) (ss : List Numbered) (s : Numbered) → Took took x ss y → took y s z → Took took x (ss ++ s ∷ []) z
  took_more x y z ss s h t = took_both x y z ss (s ∷ []) h (z, t, refl)

  pub handed_behind : (x y z : X) (ss ts : List Numbered) (full : Bool) → Took took x ss y → Handed took refused y ts full z → Handed took refused x (ss ++ ts) full z
  handed_behind x y z ss ts false h next = took_both x y z ss ts h next
  handed_behind x y z ss ts true h (taken, last, w, is, t, r) =
      (ss ++ taken, last, w, ap (λ (l : List Numbered). ss ++ l) is ∙ sym (append_assoc ss taken (last ∷ [])), took_both x y w ss taken h t, r)

-- what is taken into a list
pub collected : {X : Type 0} (view : X → List Numbered) (x y : X) (ss : List Numbered) → Took (λ old s new. view new ≡ view old ++ s ∷ []) x ss y → view y ≡ view x ++ ss
collected view x y [] h = ap view h ∙ sym (append-nil (view x))
collected view x y (s ∷ ss) (z, t, h) = collected view z y ss h ∙ ap (λ (l : List Numbered). l ++ ss) t ∙ append_assoc (view x) (s ∷ []) ss

-- less of what is first is first
pub first_less : (stream : List ℕ) (taken more : List Numbered) → FirstOf stream (taken ++ more) → FirstOf stream taken
first_less stream taken more (front, behind, others, whole, all) = (front, behind, more ++ others, whole, subst (AllOf front) (append_assoc taken more others) all)

-- ---- the input

pub consumes_none : (a : Option (List ℕ)) → Consumes a a []
consumes_none None = tt
consumes_none (Some xs) = refl

pub consumes_both : (a b c : Option (List ℕ)) (xs ys : List ℕ) → Consumes a b xs → Consumes b c ys → Consumes a c (xs ++ ys)
consumes_both None b c xs ys h next = tt
consumes_both (Some u) None c xs ys h next = absurd h
consumes_both (Some u) (Some v) None xs ys h next = absurd next
consumes_both (Some u) (Some v) (Some w) xs ys h next = h ∙ ap (λ (l : List ℕ). xs ++ l) next ∙ sym (append_assoc xs ys w)

pub consumes_kept : (a b : Option (List ℕ)) → Keeps a b → Consumes a b []
consumes_kept None b h = tt
consumes_kept (Some u) None h = absurd h
consumes_kept (Some u) (Some v) h = sym h

pub unbroken : (before now : Bool) → before ≡ false → now ≡ (before || false) → now ≡ false
unbroken before now e h = h ∙ ap (λ (b : Bool). b || false) e

pub broken_now : (before now : Bool) → before ≡ false → now ≡ (before || true) → now ≡ true
broken_now before now e h = h ∙ ap (λ (b : Bool). b || true) e

-- ---- the ends

nothing_read : IsPart 0 []
nothing_read = record { low = λ h. absurd (omega arith); high = λ h. absurd (omega arith); rises = λ h. absurd (omega arith); short = λ h. absurd (omega arith) }

-- nothing is whole in nothing
pub all_of_nothing : AllOf [] []
all_of_nothing = ([], reads [] [] [] [] refl refl (part-no_frame 0 [] nothing_read))

pub first_of_nothing : FirstOf [] []
first_of_nothing = first_all [] [] all_of_nothing

-- before anything was read
pub stands_first : (feed : Feed) → HasBeenFed feed [] → Stands feed [] []
stands_first feed fed = (fed, all_of_nothing, is_quiet [] [] [] 0 (opening [] refl) nothing_read)

waits_for_none : (s : Stage) → waiting_in s ≡ None → is_failed s ≡ false
waits_for_none stage.Reading h = refl
waits_for_none (stage.Faulty fault) h = absurd (cc (h))
waits_for_none stage.Failed h = absurd (cc (h))

pub works_first : (feed : Feed) → waiting feed ≡ None → has_failed feed ≡ false
works_first feed h = waits_for_none feed.stage h

-- the input is at its end
pub at_end : (feed : Feed) (x : List ℕ) (ss : List Numbered) (left : Option (List ℕ)) (broken : Bool) (e : ReadEnd) → Stands feed x ss → IsAtEnd left → broken ≡ false → AtEnd x e → Ends (x ++ []) (ss ++ []) left broken e
at_end feed x ss left broken e (fed, all, shows) is_end works how =
    subst (λ (y : List ℕ). Ends y (ss ++ []) left broken e) (sym (append-nil x)) (subst (λ (l : List Numbered). Ends x l left broken e) (sym (append-nil ss)) (here e how))
  where
    here : (e : ReadEnd) → AtEnd x e → Ends x ss left broken e
    here end.Ended how = (all, is_end, how, works)
    here end.EndedInside how = (all, is_end, shows, how, works)
    here end.Limit how = absurd how
    here (end.Frame fault) how = absurd how
    here end.ReadFault how = absurd how
    here end.WantOfMemory how = absurd how

-- a read failed
pub at_fault : (feed : Feed) (x : List ℕ) (ss : List Numbered) (left : Option (List ℕ)) (broken : Bool) → Stands feed x ss → broken ≡ true → Ends (x ++ []) (ss ++ []) left broken end.ReadFault
at_fault feed x ss left broken (fed, all, shows) is =
    subst (λ (y : List ℕ). Ends y (ss ++ []) left broken end.ReadFault) (sym (append-nil x)) (subst (λ (l : List Numbered). Ends x l left broken end.ReadFault) (sym (append-nil ss)) (all, shows, is))

-- a buffer that was filled keeps its length
pub refilled : (n : ℕ) (new old : List ℕ) → 0 < n → 0 < length new → 0 < length (take n (new ++ drop (length new) old))
refilled zero new old h k = absurd (omega (arith, h))
refilled (suc n) [] old h k = absurd (omega (arith, k))
refilled (suc n) (x ∷ new) old h k = omega arith

-- ---- the turns

-- at most so many reads
pub up_to : {X : Type 0} (was_read : X → X → Type 0) (limit n : ℕ) (x y : X) (result : Option ReadEnd) → is_limit_result result ≡ false → n ≤ limit → AfterReads was_read n x y → ReadWithin was_read limit x y result
up_to was_read limit n x y (Some end.Limit) other few h = absurd (true≢false other)
up_to was_read limit n x y (Some end.Ended) other few h = (n, few, h)
up_to was_read limit n x y (Some end.EndedInside) other few h = (n, few, h)
up_to was_read limit n x y (Some (end.Frame fault)) other few h = (n, few, h)
up_to was_read limit n x y (Some end.ReadFault) other few h = (n, few, h)
up_to was_read limit n x y (Some end.WantOfMemory) other few h = (n, few, h)
up_to was_read limit n x y None other few h = (n, few, h)

-- the same where the limit may be told
pub at_most : {X : Type 0} (was_read : X → X → Type 0) (limit : ℕ) (x y : X) (result : Option ReadEnd) → ReadWithin was_read limit x y result → ReadUpTo was_read limit x y
at_most was_read limit x y (Some end.Limit) h = (limit, omega arith, h)
at_most was_read limit x y (Some end.Ended) h = h
at_most was_read limit x y (Some end.EndedInside) h = h
at_most was_read limit x y (Some (end.Frame fault)) h = h
at_most was_read limit x y (Some end.ReadFault) h = h
at_most was_read limit x y (Some end.WantOfMemory) h = h
at_most was_read limit x y None h = h
