-- What a feed knows of a stream as a piece comes.
use Rattle.std.proofs.Common.{◌≡◌, ℕ, ◌<◌, true, List, [], ◌∷◌, ◌++◌, refl, sym, ap, subst, ◌∙◌, arith, append_assoc, append-nil}
use Rattle.sync_frames.specs.Snapshots.{Numbered}
use Rattle.sync_frames.specs.Feed.{Stands, snapshots_view}
use Rattle.sync_frames.specs.Frames.{frame_of, Frames, Reads, Shows, Gains, ShowsFault, ShowsNothing, IsDone, last_number}
use Rattle.sync_frames.specs.Header.{IsPart}
use Rattle.sync_frames.specs.Received.{GoesOn, IsFirst, IsReceived}
use Rattle.sync_frames.specs.Stage.{is_shown}
use Rattle.sync_frames.specs.declared.fault.FrameFault.{FrameFault}
use Rattle.sync_frames.specs.declared.fault.FrameFault.TheVariants.{WantOfMemory, Length, NotRising, Document, Failed}
use Rattle.sync_frames.specs.declared.received.Received.{Received}
use Rattle.sync_frames.specs.declared.stage.Stage.{Stage}
use Rattle.sync_frames.specs.declared.stage.Stage.TheVariants as stage
use Rattle.sync_frames.proofs.Streams.{NoFrame, part-no_frame, shows-no_frame, part-shows_nothing, reads, reads_once, reads_on, shows-append, last_number-append}

pub shown : (last : ℕ) (rest : List ℕ) (fault : FrameFault) → Shows last rest fault → is_shown fault ≡ true
shown last rest WantOfMemory h = absurd h
shown last rest Length h = refl
shown last rest NotRising h = refl
shown last rest Document h = refl
shown last rest Failed h = absurd h

-- a feed of which nothing was read
pub opening : (kept : List ℕ) → kept ≡ [] → Stands [] 0 kept stage.Reading
opening kept is = ([], reads [] [] kept [] (sym is) refl (part-no_frame 0 kept (subst (λ (l : List ℕ). IsPart 0 l) (sym is) nothing)), refl)
  where
    nothing : IsPart 0 []
    nothing = record { low = λ h. absurd (omega arith); high = λ h. absurd (omega arith); rises = λ h. absurd (omega arith); short = λ h. absurd (omega arith) }

-- a piece that makes no frame whole
reads_piece : (x piece kept : List ℕ) (ss : List Numbered) → Reads x ss kept → NoFrame (last_number 0 ss) (kept ++ piece) → Reads (x ++ piece) (ss ++ []) (kept ++ piece)
reads_piece x piece kept ss r none = reads_on x piece kept [] (kept ++ piece) ss [] r refl refl none

at_end : (ss : List Numbered) → last_number 0 (ss ++ []) ≡ last_number 0 ss
at_end ss = ap (last_number 0) (append-nil ss)

pub waits : (x piece kept : List ℕ) (last : ℕ) → Stands x last kept stage.Reading → IsPart last (kept ++ piece) → Stands (x ++ piece) last (kept ++ piece) stage.Reading × Gains x (x ++ piece) []
waits x piece kept last (ss, r, is) part =
    let more = reads_piece x piece kept ss r (part-no_frame (last_number 0 ss) (kept ++ piece) (subst (λ (n : ℕ). IsPart n (kept ++ piece)) is part)) in
    ((ss ++ [], more, is ∙ sym (at_end ss)), (ss, kept, kept ++ piece, r, more))

pub is_quiet : (x piece kept : List ℕ) (last : ℕ) → Stands x last kept stage.Reading → IsPart last (kept ++ piece) → ShowsNothing (x ++ piece)
is_quiet x piece kept last (ss, r, is) part =
    let here : IsPart (last_number 0 ss) (kept ++ piece) = subst (λ (n : ℕ). IsPart n (kept ++ piece)) is part in
    let more = reads_piece x piece kept ss r (part-no_frame (last_number 0 ss) (kept ++ piece) here) in
    (ss ++ [], kept ++ piece, more, λ fault h. part-shows_nothing (last_number 0 ss) (kept ++ piece) here fault (subst (λ (n : ℕ). Shows n (kept ++ piece) fault) (at_end ss) h))

pub faults : (x piece kept : List ℕ) (last : ℕ) (fault : FrameFault) → Stands x last kept stage.Reading → Shows last (kept ++ piece) fault → Gains x (x ++ piece) [] × ShowsFault (x ++ piece) fault
faults x piece kept last fault (ss, r, is) shows =
    let here : Shows (last_number 0 ss) (kept ++ piece) fault = subst (λ (n : ℕ). Shows n (kept ++ piece) fault) is shows in
    let more = reads_piece x piece kept ss r (shows-no_frame (last_number 0 ss) (kept ++ piece) fault here) in
    ((ss, kept, kept ++ piece, r, more), (ss ++ [], kept ++ piece, more, subst (λ (n : ℕ). Shows n (kept ++ piece) fault) (sym (at_end ss)) here))

-- a piece behind a fault
pub stays : (x piece : List ℕ) (fault : FrameFault) → ShowsFault x fault → Gains x (x ++ piece) [] × ShowsFault (x ++ piece) fault
stays x piece fault (ss, rest, r, h) =
    let here = shows-append (last_number 0 ss) rest piece fault h in
    let more = reads_piece x piece rest ss r (shows-no_frame (last_number 0 ss) (rest ++ piece) fault here) in
    ((ss, rest, rest ++ piece, r, more), (ss ++ [], rest ++ piece, more, subst (λ (n : ℕ). Shows n (rest ++ piece) fault) (sym (at_end ss)) here))

-- ---- whole frames

goes-no_frame : (last : ℕ) (rest kept : List ℕ) (s : Stage) → GoesOn last rest kept s → NoFrame last rest
goes-no_frame last rest kept stage.Reading g = part-no_frame last rest g.0
goes-no_frame last rest kept (stage.Faulty fault) g = shows-no_frame last rest fault g.0
goes-no_frame last rest kept stage.Failed g = absurd g

goes_on : (x : List ℕ) (ss : List Numbered) (last : ℕ) (rest kept : List ℕ) (s : Stage) → Reads x ss rest → last ≡ last_number 0 ss → GoesOn last rest kept s → Stands x last kept s
goes_on x ss last rest kept stage.Reading r is g = (ss, subst (λ (l : List ℕ). Reads x ss l) (sym g.1) r, is)
goes_on x ss last rest kept (stage.Faulty fault) r is g = (ss, rest, r, subst (λ (n : ℕ). Shows n rest fault) is g.0)
goes_on x ss last rest kept stage.Failed r is g = absurd g

pub receives : (x piece kept after : List ℕ) (last : ℕ) (s : Numbered) (r : Received) → Stands x last kept stage.Reading → IsFirst last s (kept ++ piece) after → IsReceived s after r
    → Stands (x ++ piece) r.last r.kept.items r.stage × Gains x (x ++ piece) (snapshots_view r.snapshots.items)
receives x piece kept after last s r (ss, reading, is) f got =
    let h = got.read in
    let new = s ∷ h.others in
    let front = frame_of s.number f.document ++ h.front in
    let bytes : kept ++ piece ≡ front ++ got.rest = f.whole ∙ ap (λ (l : List ℕ). frame_of s.number f.document ++ l) h.whole ∙ sym (append_assoc (frame_of s.number f.document) h.front got.rest) in
    let rises : last_number 0 ss < s.number = omega (arith, f.rises, is) in
    let frames : Frames (last_number 0 ss) new front = (f.document, h.front, refl, rises, f.is_document, h.frames) in
    let none : NoFrame (last_number s.number h.others) got.rest = subst (λ (n : ℕ). NoFrame n got.rest) h.number (goes-no_frame r.last got.rest r.kept.items r.stage got.goes_on) in
    let more = reads_on x piece kept front got.rest ss new reading bytes frames none in
    let number : r.last ≡ last_number 0 (ss ++ new) = h.number ∙ sym (last_number-append 0 ss new) in (
      goes_on (x ++ piece) (ss ++ new) r.last got.rest r.kept.items r.stage more number got.goes_on,
      (ss, kept, got.rest, reading, subst (λ (l : List Numbered). Reads (x ++ piece) (ss ++ l) got.rest) (sym h.all) more),
    )

-- ---- the end

pub is_done : (x kept : List ℕ) (last : ℕ) → Stands x last kept stage.Reading → kept ≡ [] → IsDone x
is_done x kept last (ss, r, is) e = (ss, subst (λ (l : List ℕ). Reads x ss l) e r)

pub done_is : (x kept : List ℕ) (last : ℕ) → Stands x last kept stage.Reading → IsDone x → kept ≡ []
done_is x kept last (ss, r, is) (ts, q) = (reads_once x ss ts kept [] r q).1

-- a rest that shows a fault is not empty
pub fault-not_done : (x : List ℕ) (fault : FrameFault) → ShowsFault x fault → IsDone x → ⊥
fault-not_done x fault (ss, rest, r, h) (ts, q) = not_empty (last_number 0 ss) fault (subst (λ (l : List ℕ). Shows (last_number 0 ss) l fault) (reads_once x ss ts rest [] r q).1 h)
  where
    not_empty : (last : ℕ) (fault : FrameFault) → Shows last [] fault → ⊥
    not_empty last WantOfMemory h = h
    not_empty last Length h = omega (arith, h.there)
    not_empty last NotRising h = omega (arith, h.there)
    not_empty last Document h = let f = h.frame in omega (arith, f.there)
    not_empty last Failed h = h
