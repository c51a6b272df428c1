-- What a call of a feed answers.
use Rattle.std.proofs.Common.{◌≡◌, ℕ, ◌+◌, ◌-◌, ◌<◌, ◌≤◌, true, List, [], ◌++◌, length, take, drop, get_or, inl, inr, refl, sym, ap, subst, ◌∙◌, arith, Err}
use Rattle.std.proofs.lemmas.Bool.{cases_lt}
use Rattle.flag_defs.specs.Floats.{MeansFlags, MeansWithFloats}
use Rattle.flag_defs.specs.declared.fault.DefFault.{DefFault}
use Rattle.sync_frames.specs.Snapshots.{Numbered}
use Rattle.snap_core.specs.declared.snapshot.Snapshot.{Snapshot}
use Rattle.sync_frames.specs.Feed.{Stands, is_failed, snapshots_view, Faults, Refuses}
use Rattle.sync_frames.specs.Frames.{Shows, Gains, document_in, length_in}
use Rattle.sync_frames.specs.Header.{IsPart, IsHeader, Finds}
use Rattle.sync_frames.specs.Received.{IsFirst, IsBehind}
use Rattle.sync_frames.specs.Stage.{is_shown}
use Rattle.sync_frames.specs.declared.fault.FrameFault.{FrameFault}
use Rattle.sync_frames.specs.declared.fault.FrameFault.TheVariants.{WantOfMemory, Length, NotRising, Document, Failed}
use Rattle.sync_frames.specs.declared.feed.Feed.{Feed}
use Rattle.sync_frames.specs.declared.header.Begun.TheVariants.{Fault}
use Rattle.sync_frames.specs.declared.header.Header.{Header}
use Rattle.sync_frames.specs.declared.received.Received.{Received}
use Rattle.sync_frames.specs.declared.stage.Stage.{Stage}
use Rattle.sync_frames.specs.declared.stage.Stage.TheVariants as stage
use Rattle.sync_frames.proofs.Feeds.{waits, faults, stays, receives, shown}
use Rattle.sync_frames.proofs.Headers.{length_in-append}
use Rattle.sync_frames.proofs.Wholes.{first, whole_document, refused, take_past, drop_past, small-append, small-front}

pub finds-shows : (last : ℕ) (rest : List ℕ) (fault : FrameFault) → Finds last rest (Fault fault) → Shows last rest fault
finds-shows last rest WantOfMemory h = h
finds-shows last rest Length h = h
finds-shows last rest NotRising h = h
finds-shows last rest Document h = absurd h
finds-shows last rest Failed h = h

refuses : (old new : Feed) (piece : List ℕ) (fault : FrameFault) → is_shown fault ≡ true → Faults old new piece fault → Refuses old new piece fault
refuses old new piece WantOfMemory s f = cc
refuses old new piece Length s f = f
refuses old new piece NotRising s f = f
refuses old new piece Document s f = f
refuses old new piece Failed s f = cc

-- a fault that shows with the piece
pub faulted : (old new : Feed) (piece : List ℕ) (fault : FrameFault) → old.stage ≡ stage.Reading → new.stage ≡ stage.Failed → Shows old.last (old.kept.items ++ piece) fault → Refuses old new piece fault
faulted old new piece fault reading failed h =
    refuses old new piece fault (shown old.last (old.kept.items ++ piece) fault h) (record {
      first = ap is_failed reading;
      failed = ap is_failed failed;
      shown = λ x fed.
          let w = faults x piece old.kept.items old.last fault (subst (λ (s : Stage). Stands x old.last old.kept.items s) reading fed) h in
          (subst (λ (s : Stage). Stands (x ++ piece) new.last new.kept.items s) (sym failed) (fault, w.1), w.0, w.1);
    })

-- a fault that showed before
pub waited : (old new : Feed) (piece : List ℕ) (fault : FrameFault) → old.stage ≡ stage.Faulty fault → new.stage ≡ stage.Failed → is_shown fault ≡ true → Refuses old new piece fault
waited old new piece fault faulty failed s =
    refuses old new piece fault s (record {
      first = ap is_failed faulty;
      failed = ap is_failed failed;
      shown = λ x fed.
          let w = stays x piece fault (subst (λ (s : Stage). Stands x old.last old.kept.items s) faulty fed) in
          (subst (λ (s : Stage). Stands (x ++ piece) new.last new.kept.items s) (sym failed) (fault, w.1), w.0, w.1);
    })

-- a piece that makes no frame whole
pub waits_at : (x piece kept now : List ℕ) (last : ℕ) (s : Stage) (new : List Snapshot) → s ≡ stage.Reading → now ≡ kept ++ piece → new ≡ [] → IsPart last (kept ++ piece) → Stands x last kept s
    → Stands (x ++ piece) last now s × Gains x (x ++ piece) (snapshots_view new)
waits_at x piece kept now last s new reading is none part fed =
    let w = waits x piece kept last (subst (λ (s : Stage). Stands x last kept s) reading fed) part in (
      subst (λ (s : Stage). Stands (x ++ piece) last now s) (sym reading) (subst (λ (l : List ℕ). Stands (x ++ piece) last l stage.Reading) (sym is) w.0),
      subst (λ (l : List Snapshot). Gains x (x ++ piece) (snapshots_view l)) (sym none) w.1,
    )

-- ---- a frame that the piece makes whole

-- what is kept is less than the frame that is begun
pub missing : (last : ℕ) (kept piece : List ℕ) (h : Header) → IsHeader last (kept ++ piece) h → (4 ≤ length kept → length kept < 4 + length_in kept) → length kept ≤ h.end
missing last kept piece h is part = elim (cases_lt (length kept) 4) [ inl few ↦ omega (arith, is.end, is.frame.low) | inr many ↦ omega (arith, is.end, part many, length_in-append kept piece many) ]

-- the bytes of the frame, its first 12 left out
pub document_is : (last : ℕ) (kept piece front now : List ℕ) (h : Header) → IsHeader last (kept ++ piece) h → length kept ≤ h.end → front ≡ take (h.end - length kept) piece → now ≡ kept ++ front → drop 12 now ≡ document_in (kept ++ piece)
document_is last kept piece front now h is fits split joined =
    ap (drop 12) (joined ∙ ap (λ (l : List ℕ). kept ++ l) split ∙ sym (take_past kept piece h.end fits)) ∙ whole_document last (kept ++ piece) h is

pub received_at : (x piece kept front after now : List ℕ) (last : ℕ) (s : Stage) (h : Header) (r : Received) → s ≡ stage.Reading → IsHeader last (kept ++ piece) h → length kept ≤ h.end
    → ((i : ℕ) → get_or now i 0 < 256) → ((i : ℕ) → get_or piece i 0 < 256)
    → front ≡ take (h.end - length kept) piece → after ≡ drop (h.end - length kept) piece → now ≡ kept ++ front → IsBehind h.number (drop 12 now) after r → Stands x last kept s
    → Stands (x ++ piece) r.last r.kept.items r.stage × Gains x (x ++ piece) (snapshots_view r.snapshots.items)
received_at x piece kept front after now last s h r reading is fits small-now small-piece split behind joined got fed =
    let all = kept ++ piece in
    let one : Numbered = record { number = h.number; flags = got.flags; floats = got.floats } in
    let means = subst (λ (l : List ℕ). MeansFlags l got.flags got.floats) (document_is last kept piece front now h is fits split joined) got.means in
    let f = first last all h one is (small-append kept piece (small-front kept front (subst (λ (l : List ℕ). (i : ℕ) → get_or l i 0 < 256) joined small-now)) small-piece) refl means in
    let rest : drop h.end all ≡ after = drop_past kept piece h.end fits ∙ sym behind in
    receives x piece kept after last one r (subst (λ (s : Stage). Stands x last kept s) reading fed) (subst (λ (l : List ℕ). IsFirst last one all l) rest f) got.received

pub refused_at : (piece kept front now : List ℕ) (last : ℕ) (h : Header) → IsHeader last (kept ++ piece) h → length kept ≤ h.end → front ≡ take (h.end - length kept) piece → now ≡ kept ++ front
    → (fault : DefFault) × MeansWithFloats (drop 12 now) (Err fault) → Shows last (kept ++ piece) Document
refused_at piece kept front now last h is fits split joined (fault, means) =
    refused last (kept ++ piece) h fault is (subst (λ (l : List ℕ). MeansWithFloats l (Err fault)) (document_is last kept piece front now h is fits split joined) means)
