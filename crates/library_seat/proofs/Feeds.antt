-- What a feed knows, by the view of its connection.
use Rattle.std.proofs.Common.{◌≡◌, ℕ, List, [], ◌∷◌, ◌++◌, map, refl, sym, ap, ap₂, ◌∙◌, arith, false, Option, Some, None}
use Rattle.std.specs.Prelude.{option_map}
use Rattle.std.specs.Option.{option_to_list}
use Rattle.std.specs.List.{last_or}
use Rattle.std.proofs.lemmas.List.{map-append}
use Rattle.sync_frames.specs.Snapshots.{snapshot_view}
use Rattle.snap_core.specs.declared.snapshot.Snapshot.{Snapshot}
use Rattle.sync_frames.specs.Feed.{Faults, Gives, HasBeenFed, IsSame, Stands, has_failed, snapshots_view, waiting_in}
use Rattle.sync_frames.specs.Feed as feeds
use Rattle.sync_frames.specs.Frames.{Reads, ShowsNothing, last_number}
use Rattle.sync_frames.specs.declared.fault.FrameFault.{FrameFault}
use Rattle.sync_frames.specs.declared.fault.FrameFault.TheVariants.{WantOfMemory, Length, NotRising, Document, Failed}
use Rattle.sync_frames.specs.declared.feed.Feed.{Feed}
use Rattle.sync_frames.specs.declared.stage.Stage.{Stage}
use Rattle.sync_frames.specs.declared.stage.Stage.TheVariants as stage
use Rattle.sync_frames.specs.Header.{IsPart}
use Rattle.sync_frames.proofs.Streams.{part-no_frame, reads, reads_once}
use Rattle.library_seat.specs.Connection.{Connection, begun}
use Rattle.library_seat.specs.Feeding.{Breaks, Brings, Refuses}
use Rattle.library_seat.specs.Refusal.{of_frame}
use Rattle.library_seat.specs.View.{connection_view}

abbrev connection : ℕ → List ℕ → Stage → Connection
connection last kept s = record { last = last; kept = kept; stage = s }

empty_part : IsPart 0 []
empty_part = record { low = λ h. absurd (omega arith); high = λ h. absurd (omega arith); rises = λ h. absurd (omega arith); short = λ h. absurd (omega arith) }

empty_reading : Reads [] [] []
empty_reading = reads [] [] [] [] refl refl (part-no_frame 0 [] empty_part)

-- where nothing came, nothing is known
pub nothing_came : (last : ℕ) (kept : List ℕ) (s : Stage) → Stands [] last kept s → waiting_in s ≡ None → record { last = last; kept = kept; stage = s } ≡ begun
nothing_came last kept stage.Reading (ss, r, is) none =
    let one = reads_once [] ss [] kept [] r empty_reading in
    ap₂ (λ (n : ℕ) (l : List ℕ). connection n l stage.Reading) (is ∙ ap (last_number 0) one.0) one.1
nothing_came last kept (stage.Faulty fault) h none = cc
nothing_came last kept stage.Failed h none = cc

last_or-snoc : {A : Type 0} (o : Option A) (xs : List A) (x : A) → last_or o (xs ++ x ∷ []) ≡ Some x
last_or-snoc o [] x = refl
last_or-snoc o (y ∷ xs) x = last_or-snoc (Some y) xs x

-- the last one that leaves is the newest
pub newest : (all front : List Snapshot) (o : Option Snapshot) → all ≡ front ++ option_to_list o → (o ≡ None → all ≡ []) → option_map snapshot_view o ≡ last_or None (snapshots_view all)
newest all front None is none = sym (ap (λ (l : List Snapshot). last_or None (snapshots_view l)) (none refl))
newest all front (Some s) is none =
    sym (ap (λ (l : List Snapshot). last_or None (snapshots_view l)) is ∙ ap (last_or None) (map-append snapshot_view front (s ∷ [])) ∙ last_or-snoc None (map snapshot_view front) (snapshot_view s))

-- ---- what a feed answers

none_seen : (ss : List Snapshot) → snapshots_view ss ≡ [] → ss ≡ []
none_seen [] is = refl
none_seen (s ∷ ss) is = cc

pub brings : (old new : Feed) (piece : List ℕ) (ss : List Snapshot) → Gives old new piece (snapshots_view ss)
    → (ss ≡ [] → (stream : List ℕ) → HasBeenFed old stream → ShowsNothing (stream ++ piece)) → has_failed new ≡ false
    → Brings piece (snapshots_view ss) (connection_view old) (connection_view new)
brings old new piece ss gives quiet works = record {
  gains = gives;
  quiet = λ none. quiet (none_seen ss none);
  works = works;
}

pub same : (old new : Feed) → IsSame old new → connection_view new ≡ connection_view old
same old new s =
    ap₂ (λ (n : ℕ) (l : List ℕ). connection n l new.stage) s.last s.kept ∙ ap (λ (t : Stage). connection old.last old.kept.items t) s.stage

breaks : (old new : Feed) (piece : List ℕ) (fault : FrameFault) → Faults old new piece fault → Breaks piece fault (connection_view old) (connection_view new)
breaks old new piece fault f = record { first = f.first; failed = f.failed; shown = f.shown }

pub refuses : (old new : Feed) (piece : List ℕ) (fault : FrameFault) → feeds.Refuses old new piece fault → Refuses piece (of_frame fault) (connection_view old) (connection_view new)
refuses old new piece WantOfMemory r = same old new r
refuses old new piece Length r = breaks old new piece Length r
refuses old new piece NotRising r = breaks old new piece NotRising r
refuses old new piece Document r = breaks old new piece Document r
refuses old new piece Failed r = (r.0, same old new r.1)
