use Rattle.std.proofs.Common.{ℕ, sym, subst, List, Err}
use Rattle.flag_defs.specs.Flags.{flags_view}
use Rattle.flag_defs.specs.Floats.{MeansFlags, MeansWithFloats, floats_view}
use Rattle.sync_frames.specs.Snapshots.{snapshot_view}
use Rattle.sync_frames.specs.Frames.{document_in}
use Rattle.sync_frames.specs.Received.{IsFirst}
use Rattle.sync_frames.proofs.Wholes.{first, refused, document_read, header-nil}
use Rattle.sync_frames.proofs.received.next_snapshot.Goals as goal

pub returns-in-Some : goal.returns-in-Some
returns-in-Some c =
    let last = c.args.last in
    let x = c.args.bytes.now in
    let s = c.in-Some.snapshot in
    let h = header-nil last x c.in-Frame.header c.in-Frame.ensures.finds in
    let read = rw c.in-Some.is at c.in_ok-snapshot-in-Frame.ensures in
    let means : MeansFlags (document_in x) (flags_view s.flags) (floats_view s.flags) = subst (λ (l : List ℕ). MeansFlags l (flags_view s.flags) (floats_view s.flags)) (document_read last x c.split_at.result.0.now c.in-Frame.header h c.split_at.ensures.front) read.1 in
    subst (λ (l : List ℕ). IsFirst last (snapshot_view s) x l) (sym c.split_at.ensures.back)
    (first last x c.in-Frame.header (snapshot_view s) h (λ i. (c.type_inv.bytes i).fits) read.0 means)

pub returns-in-None : goal.returns-in-None
returns-in-None c =
    let last = c.args.last in
    let x = c.args.bytes.now in
    let h = header-nil last x c.in-Frame.header c.in-Frame.ensures.finds in
    let read = rw c.in-None.is at c.in_ok-snapshot-in-Frame.ensures in
    refused last x c.in-Frame.header read.0 h
    (subst (λ (l : List ℕ). MeansWithFloats l (Err read.0)) (document_read last x c.split_at.result.0.now c.in-Frame.header h c.split_at.ensures.front) read.1)
