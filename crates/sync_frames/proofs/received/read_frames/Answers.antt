use Rattle.std.proofs.Common.{◌∷◌, [], List, ap, subst, sym, ◌∙◌}
use Rattle.std.proofs.lemmas.List.{map-append}
use Rattle.sync_frames.specs.Snapshots.{Numbered, snapshot_view}
use Rattle.sync_frames.specs.Received.{HasRead}
use Rattle.sync_frames.specs.Feed.{snapshots_view}
use Rattle.sync_frames.proofs.Wholes.{shorter, read_more}
use Rattle.sync_frames.proofs.received.read_frames.Goals as goal

pub frames-smaller : goal.frames-smaller
frames-smaller c =
    let first = rw c.in-Whole.is at c.in_ok-snapshot.ensures in
    shorter _ _ _ _ first

pub frames-preserved : goal.frames-preserved
frames-preserved c =
    let first = rw c.in-Whole.is at c.in_ok-snapshot.ensures in
    let s = c.in-Whole.snapshot in
    let more = read_more _ _ _ _ _ _ (snapshot_view s) c.frames.invariant first in
    subst (λ (l : List Numbered). HasRead (snapshot_view c.args.first) c.args.bytes.now c.in-Whole.after.now l s.number)
    (sym (ap snapshots_view c.in_ok-push-in-Whole.ensures.items ∙ map-append snapshot_view c.frames.snapshots.items (s ∷ []))) more
