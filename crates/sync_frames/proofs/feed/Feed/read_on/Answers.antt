use Rattle.std.proofs.Common.{◌++◌, subst, List, ℕ}
use Rattle.sync_frames.specs.Header.{Finds}
use Rattle.sync_frames.specs.declared.header.Begun.TheVariants.{Fault}
use Rattle.sync_frames.specs.declared.stage.Stage.{Stage}
use Rattle.sync_frames.proofs.Fed.{waits_at, faulted, finds-shows}
use Rattle.sync_frames.proofs.Feeds.{is_quiet}
use Rattle.sync_frames.specs.Feed.{Stands}
use Rattle.sync_frames.proofs.feed.Feed.read_on.Goals as goal

pub returns-in_ok-extend_from_slice-in-Part-clause-gives : goal.returns-in_ok-extend_from_slice-in-Part-clause-gives
returns-in_ok-extend_from_slice-in-Part-clause-gives c = λ x fed.
    let f = c.args.self.now in
    let part = rw c.as_slice.ensures.value at c.in-Part.ensures.finds in
    waits_at x c.args.piece.now f.kept.items c.extend_from_slice.new.self.items f.last f.stage c.new.result.items c.requires c.in_ok-extend_from_slice-in-Part.ensures.items c.new.ensures.items part fed

pub returns-in_ok-extend_from_slice-in-Part-clause-quiet : goal.returns-in_ok-extend_from_slice-in-Part-clause-quiet
returns-in_ok-extend_from_slice-in-Part-clause-quiet c = λ empty x fed.
    let f = c.args.self.now in
    let part = rw c.as_slice.ensures.value at c.in-Part.ensures.finds in
    is_quiet x c.args.piece.now f.kept.items f.last (subst (λ (s : Stage). Stands x f.last f.kept.items s) c.requires fed) part

pub returns-in-Fault-clause-refuses : goal.returns-in-Fault-clause-refuses
returns-in-Fault-clause-refuses c =
    let f = c.args.self.now in
    let finds = subst (λ (l : List ℕ). Finds f.last (l ++ c.args.piece.now) (Fault c.in-Fault.fault)) c.as_slice.ensures.value c.in-Fault.ensures.finds in
    rw c.fail.ensures.fault (faulted f c.fail.new.self c.args.piece.now c.in-Fault.fault c.requires c.fail.ensures.failed (finds-shows _ _ _ finds))
