use Rattle.std.proofs.Common.{◌≡◌, true, subst}
use Rattle.sync_frames.specs.Stage.{is_stage}
use Rattle.sync_frames.specs.declared.stage.Stage.{Stage}
use Rattle.sync_frames.proofs.Fed.{waited}
use Rattle.sync_frames.proofs.feed.Feed.feed.Goals as goal

pub returns-in-Faulty-clause-refuses : goal.returns-in-Faulty-clause-refuses
returns-in-Faulty-clause-refuses c =
    let f = c.args.self.now in
    let h = subst (λ (s : Stage). is_stage s ≡ true) c.in-Faulty.is f.shown in
    rw c.fail.ensures.fault (waited f c.fail.new.self c.args.piece.now c.in-Faulty.fault c.in-Faulty.is c.fail.ensures.failed h)
