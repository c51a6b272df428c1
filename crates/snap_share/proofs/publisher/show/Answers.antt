use Rattle.std.proofs.Common.{rules, drop}
use Rattle.snap_share.proofs.Shown.{shown}
use Rattle.snap_share.proofs.publisher.show.Goals as goal

pub returns-in-Ok-clause-shown : goal.returns-in-Ok-clause-shown
returns-in-Ok-clause-shown g c =
    let old = c.args.writer.now in
    shown (λ operation. operation.number) _ _ c.requires old.desk.shown.value c.replace_with-shown.new.dest.desk.shown.value (drop old.behind old.log.items) (search rules)
