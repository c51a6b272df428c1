use Rattle.std.proofs.Common.{◌∙◌, arith}
use Rattle.flagops_service.specs.Words.{answering_view}
use Rattle.flagops_service.proofs.Seats.{in_pairs, one_each}
use Rattle.flagops_service.proofs.command.attend.Goals as goal

-- there is a seat for each listener
pub work_beside-ended-requires-clause-streamed : goal.work_beside-ended-requires-clause-streamed
work_beside-ended-requires-clause-streamed g c κs within =
    let a = answering_view c.args.answering.now in
    let given = c.in-Ok.ensures in
    one_each c.in-Ok.operations a.admin a.log c.args.others c.seated.new.others (λ v. v.len) c.len.result (given.post ∙ c.requires.operated) (omega (arith, c.requires.others, c.len.ensures)) given.left given.kept ∙ c.len.ensures

-- and for each thread of operations two
pub work_beside-ended-requires-clause-paired : goal.work_beside-ended-requires-clause-paired
work_beside-ended-requires-clause-paired g c κs within = in_pairs c.in-Ok.operations (λ operations. operations.seats.len) (λ operations. operations.desks.len) _ c.in-Ok.ensures.seats
