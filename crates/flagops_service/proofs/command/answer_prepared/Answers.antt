use Rattle.std.proofs.Common.{◌≡◌, ◌≤◌, ◌<◌, ◌∙◌, Ok, ap, arith, inr, sym}
use Rattle.flagops_streams.specs.declared.refusal.Refusal.TheVariants.{Share}
use Rattle.flagops_streams.proofs.Gives.{not_shared}
use Rattle.flagops_service.specs.Words.{answering_view, seats_of}
use Rattle.flagops_service.proofs.Seats.{fewer_fail}
use Rattle.flagops_service.proofs.command.answer_prepared.Goals as goal

pub returns-in-Err-share : goal.returns-in-Err-share
returns-in-Err-share g c =
    let fault = c.in-Err-share.fault in
    let made = c.saturating_add-wanted.result in
    let wanted = seats_of (answering_view c.args.answering.now) in
    let fails = not_shared made fault c.share.result c.in-Err-share.is c.share.ensures.none c.share.ensures.many c.in-Err-share.ensures.faults in
    let few : made ≤ wanted = omega (arith, c.operators_of-operators.ensures.value, c.saturating_add.ensures, c.saturating_add-wanted.ensures, c.requires.streams, c.len.ensures) in
    let none : made ≡ 0 → wanted ≡ 0 = λ z. omega (arith, z, c.operators_of-operators.ensures.value, c.saturating_add.ensures, c.saturating_add-wanted.ensures, c.requires.streams, c.len.ensures) in
    inr (Share fault, fewer_fail made wanted fault few none fails, c.refuse_and_tell-in-Err-share.ensures)

-- the flags with metadata are the merge
pub texts_of-requires-clause-merged : goal.texts_of-requires-clause-merged
texts_of-requires-clause-merged g c = c.requires.merged ∙ ap Ok (sym c.in-Ok.ensures.value)

-- the flags were shared with the metadata of all documents, and are their merge
pub answer_shared-status-requires-clause-begun : goal.answer_shared-status-requires-clause-begun
answer_shared-status-requires-clause-begun g c κs within = (c.in-Ok.flags, c.in-Ok-share.ensures.published, c.requires.merged ∙ ap Ok (sym c.in-Ok.ensures.value), c.in-Ok.ensures.described, c.in-Ok-texts_of.ensures)

-- there is a seat for each post and each listener, and two for each thread of operations
pub answer_shared-status-requires-clause-seats : goal.answer_shared-status-requires-clause-seats
answer_shared-status-requires-clause-seats g c κs within =
    let few : 64 < c.saturating_add-wanted.result → ⊥ = λ many. cc (c.share.ensures.many.1 many, c.in-Ok-share.is) in
    omega (arith, few, c.in-Ok-share.ensures.seats.0, c.saturating_add.ensures, c.saturating_add-wanted.ensures, c.operators_of-operators.ensures.value, c.requires.posts, c.requires.streams, c.len.ensures)
