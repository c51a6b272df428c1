use Rattle.std.proofs.Common.{length, ap, arith}
use Rattle.flag_defs.specs.Flags.{flags_view}
use Rattle.book_share.specs.Driven.{Notes}
use Rattle.book_share.proofs.Bounded.{few_of_view}
use Rattle.book_share.proofs.Reaching.{noted_as}
use Rattle.book_share.proofs.worker.resolved.Goals as goal

pub note_reached-requires : goal.note_reached-requires
note_reached-requires g c =
    let few = few_of_view (flags_view c.args.round.now.flags.now) c.args.ask.now c.in_ok-resolution.resolution c.in_ok-resolution.ensures in
    let same = ap length c.as_slice.ensures.value in
    let room = c.requires in
    omega (arith, few, same, room)

pub returns-clause-noted : goal.returns-clause-noted
returns-clause-noted g c =
    noted_as (λ more. Notes more c.args.seat.now c.args.refused.now c.note_reached.new.seat c.note_reached.new.refused) (flags_view c.args.round.now.flags.now) c.args.ask.now c.as_slice.result.now c.in_ok-resolution.resolution
    c.as_slice.ensures.value c.in_ok-resolution.ensures c.in_ok-note_reached.ensures.noted

pub returns-clause-grown : goal.returns-clause-grown
returns-clause-grown g c =
    let few = few_of_view (flags_view c.args.round.now.flags.now) c.args.ask.now c.in_ok-resolution.resolution c.in_ok-resolution.ensures in
    let same = ap length c.as_slice.ensures.value in
    let grown = c.in_ok-note_reached.ensures.grown in
    omega (arith, few, same, grown)
