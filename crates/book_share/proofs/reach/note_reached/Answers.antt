use Rattle.std.proofs.Common.{arith}
use Rattle.flag_defs.specs.Flags.{flags_view}
use Rattle.site_pages.specs.Keyed.{targeting_of}
use Rattle.book_share.proofs.Reaching.{notes_before, notes_more}
use Rattle.book_share.proofs.reach.note_reached.Goals as goal

pub loop-reach-init : goal.loop-reach-init
loop-reach-init g c =
    let key = c.args.sites.now.key.now in (
      notes_before key (targeting_of (flags_view c.args.sites.now.flags.now) key) c.args.seat.now c.args.refused.now,
      omega arith,
    )

pub loop-reach-preserved : goal.loop-reach-preserved
loop-reach-preserved g c =
    let key = c.args.sites.now.key.now in
    let t = targeting_of (flags_view c.args.sites.now.flags.now) key in (
      notes_more key t c.args.reached.now c.loop-reach.reach-index c.reach-item.result c.args.seat.now c.loop-reach.seat c.note_at.new.seat c.args.refused.now c.loop-reach.refused c.note_at.new.refused
          c.loop-reach-test.true c.reach-item.is c.loop-reach.invariant.0 c.in_ok-note_at.ensures.noted,
      (let a = c.loop-reach.invariant.1 in let b = c.in_ok-note_at.ensures.grown in omega (arith, a, b)),
    )
