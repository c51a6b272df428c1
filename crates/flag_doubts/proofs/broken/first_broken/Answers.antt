use Rattle.std.proofs.Common.{sym, ◌∙◌}
use Rattle.flag_defs.specs.Flag.{flag_view}
use Rattle.flag_defs.specs.Flags.{flags_view}
use Rattle.flag_doubts.proofs.FirstBroken.{broken_here, good_here}
use Rattle.flag_doubts.proofs.broken.first_broken.Goals as goal

pub returns-then-breaks : goal.returns-then-breaks
returns-then-breaks c =
    sym (broken_here (flags_view c.args.later.now) (flags_view c.args.current.now) c.loop-i.i (c.at.result.0.now, flag_view c.at.result.1.now) c.at.ensures (sym c.if-breaks.ensures)) ∙ c.loop-i.invariant

pub loop-i-preserved : goal.loop-i-preserved
loop-i-preserved c =
    sym (good_here (flags_view c.args.later.now) (flags_view c.args.current.now) c.loop-i.i (c.at.result.0.now, flag_view c.at.result.1.now) c.at.ensures (sym c.if-breaks.ensures)) ∙ c.loop-i.invariant
