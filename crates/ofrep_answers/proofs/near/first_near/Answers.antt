use Rattle.std.proofs.Common.{sym, ◌∙◌}
use Rattle.flag_defs.specs.Flag.{flag_view}
use Rattle.flag_defs.specs.Flags.{flags_view}
use Rattle.ofrep_answers.proofs.FirstNear.{near_here, not_here}
use Rattle.ofrep_answers.proofs.near.first_near.Goals as goal

pub returns-then-is_near : goal.returns-then-is_near
returns-then-is_near c =
    sym (near_here c.args.key.now (flags_view c.args.flags.now) c.loop-i.i (c.at.result.0.now, flag_view c.at.result.1.now) c.at.ensures (sym c.is_near.ensures ∙ c.if-is_near.true)) ∙ c.loop-i.invariant

pub loop-i-preserved : goal.loop-i-preserved
loop-i-preserved c =
    sym (not_here c.args.key.now (flags_view c.args.flags.now) c.loop-i.i (c.at.result.0.now, flag_view c.at.result.1.now) c.at.ensures (sym c.is_near.ensures ∙ c.if-is_near.false)) ∙ c.loop-i.invariant
