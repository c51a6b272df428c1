use Rattle.std.proofs.Common.{ap, ◌∙◌, arith}
use Rattle.std.proofs.lemmas.List.{length-map, take_all}
use Rattle.flag_defs.specs.Flag.{entries_view, entry_view, flag_view}
use Rattle.flag_defs.specs.Flags.{flags_view}
use Rattle.flag_defs.specs.Floats.{entries_floats, entry_floats, floats_of, floats_view}
use Rattle.rollout.proofs.Copies.{one_more}
use Rattle.rollout.proofs.application.copies.Goals as goal

pub loop-i-preserved : goal.loop-i-preserved
loop-i-preserved c = (
  ap entries_view c.in_ok-push.ensures.items ∙ one_more flag_view _ _ _ (flags_view c.args.flags.now) c.loop-i.i _ _ c.loop-i.invariant.0 c.entry.ensures.value c.in_ok-key.ensures.ok c.in_ok-copy.ensures.value,
  ap entries_floats c.in_ok-push.ensures.items ∙ one_more floats_of _ _ _ (floats_view c.args.flags.now) c.loop-i.i _ _ c.loop-i.invariant.1 c.entry.ensures.floats c.in_ok-key.ensures.ok c.in_ok-copy.ensures.floats,
)

-- there are as many marks as flags
pub returns-clause-floats : goal.returns-clause-floats
returns-clause-floats c =
    let es = c.args.flags.now.flags.items in
    c.loop-i.invariant.1 ∙ take_all c.loop-i.i (floats_view c.args.flags.now) (omega (arith, length-map es entry_view, length-map es entry_floats))
