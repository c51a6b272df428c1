use Rattle.std.proofs.Common.{◌∙◌, ℕ, List, sym}
use Rattle.std.proofs.lemmas.Map.Keys.{any_passes_from_place}
use Rattle.flag_defs.specs.Definition.{Definition}
use Rattle.flag_defs.specs.Flag.{flag_view, is_broken}
use Rattle.flag_defs.specs.Flags.{flags_view}
use Rattle.flagops_rollouts.proofs.Omissions.{one_passed}
use Rattle.flagops_rollouts.proofs.omitted.is_any_broken.Goals as goal

pub returns-then-is_broken : goal.returns-then-is_broken
returns-then-is_broken c =
    sym (any_passes_from_place (λ (f : List ℕ × Definition). is_broken f.1) (flags_view c.args.flags.now) c.loop-i.i (c.at.result.0.now, flag_view c.at.result.1.now) c.at.ensures (sym c.if-is_broken.ensures))

pub loop-i-preserved : goal.loop-i-preserved
loop-i-preserved c =
    sym (one_passed (λ (f : List ℕ × Definition). is_broken f.1) (flags_view c.args.flags.now) c.loop-i.i (c.at.result.0.now, flag_view c.at.result.1.now) c.at.ensures (sym c.if-is_broken.ensures)) ∙ c.loop-i.invariant
