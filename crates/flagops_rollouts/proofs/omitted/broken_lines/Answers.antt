use Rattle.std.proofs.Common.{ℕ, List, ◌++◌, sym, ap, ◌∙◌}
use Rattle.flag_defs.specs.Definition.{Definition}
use Rattle.flag_defs.specs.Flag.{flag_view}
use Rattle.flag_defs.specs.Flags.{flags_view}
use Rattle.flagops_rollouts.specs.Omitted.{flag_line}
use Rattle.flagops_rollouts.proofs.Omissions.{one_more}
use Rattle.flagops_rollouts.proofs.omitted.broken_lines.Goals as goal

pub loop-i-preserved : goal.loop-i-preserved
loop-i-preserved c =
    let flag : List ℕ × Definition = (c.at.result.0.now, flag_view c.at.result.1.now) in
    c.in_ok-push_flag.ensures ∙ ap (λ (bytes : List ℕ). bytes ++ flag_line flag) c.loop-i.invariant ∙ sym (one_more flag_line (flags_view c.args.flags.now) c.loop-i.i flag c.at.ensures)
