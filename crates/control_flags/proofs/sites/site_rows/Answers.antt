use Rattle.std.proofs.Common.{ℕ, List, ◌++◌, sym, ap, ◌∙◌}
use Rattle.flag_defs.specs.Definition.{Definition}
use Rattle.flag_defs.specs.Flag.{flag_view}
use Rattle.flag_defs.specs.Flags.{flags_view}
use Rattle.control_flags.specs.Sites.{site_rows}
use Rattle.control_flags.proofs.Rows.{one_more}
use Rattle.control_flags.proofs.sites.site_rows.Goals as goal

pub loop-i-preserved : goal.loop-i-preserved
loop-i-preserved c =
    let flag : List ℕ × Definition = (c.at.result.0.now, flag_view c.at.result.1.now) in
    let rows = site_rows c.args.recorded.now.entries in
    c.in_ok-push_flag.ensures ∙ ap (λ (before : List (List ℕ)). before ++ rows flag) c.loop-i.invariant ∙ sym (one_more rows (flags_view c.args.flags.now) c.loop-i.i flag c.at.ensures)
