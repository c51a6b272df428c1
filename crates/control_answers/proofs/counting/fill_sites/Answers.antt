use Rattle.std.proofs.Common.{ℕ, List, take, sym, subst}
use Rattle.std.specs.List.{flat_map}
use Rattle.book_core.specs.Page.{PageName}
use Rattle.flag_defs.specs.Definition.{Definition}
use Rattle.flag_defs.specs.Flag.{flag_view}
use Rattle.flag_defs.specs.Flags.{flags_view}
use Rattle.control_answers.proofs.Joined.{one_more}
use Rattle.control_answers.specs.SiteCounts.{Fills, pages_of_flag}
use Rattle.control_answers.proofs.Filled.{fills_more, fills_none}
use Rattle.control_answers.proofs.counting.fill_sites.Goals as goal

pub loop-i-init : goal.loop-i-init
loop-i-init c = fills_none c.args.counts.now.entries

pub loop-i-preserved : goal.loop-i-preserved
loop-i-preserved c =
    let flags = flags_view c.args.flags.now in
    let flag : List ℕ × Definition = (c.at.result.0.now, flag_view c.at.result.1.now) in
    let old = c.args.counts.now.entries in
    let new = c.fill_flag.new.counts.entries in
    subst (λ (ps : List PageName). Fills old ps new) (sym (one_more pages_of_flag flags c.loop-i.i flag c.at.ensures))
    (fills_more old c.loop-i.counts.entries new (flat_map pages_of_flag (take c.loop-i.i flags)) (pages_of_flag flag) c.loop-i.invariant c.in_ok-fill_flag.ensures)
