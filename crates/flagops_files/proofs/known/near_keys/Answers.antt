use Rattle.std.proofs.Common.{ℕ, List, ◌++◌, sym, ap, ◌∙◌}
use Rattle.flag_defs.specs.Definition.{Definition}
use Rattle.flag_defs.specs.Flag.{flag_view}
use Rattle.flag_defs.specs.Flags.{flags_view}
use Rattle.flagops_files.proofs.Loops.{one_more}
use Rattle.flagops_files.specs.Known.{key_if_near}
use Rattle.flagops_files.proofs.known.near_keys.Goals as goal

pub loop-i-preserved : goal.loop-i-preserved
loop-i-preserved c =
    let flag : List ℕ × Definition = (c.at.result.0.now, flag_view c.at.result.1.now) in
    c.in_ok-push_if_near.ensures ∙ ap (λ (keys : List (List ℕ)). keys ++ key_if_near c.args.key.now flag.0) c.loop-i.invariant
    ∙ sym (one_more (λ (f : List ℕ × Definition). key_if_near c.args.key.now f.0) (flags_view c.args.flags.now) c.loop-i.i flag c.at.ensures)
