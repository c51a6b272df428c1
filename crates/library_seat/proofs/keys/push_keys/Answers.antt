use Rattle.std.proofs.Common.{ℕ, List, ◌++◌, sym, ap, ◌∙◌}
use Rattle.flag_defs.specs.Definition.{Definition}
use Rattle.flag_defs.specs.Flag.{flag_view}
use Rattle.flag_defs.specs.Flags.{flags_view}
use Rattle.library_seat.specs.Keys.{key_line}
use Rattle.library_seat.proofs.Loops.{one_more}
use Rattle.library_seat.proofs.keys.push_keys.Goals as goal

pub loop-i-preserved : goal.loop-i-preserved
loop-i-preserved c =
    let flag : List ℕ × Definition = (c.at.result.0.now, flag_view c.at.result.1.now) in
    c.in_ok-push_key.ensures ∙ ap (λ (bytes : List ℕ). bytes ++ key_line flag) c.loop-i.invariant ∙ sym (one_more key_line (flags_view c.args.flags.now) c.loop-i.i flag c.at.ensures)
