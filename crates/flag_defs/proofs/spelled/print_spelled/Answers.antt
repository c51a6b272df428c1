use Rattle.std.proofs.Common.{codes, string_bytes, ap, ◌++◌, ◌∙◌}
use Rattle.std.specs.List.{zip}
use Rattle.flag_defs.specs.Flag.{entries_view}
use Rattle.flag_defs.specs.Floats.{entries_floats}
use Rattle.flag_defs.specs.Spelled.{entries_spelled}
use Rattle.flag_defs.proofs.Pieces.{two_added}
use Rattle.flag_defs.proofs.spelled.print_spelled.Goals as goal

pub returns : goal.returns
returns c =
    let es = c.args.flags.now in
    two_added (codes "{\"flags\":{") _ _ (entries_spelled (zip (entries_view es) (entries_floats es))) (codes "}}")
    (c.in_ok-push_entries.ensures ∙ ap (λ b. b ++ entries_spelled (zip (entries_view es) (entries_floats es))) c.in_ok-out.ensures.ok) c.in_ok-push_str.ensures.bytes
