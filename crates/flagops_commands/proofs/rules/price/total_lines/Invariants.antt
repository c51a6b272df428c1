use Rattle.std.proofs.Common.{◌≡◌, ◌++◌, map, drop, string_bytes}
use Rattle.flagops_commands.specs.Price.{total_lines}
use Rattle.flagops_commands.proofs.rules.price.total_lines.Given as goal

abbrev pub invariant-loop-name : goal.invariant-loop-name
invariant-loop-name l = string_bytes l.lines ++ total_lines (map (λ e. (e.0.now, e.1)) (drop l.name-index l.totals)) ≡ total_lines (map (λ e. (e.0.now, e.1)) l.totals)
