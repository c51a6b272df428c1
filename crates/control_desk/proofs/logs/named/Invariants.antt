use Rattle.std.proofs.Common.{◌≡◌, ◌++◌, drop, filter, map, string_bytes}
use Rattle.control_desk.specs.Names.{is_chosen}
use Rattle.control_desk.proofs.logs.named.Given as goal

-- those that were chosen, and those of what is left, are those of all
abbrev pub invariant-loop-name : goal.invariant-loop-name
invariant-loop-name l =
    map (λ n. n.now) l.chosen.items ++ filter (is_chosen l.compressed) (map string_bytes (drop l.name-index l.names)) ≡ filter (is_chosen l.compressed) (map string_bytes l.names)
