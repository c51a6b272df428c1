use Rattle.std.proofs.Common.{◌≡◌, map, string_bytes, take}
use Rattle.control_desk.proofs.logs.copied.Given as goal

-- those that were met are copied
abbrev pub invariant-loop-name : goal.invariant-loop-name
invariant-loop-name l = map string_bytes l.copies.items ≡ map (λ n. n.now) (take l.name-index l.names)
