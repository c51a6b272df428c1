use Rattle.std.proofs.Common.{◌≡◌, map, string_bytes, take}
use Rattle.control_desk.proofs.telling.borrowed.Given as goal

-- those that were met are borrowed
abbrev pub invariant-loop-text : goal.invariant-loop-text
invariant-loop-text l = map (λ t. t.now) l.borrowed.items ≡ map string_bytes (take l.text-index l.texts)
