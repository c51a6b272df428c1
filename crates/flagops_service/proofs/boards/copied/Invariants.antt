use Rattle.std.proofs.Common.{◌≡◌, map, string_bytes, take}
use Rattle.flagops_service.proofs.boards.copied.Given as goal

-- those that were met are copied
abbrev pub invariant-loop-text : goal.invariant-loop-text
invariant-loop-text l = map string_bytes l.copies.items ≡ map (λ t. t.now) (take l.text-index l.texts)
