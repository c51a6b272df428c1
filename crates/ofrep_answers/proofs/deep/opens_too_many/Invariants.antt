use Rattle.std.proofs.Common.{◌≡◌, ◌≤◌, drop}
use Rattle.ofrep_answers.specs.Deep.{opens_from}
use Rattle.ofrep_answers.specs.declared.deep.Place.TheVariants.{Between}
use Rattle.ofrep_answers.proofs.deep.opens_too_many.Given as goal

-- the rest answers as the whole
abbrev pub invariant-loop-byte : goal.invariant-loop-byte
invariant-loop-byte l = (l.levels ≤ 127) × (opens_from l.place l.levels (drop l.byte-index l.bytes) ≡ opens_from Between 0 l.bytes)
