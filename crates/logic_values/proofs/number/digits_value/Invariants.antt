use Rattle.std.proofs.Common.{◌≡◌, ◌<◌, drop, option_and_then}
use Rattle.logic_values.specs.Number.{digits_after, below}
use Rattle.logic_values.proofs.number.digits_value.Given as goal

-- the rest of the digits answers as all of them
abbrev pub invariant-loop-byte : goal.invariant-loop-byte
invariant-loop-byte l = record {
  answers : option_and_then (below l.limit) (digits_after 0 l.digits) ≡ option_and_then (below l.limit) (digits_after l.value (drop l.byte-index l.digits));
  small : l.value < l.limit;
}
