use Rattle.std.proofs.Common.{◌≡◌, vec_len}
use Rattle.ofrep_service.proofs.streams.bind_stream.Given as goal

-- a listener for each seat so far
abbrev pub invariant-loop-seat : goal.invariant-loop-seat
invariant-loop-seat g l = vec_len l.listeners ≡ l._seat
