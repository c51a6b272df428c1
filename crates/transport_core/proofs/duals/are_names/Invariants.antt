use Rattle.std.proofs.Common.{◌≡◌, drop, length}
use Rattle.std.specs.Cmp.Lexicographic.{pointwise}
use Rattle.std.specs.Map.{keys_of}
use Rattle.std.specs.Str.{bytes_eq}
use Rattle.price_core.specs.Limits.{limits_view}
use Rattle.transport_core.specs.Certificate.{beta_view}
use Rattle.transport_core.proofs.duals.are_names.Given as goal

-- the rest answers as the whole
abbrev pub invariant-loop-i : goal.invariant-loop-i
invariant-loop-i l = record {
  same : length l.beta ≡ length l.limits;
  rest : pointwise bytes_eq (keys_of (beta_view (drop l.i l.beta))) (keys_of (limits_view (drop l.i l.limits))) ≡ pointwise bytes_eq (keys_of (beta_view l.beta)) (keys_of (limits_view l.limits));
}
