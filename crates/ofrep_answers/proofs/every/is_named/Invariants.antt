use Rattle.std.proofs.Common.{◌≡◌, drop, map}
use Rattle.ofrep_answers.specs.Answer as spec
use Rattle.ofrep_answers.proofs.every.is_named.Given as goal

abbrev pub invariant-loop-field : goal.invariant-loop-field
invariant-loop-field l = spec.is_named l.opaque (map (λ field. field.now) (drop l.field-index l.fields)) ≡ spec.is_named l.opaque (map (λ field. field.now) l.fields)
