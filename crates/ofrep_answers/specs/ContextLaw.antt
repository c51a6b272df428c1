-- What holds of every body whose context is refused.
use Rattle.std.specs.Prelude.{◌≡◌, ℕ, true, List, Err, is_some}
use Rattle.ofrep_answers.specs.Context.{context_of, max_body}
use Rattle.ofrep_answers.specs.Way.{way_of}
use Rattle.ofrep_answers.specs.declared.fault.ContextFault.TheVariants.{TooDeep}
use Rattle.spelled_numbers.specs.Sent.{sent_of}

-- A context that is refused for its levels has a way to the first place that is too deep, which the details then name.
abbrev pub HasWays : Type 0
HasWays = (body : List ℕ) → context_of body ≡ Err TooDeep → is_some (way_of (sent_of body max_body)) ≡ true
