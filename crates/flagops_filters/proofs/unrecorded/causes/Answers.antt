use Rattle.std.proofs.Common.{◌≡◌, ◌++◌, ℕ, List, IfOk, ap₂, string_bytes, subst}
use Rattle.flagops_filters.proofs.unrecorded.causes.Goals as goal

pub returns : goal.returns
returns c =
    let keyless = string_bytes c.in_ok-keyless.keyless in
    let unreached = string_bytes c.in_ok-unreached.unreached in
    let parse_error = string_bytes c.in_ok-parse_error.parse_error in
    let disabled = string_bytes c.in_ok-disabled.disabled in
    let too_long = string_bytes c.in_ok-too_long.too_long in
    let and_then : List ℕ → List ℕ → List ℕ = λ a b. a ++ b in
    let is = ap₂ and_then c.in_ok-keyless.ensures (ap₂ and_then c.in_ok-unreached.ensures (ap₂ and_then c.in_ok-parse_error.ensures (ap₂ and_then c.in_ok-disabled.ensures c.in_ok-too_long.ensures))) in
    let told : IfOk c.format.result (λ s. string_bytes s ≡ keyless ++ (unreached ++ (parse_error ++ (disabled ++ too_long)))) = c.format.ensures.ok in
    subst (λ (t : List ℕ). IfOk c.format.result (λ s. string_bytes s ≡ t)) is told
