use Rattle.std.proofs.Common.{◌≡◌, ℕ, ◌<◌, true, None, List, length, get_or, option_and_then, rules, sym, ap, ◌∙◌}
use Rattle.std.specs.Char.{is_ascii_digit}
use Rattle.logic_values.specs.Number.{below, digits_value}
use Rattle.logic_values.proofs.Numbers.{digits_value_some, digits_after_passed}
use Rattle.logic_values.proofs.number.digits_value.Goals as goal

pub returns-in_err-value-clause-value : goal.returns-in_err-value-clause-value
returns-in_err-value-clause-value c =
    let ds : List ℕ = c.args.digits.now in
    let i : ℕ = c.loop-byte.byte-index in
    let some : 0 < length ds = search rules in
    let within : i < length ds = search rules in
    let digit : is_ascii_digit (get_or ds i 0) ≡ true = search rules in
    let passed : option_and_then (below c.args.limit) (digits_value ds) ≡ None =
    ap (option_and_then (below c.args.limit)) (digits_value_some ds some) ∙ c.loop-byte.invariant.answers ∙ digits_after_passed c.args.limit ds c.loop-byte.value i within digit (sym c.in_err-value.ensures.value) in
    c.from_residual.ensures ∙ sym passed
