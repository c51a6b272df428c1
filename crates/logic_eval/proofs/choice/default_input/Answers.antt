use Rattle.std.proofs.Common.{◌≡◌, ◌++◌, ◌+◌, ◌≤◌, List, ℕ, Ok, length, string_bytes, ap, sym, ◌∙◌, rules}
use Rattle.std.specs.Arc.{arc_value}
use Rattle.logic_values.specs.Text.{most_bytes}
use Rattle.logic_eval.proofs.Joined.{joined_same, made_short}
use Rattle.logic_eval.proofs.choice.default_input.Goals as goal

pub returns-then-is_joined : goal.returns-then-is_joined
returns-then-is_joined c =
    let s : List ℕ = c.args.flag.now ++ c.args.key.now in
    let same : c.as_str.result.now ≡ s = joined_same c.as_str.result.now s (sym c.is_joined.ensures ∙ c.if-is_joined.true) in
    let shared : string_bytes (arc_value c.in_ok-shared.field-0.text) ≡ c.as_str.result.now = search rules in
    let short : length c.args.flag.now + length c.args.key.now ≤ most_bytes = search rules in record {
      exact = made_short c.args.flag.now c.args.key.now short ∙ ap Ok (sym (shared ∙ same));
    }
