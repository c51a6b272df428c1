use Rattle.std.proofs.Common.{append_assoc}
use Rattle.control_answers.specs.History.{cost_text, row_view, rules_text, who_text}
use Rattle.control_answers.proofs.history.history_row.Goals as goal

pub returns : goal.returns
returns c =
    let r = row_view c.args.row.now in
    rw (c.in_ok-push_str-2.ensures.bytes, c.in_ok-push_str.ensures.bytes, c.in_ok-text.ensures, c.as_str.ensures.value, c.in_ok-rules.ensures, c.as_str-2.ensures.value, c.in_ok-who.ensures)
    (append_assoc (cost_text r) (rules_text r) (who_text r))
