use Rattle.std.proofs.Common.{◌≡◌, true, false, string_bytes, ap, ◌∙◌}
use Rattle.flag_text.specs.Printing.{text_of}
use Rattle.flag_text.specs.View.{view}
use Rattle.flag_text.specs.declared.tree.Tree.{Tree, Bool as Truth}
use Rattle.library_seat.proofs.Values.{pushed, says_false, says_true}
use Rattle.library_seat.proofs.answer.push_plain.Goals as goal

pub returns-in-Bool-true : goal.returns-in-Bool-true
returns-in-Bool-true c =
    let value = c.in-Bool-true.is in let truth = c.in-Bool-true.field-0-is in let is : Truth true ≡ c.args.value.now = cc in
    pushed c.push_str.result (string_bytes c.push_str.new.self) (string_bytes c.args.text.now) _ _ c.push_str.ensures.bytes (says_true ∙ ap (λ (t : Tree). text_of (view t)) is)

pub returns-in-Bool-false : goal.returns-in-Bool-false
returns-in-Bool-false c =
    let value = c.in-Bool-false.is in let truth = c.in-Bool-false.field-0-is in let is : Truth false ≡ c.args.value.now = cc in
    let step = c.push_str-in-Bool-false in
    pushed step.result (string_bytes step.new.self) (string_bytes c.args.text.now) _ _ step.ensures.bytes (says_false ∙ ap (λ (t : Tree). text_of (view t)) is)
