use Rattle.std.proofs.Common.{ap, sym, ◌∙◌}
use Rattle.flag_text.specs.View.{view, members_view}
use Rattle.logic_ast.specs.Size.{members_size, full_size, left_after, around}
use Rattle.logic_ast.proofs.Trees.{view-object}
use Rattle.logic_ast.proofs.size.+full.Goals as goal

pub count_full-returns-in-Object : goal.count_full-returns-in-Object
count_full-returns-in-Object t c =
    let l = c.args.levels in
    let n = c.args.nodes in
    c.count_literal.ensures
    ∙ (ap (λ ms. left_after l n (around (members_size (members_view ms)))) c.as_slice-in-Object.ensures.value
    ∙ sym (ap (λ x. left_after l n (full_size x)) (ap view c.in-Object.is ∙ view-object _)))
