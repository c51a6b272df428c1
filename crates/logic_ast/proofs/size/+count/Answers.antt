use Rattle.std.proofs.Common.{ap, sym, ◌∙◌}
use Rattle.flag_text.specs.View.{view, members_view}
use Rattle.logic_ast.specs.Size.{expression_size, object_size, left_after}
use Rattle.logic_ast.proofs.Sizes.{object_size-several, bucket_parts_size-several}
use Rattle.logic_ast.proofs.Trees.{view-object}
use Rattle.logic_ast.proofs.size.+count.Goals as goal

pub count-returns-in-Object : goal.count-returns-in-Object
count-returns-in-Object t c =
    let l = c.args.levels in
    let n = c.args.nodes in
    c.count_object.ensures
    ∙ (ap (λ ms. left_after l n (object_size (members_view ms))) c.as_slice-in-Object.ensures.value
    ∙ sym (ap (λ x. left_after l n (expression_size x)) (ap view c.in-Object.is ∙ view-object _)))

pub count_object-returns-in-len2-up : goal.count_object-returns-in-len2-up
count_object-returns-in-len2-up t c =
    c.count_literal-in-len2-up.ensures ∙ ap (left_after c.args.levels c.args.nodes) (sym (object_size-several c.args.members.now c.in-len2-up.len_at_least))

pub count_parts-returns-in-len2-up : goal.count_parts-returns-in-len2-up
count_parts-returns-in-len2-up t c =
    c.count_all.ensures ∙ ap (left_after c.args.levels c.args.nodes) (sym (bucket_parts_size-several c.args.parts.now c.in-len2-up.len_at_least))
