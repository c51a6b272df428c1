use Rattle.std.proofs.Common.{ap, ◌∙◌, arith, rules}
use Rattle.logic_ast.specs.Sites.{sites}
use Rattle.logic_ast.specs.View.{node_view}
use Rattle.logic_ast.specs.declared.node.Node.{the_lemmas}
use Rattle.logic_ast.proofs.Views.{node_view-fractional}
use Rattle.logic_ast.proofs.lookup.+count.Goals as goal

pub count-count_in_by-requires : goal.count-count_in_by-requires
count-count_in_by-requires t c =
    let e = ap sites (ap node_view c.in-Fractional.is ∙ node_view-fractional _ _ _) in
    (search (rules, the_lemmas), omega (arith, e, c.requires))

pub count-count_in_buckets-requires : goal.count-count_in_buckets-requires
count-count_in_buckets-requires t c =
    let e = ap sites (ap node_view c.in-Fractional.is ∙ node_view-fractional _ _ _) in
    (search (rules, the_lemmas), omega (arith, e, c.requires))

pub count-overflow_add-inside : goal.count-overflow_add-inside
count-overflow_add-inside t c =
    let e = ap sites (ap node_view c.in-Fractional.is ∙ node_view-fractional _ _ _) in
    omega (arith, e, c.requires, c.count_in_by.ensures, c.count_in_buckets.ensures)

pub count-overflow_add-result : goal.count-overflow_add-result
count-overflow_add-result t c =
    let e = ap sites (ap node_view c.in-Fractional.is ∙ node_view-fractional _ _ _) in
    omega (arith, e, c.requires, c.count_in_by.ensures, c.count_in_buckets.ensures)

pub count-returns-in-Fractional : goal.count-returns-in-Fractional
count-returns-in-Fractional t c =
    let e = ap sites (ap node_view c.in-Fractional.is ∙ node_view-fractional _ _ _) in
    omega (arith, e, c.count_in_by.ensures, c.count_in_buckets.ensures)
