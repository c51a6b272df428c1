use Rattle.std.proofs.Common.{Ok, ap, sym, ◌∙◌, arith}
use Rattle.flag_text.specs.View.{view}
use Rattle.logic_ast.specs.Formed.{is_formed, is_well_formed}
use Rattle.logic_ast.specs.Reading.{expression_from}
use Rattle.logic_ast.specs.Size.{full_size}
use Rattle.logic_ast.specs.Stripped.{without_literals}
use Rattle.logic_ast.specs.Writing.{written}
use Rattle.logic_ast.proofs.Accepted.{is_small, has_no_fault, is_read}
use Rattle.logic_ast.proofs.Measured.{size-from}
use Rattle.logic_ast.proofs.Stripped.{size-written}
use Rattle.logic_ast.proofs.Written.{left}
use Rattle.logic_ast.proofs.WellFormed.{numbers-fit, is_well_formed-from}
use Rattle.logic_ast.proofs.read.into_expr.Goals as goal

pub read_node-requires : goal.read_node-requires
read_node-requires c = omega (arith, numbers-fit (view c.args.tree) (is_small (view c.args.tree) c.requires.accepted))

pub of-requires : goal.of-requires
of-requires c =
    let tree = view c.args.tree in
    ap is_well_formed c.in_ok-root.ensures.value ∙ is_well_formed-from tree c.requires.whole (is_small tree c.requires.accepted) (has_no_fault tree c.requires.accepted)

pub returns-clause-size : goal.returns-clause-size
returns-clause-size c =
    let tree = view c.args.tree in
    let read = expression_from 0 tree in
    let no_fault = has_no_fault tree c.requires.accepted in
    let formed = is_well_formed-from tree c.requires.whole (is_small tree c.requires.accepted) no_fault in
    sym (size-from 0 tree no_fault)
    ∙ (size-written 0 read (left (is_formed 0 read) _ formed)
    ∙ ap (λ e. full_size (written (without_literals e))) (sym (c.in_ok-of.ensures ∙ c.in_ok-root.ensures.value)))

pub returns-clause-exact : goal.returns-clause-exact
returns-clause-exact c = is_read (view c.args.tree) c.requires.accepted ∙ ap Ok (sym (c.in_ok-of.ensures ∙ c.in_ok-root.ensures.value))
