use Rattle.std.proofs.Common.{Some, ap, sym, ◌∙◌}
use Rattle.flag_text.specs.View.{view, members_view}
use Rattle.logic_ast.specs.FirstFault.{expression_fault, object_fault}
use Rattle.logic_ast.proofs.Misused.{operation-some, operation-none}
use Rattle.logic_ast.proofs.Sizes.{object_fault-several}
use Rattle.logic_ast.proofs.Trees.{view-object}
use Rattle.logic_ast.proofs.check.+check.Goals as goal

pub first_fault-returns-in-Object : goal.first_fault-returns-in-Object
first_fault-returns-in-Object t c =
    c.object_fault.ensures ∙ (ap (λ ms. object_fault (members_view ms)) c.as_slice-in-Object.ensures.value ∙ sym (ap expression_fault (ap view c.in-Object.is ∙ view-object _)))

pub object_fault-returns-in-len2-up : goal.object_fault-returns-in-len2-up
object_fault-returns-in-len2-up t c = sym (object_fault-several c.args.members.now c.in-len2-up.len_at_least)

pub operation_fault-returns-in-Some : goal.operation_fault-returns-in-Some
operation_fault-returns-in-Some t c =
    ap Some c.fault.ensures ∙ operation-some c.args.name.now (view c.args.arguments.now) c.in-Some.misuse (sym c.of.ensures ∙ c.in-Some.is)

pub operation_fault-returns-in-None : goal.operation_fault-returns-in-None
operation_fault-returns-in-None t c =
    c.first_fault.ensures ∙ operation-none c.args.name.now (view c.args.arguments.now) (sym c.of.ensures ∙ c.in-None.is)
