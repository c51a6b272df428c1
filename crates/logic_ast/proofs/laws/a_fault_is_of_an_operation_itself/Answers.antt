use Rattle.logic_ast.proofs.Misused.{operation-misuse}
use Rattle.logic_ast.proofs.laws.a_fault_is_of_an_operation_itself.Goals as goal

pub returns : goal.returns
returns c = operation-misuse
