use Rattle.flag_references.proofs.Misused.{place-fault, place-tells}
use Rattle.flag_references.proofs.laws.a_fault_has_a_place.Goals as goal

pub returns-clause-found : goal.returns-clause-found
returns-clause-found c = place-fault

pub returns-clause-same : goal.returns-clause-same
returns-clause-same c = place-tells
