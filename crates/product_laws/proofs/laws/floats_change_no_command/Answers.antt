use Rattle.product_laws.proofs.Commands.{files_stay, outcomes_stay, remarks_stay}
use Rattle.product_laws.proofs.laws.floats_change_no_command.Goals as goal

pub returns-clause-outcomes : goal.returns-clause-outcomes
returns-clause-outcomes c =
    outcomes_stay c.documents_stay.ensures.meanings c.documents_stay.ensures.trees c.documents_stay.ensures.none c.whole_numbers_stay.ensures c.floats_are_of_their_kind.ensures.same c.floats_are_of_their_kind.ensures.plain
    c.floats_change_nothing.ensures.same

pub returns-clause-remarks : goal.returns-clause-remarks
returns-clause-remarks c =
    remarks_stay c.documents_stay.ensures.meanings c.documents_stay.ensures.none c.floats_change_nothing.ensures.answers c.floats_change_nothing.ensures.plain c.documents_stay.ensures.trees

pub returns-clause-files : goal.returns-clause-files
returns-clause-files c = files_stay c.documents_stay.ensures.meanings c.documents_stay.ensures.none
