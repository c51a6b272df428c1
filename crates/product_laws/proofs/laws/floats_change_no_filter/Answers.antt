use Rattle.product_laws.proofs.Filters.{checks_stay, records_stay, tallies_stay}
use Rattle.product_laws.proofs.Served.{served_stay}
use Rattle.product_laws.proofs.Shown.{shown_stay}
use Rattle.product_laws.proofs.laws.floats_change_no_filter.Goals as goal

pub returns-clause-checks : goal.returns-clause-checks
returns-clause-checks c = checks_stay c.documents_stay.ensures.meanings c.documents_stay.ensures.trees

pub returns-clause-records : goal.returns-clause-records
returns-clause-records c = records_stay c.documents_stay.ensures.meanings c.documents_stay.ensures.trees

pub returns-clause-tallies : goal.returns-clause-tallies
returns-clause-tallies c = tallies_stay c.documents_stay.ensures.meanings c.documents_stay.ensures.trees

pub returns-clause-served : goal.returns-clause-served
returns-clause-served c = served_stay c.documents_stay.ensures.sources

pub returns-clause-shown : goal.returns-clause-shown
returns-clause-shown c = shown_stay c.documents_stay.ensures.meanings
