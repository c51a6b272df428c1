use Rattle.book_lock.proofs.Frozen.{page_full}
use Rattle.book_lock.proofs.Gained.{first_sightings}
use Rattle.book_lock.proofs.laws.a_legal_list_has_first_sightings.Goals as goal

pub returns : goal.returns
returns c = record { legal = first_sightings; full = page_full }
