use Rattle.flagops_files.proofs.Pieces.{book_piece, tally_piece, no_records}
use Rattle.flagops_files.proofs.laws.records_are_told_by_their_first_piece.Goals as goal

pub returns-clause-books : goal.returns-clause-books
returns-clause-books c = book_piece

pub returns-clause-tallies : goal.returns-clause-tallies
returns-clause-tallies c = tally_piece

pub returns-clause-others : goal.returns-clause-others
returns-clause-others c = no_records
