-- The names of the two books are picked by their blanks.
use Rattle.upper_tests.proofs.sealed.file_of_all.Given as goal

abbrev pub ghosts-file_by_seats : goal.ghosts-file_by_seats
ghosts-file_by_seats g a = record { table = a.blanks.table; seats = a.blanks.seats }

abbrev pub ghosts-book_by_seats : goal.ghosts-book_by_seats
ghosts-book_by_seats g a = record { table = a.blanks.table; seats = a.blanks.seats }
