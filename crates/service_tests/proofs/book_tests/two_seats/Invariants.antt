use Rattle.service_tests.proofs.book_tests.two_seats.Given as goal

abbrev pub ghosts-told_to_two : goal.ghosts-told_to_two
ghosts-told_to_two g a = record { table = a.blanks.table; seats = a.blanks.seats }
