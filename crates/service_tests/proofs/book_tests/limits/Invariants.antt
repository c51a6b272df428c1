use Rattle.service_tests.proofs.book_tests.limits.Given as goal

abbrev pub ghosts-full_page : goal.ghosts-full_page
ghosts-full_page g a = record { table = a.blanks.table; seats = a.blanks.seats }
