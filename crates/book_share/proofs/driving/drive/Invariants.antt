use Rattle.book_share.proofs.driving.drive.Given as goal

abbrev pub ghosts-driven_by : goal.ghosts-driven_by
ghosts-driven_by g a = record { table = a.blanks.table; seats = a.blanks.seats }
