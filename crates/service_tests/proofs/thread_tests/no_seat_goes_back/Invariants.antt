use Rattle.service_tests.proofs.thread_tests.no_seat_goes_back.Given as goal

-- the history that was just made
abbrev pub ghosts-reads_of_eight : goal.ghosts-reads_of_eight
ghosts-reads_of_eight g a = record { book = a.history.seen.book }
