use Rattle.service_tests.proofs.serve_tests.is_written.Given as goal

-- the history that was just made
abbrev pub ghosts-writes : goal.ghosts-writes
ghosts-writes g a = record { book = a.history.seen.book }
