use Rattle.service_tests.proofs.snapshot_tests.is_shared.Given as goal

-- the history that was just made
abbrev pub ghosts-comes_to : goal.ghosts-comes_to
ghosts-comes_to g a = record { book = a.history.seen.book }
