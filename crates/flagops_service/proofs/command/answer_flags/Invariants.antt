use Rattle.flagops_service.proofs.command.answer_flags.Given as goal

-- the history that was just made
abbrev pub ghosts-answer_prepared : goal.ghosts-answer_prepared
ghosts-answer_prepared g a = record { book = a.history.seen.book }
