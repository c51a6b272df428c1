use Rattle.flagops_streams.proofs.serving.publish_in_turn.Given as goal

-- the history that was just made
abbrev pub ghosts-publish_to : goal.ghosts-publish_to
ghosts-publish_to g a = record { book = a.history.seen.book }
