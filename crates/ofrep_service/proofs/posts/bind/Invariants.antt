use Rattle.std.proofs.Common.{◌≡◌, ◌++◌, map}
use Rattle.ofrep_service.proofs.posts.bind.Given as goal

-- the logs of the posts so far, and then those that are left
abbrev pub invariant-loop-journal : goal.invariant-loop-journal
invariant-loop-journal g l = map (λ p. p.journal) l.posts.items ++ l.journal-iterator.rest.items ≡ l.fn.journals.items
