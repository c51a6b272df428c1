use Rattle.std.proofs.Common.{◌≡◌, drop, map, take}
use Rattle.ofrep_service.specs.Logs.{read_in, taken_of}
use Rattle.ofrep_service.proofs.workers.recall.Given as goal

-- the files of the posts so far are the same, and their last lines are taken
abbrev pub invariant-loop-post : goal.invariant-loop-post
invariant-loop-post g l =
    (map (λ p. read_in p.journal) (take l.post-index l.posts) ≡ map (λ p. taken_of p.journal) (take l.post-index l.initial.posts))
    × (drop l.post-index l.posts ≡ drop l.post-index l.initial.posts)
