use Rattle.std.proofs.Common.{◌≡◌, ◌<◌, ◌++◌, ◌≢◌, ℕ, List, length}
use Rattle.std.specs.List.{All, AllPairs}
use Rattle.bucket_core.specs.Rule.{AreNamed, all_named, names_at}
use Rattle.bucket_core.proofs.Runs.{runs}
use Rattle.bucket_core.proofs.from_points.runs_of.Given as goal

-- the runs that were found, and those of the rest, are the runs of the whole, whatever the names
abbrev pub invariant-loop-item : goal.invariant-loop-item
invariant-loop-item l = (names : List (List ℕ)) → All (λ i. i < length names) l.items → AllPairs ◌≢◌ names
    → All (λ i. i < length names) l.rest × AreNamed names l.entries.items × (all_named names l.entries.items ++ runs (names_at names l.rest) ≡ runs (names_at names l.items))

abbrev pub decreases-loop-item : goal.decreases-loop-item
decreases-loop-item l = length l.rest
