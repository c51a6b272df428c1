use Prim.Native.Nat.{◌+◌, ◌*◌}
use Rattle.book_share.proofs.jobs.+jobs.Given as goal

abbrev pub decreases-run_jobs : goal.decreases-run_jobs
decreases-run_jobs g l = 2 * l.low.len

abbrev pub decreases-front : goal.decreases-front
decreases-front g l = 2 * l.low.len + 1

abbrev pub decreases-back : goal.decreases-back
decreases-back g l = 2 * l.high.len + 1
