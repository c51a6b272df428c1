use Rattle.std.specs.Prelude.{◌≡◌, ℕ, ◌+◌, ◌<◌, [], All, IfSome, length, slice_get}
use Rattle.book_lock.specs.Counts.{own}
use Rattle.book_share.proofs.gather.jobs_of.Given as goal

abbrev pub invariant-loop-seat : goal.invariant-loop-seat
invariant-loop-seat g l =
    All (λ seat. own seat ≡ []) l.seat-iterator.rest.items × All (λ job. (own job.seat ≡ []) × (job.first < l.workers) × (job.answers.items ≡ [])) l.jobs.items × ((i : ℕ) → IfSome (slice_get l.jobs.items i) (λ job. job.first ≡ i))
    × (length l.jobs.items + length l.seat-iterator.rest.items ≡ l.workers)
