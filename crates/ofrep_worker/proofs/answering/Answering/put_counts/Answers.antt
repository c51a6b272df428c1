use Rattle.std.proofs.Common.{List, ℕ, ◌++◌, ap, ◌∙◌}
use Rattle.ofrep_worker.proofs.Counting.{ends_still}
use Rattle.ofrep_worker.proofs.answering.Answering.put_counts.Goals as goal

pub returns-clause-counts : goal.returns-clause-counts
returns-clause-counts g c =
    ends_still _ _ _ c.in_ok-text.ensures
    (c.in_ok-put_slice.ensures.ok ∙ ap (λ (bytes : List ℕ). c.args.response.now.body.items ++ bytes) c.as_bytes.ensures.value)
