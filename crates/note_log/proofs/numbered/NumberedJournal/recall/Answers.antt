use Rattle.std.proofs.Common.{◌≡◌, ℕ, List, rules, subst, sym}
use Rattle.log_file.specs.Line.{EndsLine}
use Rattle.note_log.proofs.numbered.NumberedJournal.recall.Goals as goal

pub recall-self-requires-clause-ends : goal.recall-self-requires-clause-ends
recall-self-requires-clause-ends g c =
    let same : c.as_slice.result.now ≡ c.take_last-lines.result.0.items = search rules in
    subst (λ (t : List ℕ). ∥ EndsLine t ∥₁) (sym same) c.take_last-lines.ensures.whole
