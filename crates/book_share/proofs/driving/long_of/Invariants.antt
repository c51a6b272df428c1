use Rattle.std.proofs.Common.{◌≡◌, ◌≤◌, ◌*◌, map, take}
use Rattle.std.specs.Prelude.{sum_by}
use Rattle.logic_eval.specs.Views.{reach_view}
use Rattle.book_share.specs.Asked.{long_inputs}
use Rattle.book_share.proofs.driving.long_of.Given as goal

abbrev pub invariant-loop-answer : goal.invariant-loop-answer
invariant-loop-answer l =
    (l.long ≤ l.answer-index * 18446744073709551615) × (l.long ≡ sum_by (λ r. long_inputs (map reach_view r.reached.items)) (take l.answer-index l.answers))
