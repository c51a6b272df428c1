use Rattle.std.proofs.Common.{sym, ◌∙◌}
use Rattle.std.proofs.lemmas.Bool.{true≢false}
use Rattle.sync_server.proofs.follow.end_of_input.Goals as goal

pub returns-then-done-clause-at_end : goal.returns-then-done-clause-at_end
returns-then-done-clause-at_end c = λ stream fed. (c.done.ensures stream fed).0 c.if-done.true

pub returns-else-done-clause-at_end : goal.returns-else-done-clause-at_end
returns-else-done-clause-at_end c = λ stream fed is. absurd (true≢false (sym ((c.done.ensures stream fed).1 is) ∙ c.if-done.false))
