use Rattle.std.proofs.Common.{◌++◌, [], ◌∷◌, not, ap}
use Rattle.page_tally.proofs.Lacking.{stretch_more}
use Rattle.page_tally.proofs.stretch.Stretch.take_next.Goals as goal

pub returns-clause-stretch : goal.returns-clause-stretch
returns-clause-stretch c = λ bytes had.
    let input = c.in-Some.input.now in
    (had.0 ++ input ∷ [], stretch_more bytes c.args.key.now had.0 input c.args.self.now _ had.1 c.if-self.false c.in-Some.ensures.line c.in-Some.ensures.behind (ap not c.starts_with.ensures.value))
