use Rattle.std.proofs.Common.{◌++◌, [], ◌∷◌, refl, sym}
use Rattle.page_tally.proofs.Parted.{part_more}
use Rattle.page_tally.proofs.part.Part.take_next.Goals as goal

pub returns-clause-part : goal.returns-clause-part
returns-clause-part c = λ bytes part.
    let line = c.in-Some.ensures in (
      part.0 ++ c.in-Some.input.now ∷ [],
      part_more bytes c.args.total part.0 c.in-Some.input.now c.in-Some.rest.now c.args.self.now _ part.1 line.line line.short line.behind line.shorter (sym c.if-not-is_below.ensures) refl refl refl c.in_ok-push_point.ensures refl,
    )
