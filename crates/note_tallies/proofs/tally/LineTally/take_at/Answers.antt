use Rattle.std.proofs.Common.{subst}
use Rattle.note_tallies.specs.Place.{IsPlace}
use Rattle.note_tallies.specs.declared.place.Place.TheVariants.{Other, Own}
use Rattle.note_tallies.proofs.Refused.{other_refused, other_taken, own_below, own_line, own_refused, own_taken}
use Rattle.note_tallies.proofs.tally.LineTally.take_at.Goals as goal

pub count-requires-clause-line : goal.count-requires-clause-line
count-requires-clause-line c = own_line c.args.self.now c.args.line.now c.in-Own.at (subst (IsPlace c.args.self.now c.args.line.now) c.in-Own.is c.requires.place)

pub count-requires-clause-below : goal.count-requires-clause-below
count-requires-clause-below c = own_below c.args.self.now c.args.line.now c.in-Own.at (subst (IsPlace c.args.self.now c.args.line.now) c.in-Own.is c.requires.place)

pub returns-in-Own-clause-taken : goal.returns-in-Own-clause-taken
returns-in-Own-clause-taken c =
    own_taken c.args.self.now c.args.line.now c.in-Own.at (subst (IsPlace c.args.self.now c.args.line.now) c.in-Own.is c.requires.place) c.requires.above c.requires.alike c.count.result c.count.new.self c.count.ensures.counted

pub returns-in-Own-clause-refused : goal.returns-in-Own-clause-refused
returns-in-Own-clause-refused c =
    own_refused c.args.self.now c.args.line.now c.in-Own.at (subst (IsPlace c.args.self.now c.args.line.now) c.in-Own.is c.requires.place) c.requires.above c.requires.alike c.count.result c.count.ensures.refused

pub returns-in-Other-clause-taken : goal.returns-in-Other-clause-taken
returns-in-Other-clause-taken c =
    other_taken c.args.self.now c.pass.new.self c.args.line.now c.pass.result (subst (IsPlace c.args.self.now c.args.line.now) c.in-Other.is c.requires.place) c.requires.above c.requires.alike c.pass.ensures.passed

pub returns-in-Other-clause-refused : goal.returns-in-Other-clause-refused
returns-in-Other-clause-refused c = other_refused c.args.self.now c.args.line.now c.pass.result c.pass.ensures.want
