use Rattle.std.proofs.Common.{◌≡◌, ◌+◌, Result, false, sym, subst, rules}
use Rattle.note_tallies.specs.Lines.{Tallied}
use Rattle.note_tallies.specs.Blank.{is_blank}
use Rattle.note_tallies.specs.Filter.{Filtered, TakesLine}
use Rattle.note_tallies.specs.declared.filter_fault.FilterFault.{FilterFault}
use Rattle.note_tallies.proofs.Filtering.{takes}
use Rattle.note_tallies.proofs.filter.TallyFilter.take.Goals as goal

pub returns-clause-exact : goal.returns-clause-exact
returns-clause-exact c =
    let old : Filtered = record { tally = c.self.inside.tally; lines = c.self.inside.lines } in
    let line = c.args.line.now in
    let next : Filtered = record { tally = c.take.new.self; lines = c.self.inside.lines + 1 } in
    let some : is_blank line ≡ false = search rules in
    subst (λ (f : Filtered). TakesLine f line c.numbered.result next) c.self.view_is
    (subst (λ (r : Result (Unit {0}) FilterFault). TakesLine old line r next) (sym c.numbered.ensures)
    (takes old line c.take.result c.take.new.self some c.take.ensures.taken c.take.ensures.refused c.take.ensures.same))
