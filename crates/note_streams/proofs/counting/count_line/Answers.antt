use Rattle.std.proofs.Common.{inl, refl, subst}
use Rattle.std.proofs.lemmas.Result.{on_ok_weaker}
use Rattle.note_streams.proofs.LogCounted.{counts_one}
use Rattle.note_streams.specs.Counts.{SaysPage}
use Rattle.note_streams.proofs.counting.count_line.Goals as goal

pub returns-in-Some : goal.returns-in-Some
returns-in-Some c =
    on_ok_weaker c.add_one.result (counts_one c.args.counts.now.entries c.add_one.new.counts.entries c.args.line.now c.in-Some.page (subst (SaysPage c.args.line.now) c.in-Some.is c.in_ok-page.ensures)) c.add_one.ensures

pub returns-in-None : goal.returns-in-None
returns-in-None c = inl (subst (SaysPage c.args.line.now) c.in-None.is c.in_ok-page.ensures, refl)
