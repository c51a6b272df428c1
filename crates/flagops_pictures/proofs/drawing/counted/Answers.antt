use Rattle.std.proofs.Common.{subst, sym}
use Rattle.flag_defs.specs.Flags.{flags_view}
use Rattle.flag_text.specs.Outcome.{GivesUnless}
use Rattle.flagops_files.specs.declared.evidence.Evidence.{Evidence}
use Rattle.flagops_ramps.specs.Ramp.{recorded}
use Rattle.rollout.specs.Lawful.{problem_asked}
use Rattle.rollout.specs.CheckedTally.{tally_view}
use Rattle.rollout.specs.declared.fault.RolloutFault.TheVariants.{WantOfMemory}
use Rattle.flagops_pictures.specs.Asked.{asked_by}
use Rattle.flagops_pictures.proofs.Posing.{gives, tallied}
use Rattle.flagops_pictures.proofs.drawing.counted.Goals as goal

pub returns-in-Book-clause-exact : goal.returns-in-Book-clause-exact
returns-in-Book-clause-exact g c =
    let a = c.args in
    subst (λ (e : Evidence). GivesUnless WantOfMemory tally_view c.problem_asked.result (asked_by a.refining (flags_view a.flags.now) a.request.now (recorded e))) (sym c.in-Book.is)
    (gives (problem_asked a.refining (flags_view a.flags.now) a.request.now c.in-Book.book) c.problem_asked.result c.problem_asked.ensures)

pub returns-in-Book-clause-tally : goal.returns-in-Book-clause-tally
returns-in-Book-clause-tally g c =
    let a = c.args in
    tallied (problem_asked a.refining (flags_view a.flags.now) a.request.now c.in-Book.book) c.problem_asked.result c.problem_asked.ensures
