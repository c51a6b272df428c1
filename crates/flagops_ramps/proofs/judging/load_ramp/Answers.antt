use Rattle.std.proofs.Common.{ℕ, List, subst}
use Rattle.ramp.specs.Lines.{ramp_of}
use Rattle.flagops_ramps.specs.Judging.{read_as}
use Rattle.flagops_ramps.specs.Report.{GivesUnlessWant}
use Rattle.flagops_ramps.proofs.Loaded.{loaded_so, not_loaded, seen}
use Rattle.flagops_ramps.proofs.judging.load_ramp.Goals as goal
use Rattle.flagops_ramps.proofs.Firsts.{bytes_read, made, unread_answers}
use Rattle.flagops_ramps.specs.Diagnostics.{IsOfAnswers}
use Rattle.flagops_ramps.specs.Attempts.{answers_file}

pub returns-in-Ok-clause-exact : goal.returns-in-Ok-clause-exact
returns-in-Ok-clause-exact g c =
    loaded_so c.args.path.now (g.F.FileSet.holding c.args.files.now) c.in-Ok.bytes.items c.read.result c.in-Ok.ensures.exact
    (subst (λ (b : List ℕ). GivesUnlessWant seen c.read.result (read_as (ramp_of b))) c.as_slice.ensures.value c.read.ensures.exact)

pub returns-in-Err-clause-exact : goal.returns-in-Err-clause-exact
returns-in-Err-clause-exact g c = not_loaded c.args.path.now (g.F.FileSet.holding c.args.files.now) c.in-Err.refused c.of.result c.of.ensures.refusal c.in-Err.ensures.exact

pub returns-in-Ok-clause-names : goal.returns-in-Ok-clause-names
returns-in-Ok-clause-names g c =
    let path = c.args.path.now in
    made (IsOfAnswers path) c.read.result (g.F.FileSet.holding c.args.files.now) (λ at. answers_file at path) (bytes_read path c.in-Ok.bytes.items (g.F.FileSet.holding c.args.files.now) c.in-Ok.ensures.exact) c.read.ensures.names

pub returns-in-Err-clause-names : goal.returns-in-Err-clause-names
returns-in-Err-clause-names g c = unread_answers (IsOfAnswers c.args.path.now) c.in-Err.refused c.of.result c.of.ensures.refusal c.of.ensures.remark c.args.path.now (g.F.FileSet.holding c.args.files.now) c.in-Err.ensures.exact c.in-Err.ensures.names
