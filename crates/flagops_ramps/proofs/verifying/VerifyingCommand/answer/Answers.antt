use Rattle.flagops_ramps.specs.Words.{verifying_view}
use Rattle.flagops_ramps.proofs.Diagnosed.{verify_remarks}
use Rattle.flagops_ramps.proofs.verifying.VerifyingCommand.answer.Goals as goal

pub returns-clause-remarks : goal.returns-clause-remarks
returns-clause-remarks g c = verify_remarks (verifying_view c.args.self.now) (g.F.FileSet.holding c.args.files.now) c.verdict.result c.verdict.ensures.names c.verdict.ensures.notes c.verdict.ensures.parts
