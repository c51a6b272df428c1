use Rattle.flagops_ramps.specs.Words.{verifying_view}
use Rattle.flagops_ramps.proofs.Diagnosed.{verify_remarks}
use Rattle.flagops_pictures.proofs.ramps.PicturingRampCommand.answer.Goals as goal

pub returns-clause-remarks : goal.returns-clause-remarks
returns-clause-remarks g c = verify_remarks (verifying_view c.args.self.now.answers) (g.F.FileSet.holding c.args.files.now) c.pictured.result c.pictured.ensures.names c.pictured.ensures.notes c.pictured.ensures.parts
