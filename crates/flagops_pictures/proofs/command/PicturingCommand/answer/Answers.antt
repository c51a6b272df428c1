use Rattle.flagops_pictures.specs.Words.{picturing_view}
use Rattle.flagops_pictures.proofs.Diagnosed.{picture_remarks}
use Rattle.flagops_pictures.proofs.command.PicturingCommand.answer.Goals as goal

pub returns-clause-remarks : goal.returns-clause-remarks
returns-clause-remarks g c = picture_remarks (picturing_view c.args.self.now) (g.F.FileSet.holding c.args.files.now) c.outcome.result c.outcome.ensures.names c.outcome.ensures.notes c.outcome.ensures.parts
