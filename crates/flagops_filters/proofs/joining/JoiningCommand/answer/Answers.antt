use Rattle.flagops_filters.specs.Words.{joining_view}
use Rattle.flagops_filters.proofs.Ending.{join_remarks}
use Rattle.flagops_filters.proofs.joining.JoiningCommand.answer.Goals as goal

pub returns-clause-remarks : goal.returns-clause-remarks
returns-clause-remarks g c = join_remarks (g.F.FileSet.holding c.args.files.now) (joining_view c.args.self.now).tallies c.reported.result c.reported.ensures.names c.reported.ensures.quiet
