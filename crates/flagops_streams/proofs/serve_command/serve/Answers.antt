use Rattle.std.proofs.Common.{map}
use Rattle.flagops_streams.specs.Words.{serving_view}
use Rattle.flagops_streams.proofs.Answering.{answered}
use Rattle.flagops_streams.proofs.serve_command.serve.Goals as goal

pub returns-in-Ok-clause-answers : goal.returns-in-Ok-clause-answers
returns-in-Ok-clause-answers g c =
    answered _ _ _ c.serve_asked.result (g.F.FileSet.holding c.args.files.now) (map g.S.AsStr.text c.args.words.now) (serving_view c.in-Ok.serving) c.console.view_is c.in-Ok.ensures.ok c.serve_asked.ensures.answers
