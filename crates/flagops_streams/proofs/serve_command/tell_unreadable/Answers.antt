use Rattle.file_diagnostics.specs.Named.{Names}
use Rattle.flagops_streams.proofs.Reasons.{lines_told}
use Rattle.flagops_streams.proofs.serve_command.tell_unreadable.Goals as goal

pub returns : goal.returns
returns g c = lines_told (Names c.args.path.now) c.of_unreadable.result _ _ _ c.of_unreadable.ensures.names c.say_lines.ensures.says c.say_lines.ensures.sentence
