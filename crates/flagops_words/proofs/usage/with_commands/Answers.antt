use Rattle.std.proofs.Common.{arith}
use Rattle.clap.specs.Words.{app_of}
use Rattle.flagops_words.proofs.Tabled.{one_command}
use Rattle.flagops_words.proofs.usage.with_commands.Goals as goal

pub loop-usage-preserved : goal.loop-usage-preserved
loop-usage-preserved c =
    let before = c.loop-usage in
    let command = c.in_ok-command in
    let after = c.in_ok-program in
    one_command (app_of before.program) (app_of after.program) (app_of command.field-0) c.args.usages.now before.usage-index _ _ (omega arith) before.invariant
    (after.ensures.shape command.ensures.local) command.ensures.app
