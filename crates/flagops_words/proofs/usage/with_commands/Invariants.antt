use Rattle.std.proofs.Common.{◌≡◌, drop}
use Rattle.clap.specs.Words.{app_of}
use Rattle.flagops_words.specs.Usage.{with_commands}
use Rattle.flagops_words.proofs.usage.with_commands.Given as goal

abbrev pub invariant-loop-usage : goal.invariant-loop-usage
invariant-loop-usage l = with_commands (app_of l.program) (drop l.usage-index l.usages) ≡ with_commands (app_of l.initial.program) l.usages
