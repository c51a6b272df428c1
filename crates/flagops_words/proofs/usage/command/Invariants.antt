use Rattle.std.proofs.Common.{◌≡◌, drop, false}
use Rattle.clap.specs.Words.{app_of}
use Rattle.clap.specs.declared.builder.command.Command.TheViews.{out-Command}
use Rattle.flagops_words.specs.Usage.{app_for, with_words}
use Rattle.flagops_words.proofs.usage.command.Given as goal

abbrev pub invariant-loop-word : goal.invariant-loop-word
invariant-loop-word l = record {
  app : with_words (app_of l.command) (drop l.word-index l.usage.words.now) ≡ app_for l.usage;
  local : (out-Command l.command).has_globals ≡ false;
}
