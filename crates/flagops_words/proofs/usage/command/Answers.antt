use Rattle.std.proofs.Common.{◌||◌, ap₂, ◌∙◌, arith}
use Rattle.clap.specs.Words.{app_of}
use Rattle.flagops_words.proofs.Tabled.{one_word}
use Rattle.flagops_words.proofs.usage.command.Goals as goal

pub loop-word-preserved : goal.loop-word-preserved
loop-word-preserved c =
    let before = c.loop-word in
    let after = c.in_ok-command in
    record {
      app = one_word (app_of before.command) (app_of after.command) _ c.args.usage.now.words.now before.word-index _ _ (omega arith) before.invariant.app
          (after.ensures.shape c.argument.ensures.local) c.argument.ensures.rule;
      local = after.ensures.globals ∙ ap₂ ◌||◌ before.invariant.local c.argument.ensures.local;
    }
