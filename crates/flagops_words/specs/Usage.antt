-- What `clap` is told of the commands, as a table has them.
use Rattle.std.specs.Prelude.{List, [], ◌∷◌}
use Rattle.clap.specs.Walk.{Rule}
use Rattle.clap.specs.Simple.{App, new_app, with_rule, with_subcommand}
use Rattle.flagops_words.specs.declared.table.Usage.{Usage}
use Rattle.flagops_words.specs.declared.table.Word.{Word}
use Rattle.flagops_words.specs.declared.table.Word.TheVariants as word
use Rattle.flagops_words.specs.Words.{flag, number, option_number, required}

-- what is read of a word
abbrev pub rule_for : Word → Rule
rule_for (word.Text name help) = required name.now
rule_for (word.Number name help most) = number name.now most
rule_for (word.Option name help long least most) = option_number name.now long.now least most
rule_for (word.Flag name help) = flag name.now

-- one word more after another
abbrev pub with_words : App → List Word → App
with_words a [] = a
with_words a (w ∷ ws) = with_words (with_rule a (rule_for w)) ws

-- a command of the table
abbrev pub app_for : Usage → App
app_for u = with_words (new_app u.name.now) u.words.now

-- one command more after another
unfoldable pub with_commands : App → List Usage → App
with_commands a [] = a
with_commands a (u ∷ us) = with_commands (with_subcommand a (app_for u).top) us
