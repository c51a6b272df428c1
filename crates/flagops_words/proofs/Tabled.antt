-- A command of the table, and the program with them, as it is put together word by word.
use Rattle.std.proofs.Common.{◌≡◌, ℕ, ◌+◌, ◌<◌, List, length, drop, get_or, Result, ap, sym, ◌∙◌}
use Rattle.std.specs.Prelude.{IfOk}
use Rattle.std.proofs.lemmas.List.{at_drop_more}
use Rattle.std.proofs.lemmas.Result.{IfOk-weaker}
use Rattle.clap.specs.Simple.{App, with_rule, with_subcommand}
use Rattle.clap.specs.Walk.{Rule}
use Rattle.clap.specs.Words.{app_of}
use Rattle.clap.specs.declared.builder.command.Command.{Command}
use Rattle.flagops_words.specs.Usage.{app_for, rule_for, with_commands, with_words}
use Rattle.flagops_words.specs.declared.table.Usage.{Usage}
use Rattle.flagops_words.specs.declared.table.Word.{Word}

-- one word more: the rest gives what all gave
pub one_word : (old new : App) (rule : Rule) (words : List Word) (i : ℕ) (d : Word) (all : App) → i < length words → with_words old (drop i words) ≡ all
    → new ≡ with_rule old rule → rule ≡ rule_for (get_or words i d) → with_words new (drop (i + 1) words) ≡ all
one_word old new rule words i d all within before adds is =
    let added : new ≡ with_rule old (rule_for (get_or words i d)) = adds ∙ ap (λ (r : Rule). with_rule old r) is in
    ap (λ (a : App). with_words a (drop (i + 1) words)) added ∙ sym (at_drop_more (with_words old) words i d within) ∙ before

-- one command more
pub one_command : (old new sub : App) (usages : List Usage) (i : ℕ) (d : Usage) (all : App) → i < length usages → with_commands old (drop i usages) ≡ all
    → new ≡ with_subcommand old sub.top → sub ≡ app_for (get_or usages i d) → with_commands new (drop (i + 1) usages) ≡ all
unfolding with_commands
one_command old new sub usages i d all within before adds is =
    let added : new ≡ with_subcommand old (app_for (get_or usages i d)).top = adds ∙ ap (λ (s : App). with_subcommand old s.top) is in
    ap (λ (a : App). with_commands a (drop (i + 1) usages)) added ∙ sym (at_drop_more (with_commands old) usages i d within) ∙ before

-- the same commands on a program that is known
pub on_known : {E : Type 0} (r : Result Command E) (program known : App) (usages : List Usage) → program ≡ known → IfOk r (λ c. app_of c ≡ with_commands program usages)
    → IfOk r (λ c. app_of c ≡ with_commands known usages)
on_known r program known usages is h =
    IfOk-weaker r (λ c. app_of c ≡ with_commands program usages) (λ c. app_of c ≡ with_commands known usages) (λ c has. has ∙ ap (λ (a : App). with_commands a usages) is) h
