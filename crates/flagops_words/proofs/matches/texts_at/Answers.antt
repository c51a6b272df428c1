use Rattle.std.proofs.Common.{rules, ◌∙◌}
use Rattle.clap.proofs.WalkLemmas.{raw_values-rows}
use Rattle.clap.specs.Words.{found_of}
use Rattle.flagops_words.proofs.Matched.{any_texts, no_texts}
use Rattle.flagops_words.proofs.matches.texts_at.Goals as goal

pub returns-then-is_empty-clause-texts : goal.returns-then-is_empty-clause-texts
returns-then-is_empty-clause-texts c =
    no_texts (λ t. t.now) c.in_ok-texts.texts.now _ (c.in_ok-texts.ensures ∙ raw_values-rows (found_of c.args.words.now) c.args.name.now) (search rules)

pub returns-clause-texts : goal.returns-clause-texts
returns-clause-texts c =
    any_texts (λ t. t.now) c.in_ok-texts.texts.now _ (c.in_ok-texts.ensures ∙ raw_values-rows (found_of c.args.words.now) c.args.name.now) (search rules)
