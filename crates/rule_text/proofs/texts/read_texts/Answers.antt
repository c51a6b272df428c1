use Rattle.std.proofs.Common.{◌≡◌, ℕ, List, Err, ap, arith}
use Rattle.std.proofs.lemmas.Result.{IfOk-weaker}
use Rattle.std.specs.Option.{MatchOption}
use Rattle.json.specs.Lex.{tokens}
use Rattle.flag_text.specs.Reading.{if_whole, tree_of}
use Rattle.flag_text.specs.declared.fault.TextFault.TheVariants.{NotJson}
use Rattle.flag_text.proofs.Readings.{doc_of-none, no_utf8}
use Rattle.rule_text.specs.Texts.{AreTexts, AreTokensOf, texts_view}
use Rattle.rule_text.proofs.OnlyTexts.{texts_of_tokens}
use Rattle.rule_text.proofs.texts.read_texts.Goals as goal

pub returns-in-Ok-clause-exact : goal.returns-in-Ok-clause-exact
returns-in-Ok-clause-exact c =
    let bytes = c.args.bytes.now in
    let read_as = c.in-Ok.ensures in
    IfOk-weaker c.texts_in.result
    (λ o. MatchOption o ((ss : List (List ℕ)) → ¬ (AreTokensOf ss (tokens c.in-Ok.text.now))) (λ v. AreTokensOf (texts_view v.items) (tokens c.in-Ok.text.now)))
    (λ o. MatchOption o ((ss : List (List ℕ)) → ¬ (AreTexts bytes c.args.max ss)) (λ v. AreTexts bytes c.args.max (texts_view v.items)))
    (λ o found. texts_of_tokens o (λ v. texts_view v.items) bytes c.in-Ok.text.now c.args.max (omega arith) read_as.0 read_as.1 found)
    c.texts_in.ensures

pub returns-in-Ok-clause-no_text : goal.returns-in-Ok-clause-no_text
returns-in-Ok-clause-no_text c = λ _ other. absurd (no_utf8 c.args.bytes.now c.in-Ok.ensures.1 other)

pub returns-in-Err-clause-exact : goal.returns-in-Err-clause-exact
returns-in-Err-clause-exact c = λ texts are.
    let none : tree_of c.args.bytes.now c.args.max ≡ Err NotJson = ap if_whole (doc_of-none c.args.bytes.now c.args.max (omega arith) (λ u. absurd (c.in-Err.ensures u))) in
    cc
