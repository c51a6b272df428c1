-- The tokens are those of the answer's tree, and the text is theirs.
use Rattle.std.proofs.Common.{◌≡◌, ◌++◌, ap, sym, subst, ◌∙◌}
use Rattle.std.specs.Str.{IsUtf8}
use Rattle.json.specs.Lex.{tokens}
use Rattle.json.specs.Print.{print}
use Rattle.json.specs.Tree.{json_tokens}
use Rattle.flag_text.specs.Grammar.{written}
use Rattle.plan_text.specs.Answer.{planned_view}
use Rattle.plan_text.specs.PlanFile.{max_plan, planned_written}
use Rattle.plan_text.proofs.Tokens.{print-written, tree_of-answer}
use Rattle.plan_text.proofs.print.planned_text.Goals as goal
use Rattle.plan_text.proofs.print.planned_text.Goals.{After-into_inner}

wrote : (c : After-into_inner) → c.write_planned.new.out.tokens ≡ json_tokens (written (planned_written (planned_view c.args.planned.now)))
wrote c = c.in_ok-write_planned.ensures.ok ∙ ap (λ old. old ++ json_tokens (written (planned_written (planned_view c.args.planned.now)))) c.new-out.ensures.tokens

texts : (c : After-into_inner) → c.into_inner.result.items ≡ print c.write_planned.new.out.tokens
texts c =
    let ts = c.write_planned.new.out.tokens in
    c.into_inner.ensures.items ∙ ap (λ b. b ++ print ts) (c.write_planned.ensures.before ∙ c.new-out.ensures.before ∙ c.in_ok-with_capacity.ensures.items)

pub returns-clause-text : goal.returns-clause-text
returns-clause-text c = texts c ∙ ap print (wrote c) ∙ print-written (planned_written (planned_view c.args.planned.now)) c.requires.whole

pub returns-clause-reads_back : goal.returns-clause-reads_back
returns-clause-reads_back c = λ fits.
    let utf8 = subst IsUtf8 (sym (texts c)) c.into_inner.ensures.utf8 in
    tree_of-answer c.into_inner.result.items max_plan (planned_view c.args.planned.now) c.requires.whole fits utf8 (ap tokens (texts c) ∙ c.into_inner.ensures.reads_back ∙ wrote c)
