use Rattle.std.proofs.Common.{◌≡◌, ◌∙◌, ℕ, List, [], ◌∷◌, Bool, IfSome, Option, ap, is_some, subst, sym}
use Rattle.std.proofs.lemmas.Result.{err_from_is_err_and}
use Rattle.std.specs.Prelude.{Result, Err}
use Rattle.bucket_core.specs.Rule.{Entries}
use Rattle.price_core.specs.Request.{Asked}
use Rattle.flagops_files.specs.Told.{file, word}
use Rattle.flagops_shell.specs.Files.{Holding}
use Rattle.flagops_shell.specs.declared.outcome.Outcome.{Outcome}
use Rattle.flagops_shell.specs.declared.refused.Remark.{Remark}
use Rattle.flagops_commands.proofs.Driving.{at_first}
use Rattle.flagops_commands.proofs.Firsts.{among_first, behind_three, first_refused, second_refused, third_refused}
use Rattle.flagops_commands.specs.Loaded.{rule_at}
use Rattle.flagops_commands.specs.Price.{TellsRequestAt, request_at}
use Rattle.flagops_commands.specs.Refusal.{Refused, Subjects, TellsOfOne}
use Rattle.flagops_commands.specs.Subjects.{is_of_keys, is_of_rules, old_weights}
use Rattle.flagops_commands.specs.declared.refusal.ListedRefusal.{ListedRefusal}
use Rattle.flagops_commands.proofs.rules.price.price.Goals as goal

-- what is attempted before the keys
abbrev IsRule : List ℕ → Holding → Result Entries ListedRefusal → Type 0
IsRule path at rule = rule_at at path ≡ rule

abbrev IsRequest : List ℕ → Holding → Result (Asked × Bool) ListedRefusal → Type 0
IsRequest path at request = request_at at path ≡ request

-- and what is refused of the keys and by the weights
abbrev of_keys : List ℕ → Subjects
of_keys keys = (file keys, is_of_keys) ∷ []

abbrev made : List ℕ → Subjects
made keys = (file keys, is_of_keys) ∷ (word old_weights, is_of_rules) ∷ []

pub returns-in_err-old-clause-names : goal.returns-in_err-old-clause-names
returns-in_err-old-clause-names g c =
    let p = err_from_is_err_and c.from_residual.result c.from_residual.ensures.1 in
    let is : c.from_residual.result ≡ Err c.in_err-old.field-0.0 = p.1 ∙ ap Err p.2 in
    first_refused (file c.args.old.now) (file c.args.new.now) (file c.args.request.now) (IsRule c.args.old.now) (IsRule c.args.new.now) (IsRequest c.args.request.now) (made c.args.keys.now) (g.F.FileSet.holding c.args.files.now) c.from_residual.result c.in_err-old.field-0.0 is
    c.in_err-old.ensures.exact c.in_err-old.ensures.names

pub returns-in_err-new-clause-names : goal.returns-in_err-new-clause-names
returns-in_err-new-clause-names g c =
    let p = err_from_is_err_and c.from_residual-in_err-new.result c.from_residual-in_err-new.ensures.1 in
    let is : c.from_residual-in_err-new.result ≡ Err c.in_err-new.field-0.0 = p.1 ∙ ap Err p.2 in
    second_refused (file c.args.old.now) (file c.args.new.now) (file c.args.request.now) (IsRule c.args.old.now) (IsRule c.args.new.now) (IsRequest c.args.request.now) (made c.args.keys.now) (g.F.FileSet.holding c.args.files.now) c.from_residual-in_err-new.result
    c.in_ok-old.old c.in_ok-old.ensures.exact c.in_err-new.field-0.0 is (at_first _ _ _ c.load_rule.ensures.kept c.in_err-new.ensures.exact) c.in_err-new.ensures.names

pub returns-in_err-request-clause-names : goal.returns-in_err-request-clause-names
returns-in_err-request-clause-names g c =
    let p = err_from_is_err_and c.from_residual-in_err-request.result c.from_residual-in_err-request.ensures.1 in
    let is : c.from_residual-in_err-request.result ≡ Err c.in_err-request.field-0.0 = p.1 ∙ ap Err p.2 in
    third_refused (file c.args.old.now) (file c.args.new.now) (file c.args.request.now) (IsRule c.args.old.now) (IsRule c.args.new.now) (IsRequest c.args.request.now) (made c.args.keys.now) (g.F.FileSet.holding c.args.files.now) c.from_residual-in_err-request.result
    c.in_ok-old.old c.in_ok-old.ensures.exact c.in_ok-new.new (at_first _ _ _ c.load_rule.ensures.kept c.in_ok-new.ensures.exact) c.in_err-request.field-0.0 is (at_first _ _ _ (c.load_rule-2.ensures.kept ∙ c.load_rule.ensures.kept) c.in_err-request.ensures.exact) c.in_err-request.ensures.names

pub returns-in_err-keys-clause-names : goal.returns-in_err-keys-clause-names
returns-in_err-keys-clause-names g c =
    let p = err_from_is_err_and c.from_residual-in_err-keys.result c.from_residual-in_err-keys.ensures.1 in
    let is : c.from_residual-in_err-keys.result ≡ Err c.in_err-keys.field-0.0 = p.1 ∙ ap Err p.2 in
    let told : TellsOfOne (of_keys c.args.keys.now) c.from_residual-in_err-keys.result = subst (λ (s : Result Outcome Refused). TellsOfOne (of_keys c.args.keys.now) s) (sym is) c.in_err-keys.ensures.names in
    behind_three (file c.args.old.now) (file c.args.new.now) (file c.args.request.now) (IsRule c.args.old.now) (IsRule c.args.new.now) (IsRequest c.args.request.now) (made c.args.keys.now) (g.F.FileSet.holding c.args.files.now) c.from_residual-in_err-keys.result
    c.in_ok-old.old c.in_ok-old.ensures.exact c.in_ok-new.new (at_first _ _ _ c.load_rule.ensures.kept c.in_ok-new.ensures.exact) (c.in_ok-request.field-0.request, is_some c.in_ok-request.field-0.remark) (at_first _ _ _ (c.load_rule-2.ensures.kept ∙ c.load_rule.ensures.kept) c.in_ok-request.ensures.exact)
    (among_first (of_keys c.args.keys.now) ((word old_weights, is_of_rules) ∷ []) c.from_residual-in_err-keys.result told)

pub returns-in_err-outcome-clause-names : goal.returns-in_err-outcome-clause-names
returns-in_err-outcome-clause-names g c =
    let p = err_from_is_err_and c.from_residual-in_err-outcome.result c.from_residual-in_err-outcome.ensures.1 in
    let is : c.from_residual-in_err-outcome.result ≡ Err c.in_err-outcome.field-0.0 = p.1 ∙ ap Err p.2 in
    behind_three (file c.args.old.now) (file c.args.new.now) (file c.args.request.now) (IsRule c.args.old.now) (IsRule c.args.new.now) (IsRequest c.args.request.now) (made c.args.keys.now) (g.F.FileSet.holding c.args.files.now) c.from_residual-in_err-outcome.result
    c.in_ok-old.old c.in_ok-old.ensures.exact c.in_ok-new.new (at_first _ _ _ c.load_rule.ensures.kept c.in_ok-new.ensures.exact) (c.in_ok-request.field-0.request, is_some c.in_ok-request.field-0.remark) (at_first _ _ _ (c.load_rule-2.ensures.kept ∙ c.load_rule.ensures.kept) c.in_ok-request.ensures.exact)
    (subst (λ (s : Result Outcome Refused). TellsOfOne (made c.args.keys.now) s) (sym is) c.in_err-outcome.ensures.names)

pub returns-clause-parts : goal.returns-clause-parts
returns-clause-parts g c =
    subst (λ (m : Option Remark). IfSome (g.F.FileSet.holding c.args.files.now) (λ at. TellsRequestAt at c.args.request.now m)) (sym c.beside.ensures.remark)
    (at_first _ _ _ (c.load_rule-2.ensures.kept ∙ c.load_rule.ensures.kept) c.in_ok-request.ensures.parts)
