use Rattle.std.proofs.Common.{◌≡◌, ◌∙◌, Err, ap, codes, inl, inr, subst, List, ℕ}
use Rattle.std.proofs.lemmas.Result.{err_from_is_err_and}
use Rattle.control_answers.specs.Token.{IsMember}
use Rattle.control_answers.proofs.Tokens.{lacks}
use Rattle.control_answers.proofs.token.token_in.Goals as goal

pub returns-in_err-document-clause-exact : goal.returns-in_err-document-clause-exact
returns-in_err-document-clause-exact c =
    let e = c.in_err-document.field-0.0 in
    let r = c.from_residual.result in
    let p = err_from_is_err_and r c.from_residual.ensures.1 in
    let is : r ≡ Err e = p.1 ∙ ap Err p.2 in
    lacks c.args.bytes.now c.in-Ok.text.now (codes "document") c.in-Ok.ensures.0 (λ none. inr (inl none)) e r is c.in_err-document.ensures

pub returns-in_err-plan-clause-exact : goal.returns-in_err-plan-clause-exact
returns-in_err-plan-clause-exact c =
    let e = c.in_err-plan.field-0.0 in
    let r = c.from_residual-in_err-plan.result in
    let p = err_from_is_err_and r c.from_residual-in_err-plan.ensures.1 in
    let is : r ≡ Err e = p.1 ∙ ap Err p.2 in
    lacks c.args.bytes.now c.in-Ok.text.now (codes "plan") c.in-Ok.ensures.0 (λ none. inr (inr (inl none))) e r is c.in_err-plan.ensures

pub returns-in_err-request-clause-exact : goal.returns-in_err-request-clause-exact
returns-in_err-request-clause-exact c =
    let e = c.in_err-request.field-0.0 in
    let r = c.from_residual-in_err-request.result in
    let p = err_from_is_err_and r c.from_residual-in_err-request.ensures.1 in
    let is : r ≡ Err e = p.1 ∙ ap Err p.2 in
    lacks c.args.bytes.now c.in-Ok.text.now (codes "request") c.in-Ok.ensures.0 (λ none. inr (inr (inr none))) e r is c.in_err-request.ensures

pub returns-clause-exact : goal.returns-clause-exact
returns-clause-exact c =
    let same = c.in-Ok.ensures.0 in
    record {
      document = subst (λ (t : List ℕ). IsMember t (codes "document") c.in_ok-document.document.now) same c.in_ok-document.ensures;
      plan = subst (λ (t : List ℕ). IsMember t (codes "plan") c.in_ok-plan.plan.now) same c.in_ok-plan.ensures;
      request = subst (λ (t : List ℕ). IsMember t (codes "request") c.in_ok-request.request.now) same c.in_ok-request.ensures;
    }
