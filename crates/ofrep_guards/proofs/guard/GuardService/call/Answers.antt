use Rattle.std.proofs.Common.{◌≡◌, ◌∙◌, ℕ, List, Option, None, option_copied, subst, sym}
use Rattle.std.proofs.lemmas.Result.{on_ok_weaker}
use Rattle.http_server.specs.declared.response.Response.{Response}
use Rattle.ofrep_guards.specs.Asked.{asked_of, reply_to, rules_view, value_of}
use Rattle.ofrep_guards.specs.Guard.{Guards, page_in}
use Rattle.ofrep_guards.specs.Reply.{Shares}
use Rattle.ofrep_guards.specs.declared.reply.Reply.{Reply}
use Rattle.ofrep_guards.proofs.guard.GuardService.call.Goals as goal

-- it is passed on, and the page that it is for may read the answer
pub returns-in-None-clause-ok : goal.returns-in-None-clause-ok
returns-in-None-clause-ok g c =
    let request = c.args.request.now in
    let old = c.args.self.now in
    let new = c.pass_on.new.self in
    let told = c.pass_on.new.response in
    let page = value_of (option_copied c.page_of-page.result) in
    let none : reply_to (rules_view old.rules) (asked_of request) ≡ None = sym c.reply_to.ensures ∙ c.in-None.is in
    let asks : page ≡ page_in request = c.page_of-page.ensures in
    on_ok_weaker c.pass_on.result
    (λ (p : (given : Response) × g.S.Service.answers old.service request given new.service × Shares page given told). (
      c.pass_on.ensures.rules,
      subst (λ (reply : Option Reply). Guards g.S.Service.answers reply old.service request told new.service) (sym none)
          (p.0, p.1, subst (λ (o : Option (List ℕ)). Shares o p.0 told) asks p.2),
    ))
    c.pass_on.ensures.ok
