use Rattle.std.proofs.Common.{◌≡◌, ◌∙◌, ◌||◌, ℕ, Bool, true, false, refl, List, Option, None, option_copied, subst, sym, ap}
use Rattle.std.proofs.lemmas.Result.{on_ok_weaker}
use Rattle.http_server.specs.declared.response.Response.{Response}
use Rattle.ofrep_guards.specs.Admin.{admin_asked, admin_reply, admin_view, stops}
use Rattle.ofrep_guards.specs.Asked.{value_of}
use Rattle.ofrep_guards.specs.Guard.{Guards, page_in}
use Rattle.ofrep_guards.specs.Reply.{Shares}
use Rattle.ofrep_guards.specs.declared.reply.Reply.{Reply}
use Rattle.ofrep_guards.proofs.admin.AdminGuardService.call.Goals as goal

or_false : (b : Bool) → (b || false) ≡ b
or_false true = refl
or_false false = refl

-- it is passed on, and the page that it is for may read the answer
pub returns-in-None-clause-ok : goal.returns-in-None-clause-ok
returns-in-None-clause-ok g c =
    let request = c.args.request.now in
    let old = c.args.self.now in
    let new = c.pass_on.new.self in
    let told = c.pass_on.new.response in
    let page = value_of (option_copied c.page_of-page.result) in
    let none : admin_reply (admin_view old.rules) old.is_stopping (admin_asked request) ≡ None = sym c.reply_to.ensures ∙ c.in-None.is in
    let asks : page ≡ page_in request = c.page_of-page.ensures in
    on_ok_weaker c.pass_on.result
    (λ (p : (given : Response) × g.S.Service.answers old.service request given new.service × Shares page given told). (
      c.pass_on.ensures.rules,
      c.pass_on.ensures.is_stopping ∙ sym (or_false old.is_stopping) ∙ ap (λ (reply : Option Reply). old.is_stopping || stops reply) (sym none),
      subst (λ (reply : Option Reply). Guards g.S.Service.answers reply old.service request told new.service) (sym none)
          (p.0, p.1, subst (λ (o : Option (List ℕ)). Shares o p.0 told) asks p.2),
    ))
    c.pass_on.ensures.ok
