use Rattle.std.proofs.Common.{◌≡◌, ◌∙◌, ap, is_some, refl, subst, sym}
use Rattle.std.proofs.lemmas.Result.{on_ok_weaker}
use Rattle.ofrep_guards.specs.Asked.{asked_of, is_admitted}
use Rattle.control_desk.specs.Asked.{call_asked}
use Rattle.control_desk.specs.Desk.{DesksBy, Passes, hindered, keys_in, page_view}
use Rattle.control_desk.specs.Route.{route_of}
use Rattle.control_desk.specs.Rules.{rules_view}
use Rattle.control_desk.specs.declared.route.Route.{Route}
use Rattle.control_desk.specs.declared.route.Route.TheVariants.{Forwarded, Replied, Called}
use Rattle.control_desk.proofs.Routes.{called}
use Rattle.control_desk.proofs.serving.ControlDeskService.call.Goals as goal

-- the service behind answers
pub returns-in-Forwarded-clause-ok : goal.returns-in-Forwarded-clause-ok
returns-in-Forwarded-clause-ok g c =
    let old = c.args.self.now in
    let new = c.pass_on.new.self in
    let request = c.args.request.now in
    let had = hindered (g.F.DeskFiles.faults old.files) old.met in
    let has = hindered (g.F.DeskFiles.faults new.files) new.met in
    let response = c.pass_on.new.response in
    let rules = rules_view old.post.now.rules in
    let leads : route_of (is_some rules.applied_to) (is_admitted (keys_in old.keys) (asked_of request)) (call_asked request).method (call_asked request).path ≡ Forwarded = sym c.route.ensures ∙ c.in-Forwarded.is in
    on_ok_weaker c.pass_on.result
    (λ (passes : Passes g.S.Service.answers old.service request response new.service). (
      c.pass_on.ensures.post,
      c.pass_on.ensures.page,
      c.pass_on.ensures.keys,
      subst (λ (r : Route). DesksBy g.S.Service.answers r (g.F.DeskFiles.naming old.files) (g.F.DeskFiles.holding old.files) (g.F.DeskFiles.holding new.files) had has rules (page_view old.page) old.seat new.seat old.service request response new.service) (sym leads)
          (c.pass_on.ensures.seat, ap g.F.DeskFiles.holding c.pass_on.ensures.files, passes),
    ))
    c.pass_on.ensures.ok

-- the desk replies
pub returns-in-Replied-clause-ok : goal.returns-in-Replied-clause-ok
returns-in-Replied-clause-ok g c =
    let old = c.args.self.now in
    let request = c.args.request.now in
    let had = hindered (g.F.DeskFiles.faults old.files) old.met in
    let rules = rules_view old.post.now.rules in
    let leads : route_of (is_some rules.applied_to) (is_admitted (keys_in old.keys) (asked_of request)) (call_asked request).method (call_asked request).path ≡ Replied c.in-Replied.reply = sym c.route.ensures ∙ c.in-Replied.is in (
      refl,
      refl,
      refl,
      subst (λ (r : Route). DesksBy g.S.Service.answers r (g.F.DeskFiles.naming old.files) (g.F.DeskFiles.holding old.files) (g.F.DeskFiles.holding old.files) had had rules (page_view old.page) old.seat old.seat old.service request c.reply.new.response old.service) (sym leads)
          (refl, refl, refl, c.reply.ensures),
    )

-- a call leads somewhere
pub answer-requires-clause-place : goal.answer-requires-clause-place
answer-requires-clause-place g c =
    let old = c.args.self.now in
    let request = c.args.request.now in
    let rules = rules_view old.post.now.rules in
    called (is_some rules.applied_to) (is_admitted (keys_in old.keys) (asked_of request)) (call_asked request).method (call_asked request).path c.in-Called.place (sym c.route.ensures ∙ c.in-Called.is)

-- the desk answers
pub returns-in-Called-clause-ok : goal.returns-in-Called-clause-ok
returns-in-Called-clause-ok g c =
    let old = c.args.self.now in
    let new = c.answer.new.self in
    let request = c.args.request.now in
    let had = hindered (g.F.DeskFiles.faults old.files) old.met in
    let has = hindered (g.F.DeskFiles.faults new.files) new.met in
    let rules = rules_view old.post.now.rules in
    let leads : route_of (is_some rules.applied_to) (is_admitted (keys_in old.keys) (asked_of request)) (call_asked request).method (call_asked request).path ≡ Called c.in-Called.place = sym c.route.ensures ∙ c.in-Called.is in (
      c.answer.ensures.post,
      c.answer.ensures.page,
      c.answer.ensures.keys,
      subst (λ (r : Route). DesksBy g.S.Service.answers r (g.F.DeskFiles.naming old.files) (g.F.DeskFiles.holding old.files) (g.F.DeskFiles.holding new.files) had has rules (page_view old.page) old.seat new.seat old.service request c.answer.new.response new.service) (sym leads)
          (c.answer.ensures.service, c.answer.ensures.answers),
    )
