use Rattle.std.proofs.Common.{◌≡◌, sym, ap, ◌∙◌}
use Rattle.std.proofs.lemmas.Result.{IfOk-weaker}
use Rattle.flag_defs.specs.Flags.{flags_view}
use Rattle.flag_defs.specs.Floats.{floats_view}
use Rattle.flag_metadata.specs.View.{metadata_view}
use Rattle.flag_resolve.specs.Floats.{Marked}
use Rattle.ofrep_answers.proofs.Places.{posts, refused, taken}
use Rattle.ofrep_answers.specs.Answer.{answer_view, answer_with, not_allowed}
use Rattle.ofrep_answers.specs.Metadata.{metadata_of}
use Rattle.ofrep_answers.specs.Request.{evaluates, request_view}
use Rattle.ofrep_answers.proofs.answers.answer_with_metadata.Goals as goal

pub returns-then-takes-clause-exact : goal.returns-then-takes-clause-exact
returns-then-takes-clause-exact c =
    let flags : Marked = (flags_view c.args.flags.now, floats_view c.args.flags.now) in
    let r = request_view c.args.request.now in
    IfOk-weaker c.answer_at.result _ (λ a. answer_view a ≡ answer_with (metadata_of (metadata_view c.args.metadata.now)) flags c.args.moment r)
    (λ a exact. exact ∙ taken (metadata_of (metadata_view c.args.metadata.now)) flags c.args.moment r c.of-place.result c.in-Some.method.now c.of-place.ensures.exact c.in-Some.ensures.exact (sym c.takes.ensures ∙ c.if-takes.true))
    c.answer_at.ensures.exact

pub returns-then-takes-clause-elsewhere : goal.returns-then-takes-clause-elsewhere
returns-then-takes-clause-elsewhere c = λ h. c.answer_at.ensures.elsewhere (ap evaluates c.of-place.ensures.exact ∙ h)

pub returns-then-takes-clause-large : goal.returns-then-takes-clause-large
returns-then-takes-clause-large c = λ p. c.answer_at.ensures.large (c.of-place.ensures.exact ∙ p)

pub returns-then-takes-clause-method : goal.returns-then-takes-clause-method
returns-then-takes-clause-method c =
    λ differs. c.answer_at.ensures.elsewhere
    (posts c.of-place.result c.in-Some.method.now c.args.request.now.method.now c.in-Some.ensures.exact (sym c.takes.ensures ∙ c.if-takes.true) differs)

pub returns-clause-exact : goal.returns-clause-exact
returns-clause-exact c =
    c.not_allowed.ensures ∙ ap not_allowed c.allow_of.ensures
    ∙ refused (metadata_of (metadata_view c.args.metadata.now)) (flags_view c.args.flags.now, floats_view c.args.flags.now) c.args.moment (request_view c.args.request.now) c.of-place.result c.in-Some.method.now c.of-place.ensures.exact c.in-Some.ensures.exact (sym c.takes.ensures ∙ c.if-takes.false)
