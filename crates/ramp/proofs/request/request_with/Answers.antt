use Rattle.std.proofs.Common.{List, sym, ap, ◌∙◌}
use Rattle.flag_text.proofs.Views.{Named}
use Rattle.flag_text.specs.Shape.{object}
use Rattle.flag_text.specs.View.{view, members_view}
use Rattle.ramp.specs.Steps.{request_with, with_totals}
use Rattle.ramp.proofs.Requests.{view-Object}
use Rattle.ramp.proofs.request.request_with.Goals as goal

pub returns-in_ok-with_totals-in-Object : goal.returns-in_ok-with_totals-in-Object
returns-in_ok-with_totals-in-Object c =
    let totals = view c.args.totals.now in
    record {
      value = view-Object c.in_ok-with_totals-in-Object.field-0
          ∙ ap object (c.in_ok-with_totals-in-Object.ensures ∙ ap (λ (ms : List Named). with_totals totals (members_view ms)) c.as_slice.ensures.value)
          ∙ sym (ap (λ t. request_with (view t) totals) c.in-Object.is ∙ ap (λ s. request_with s totals) (view-Object c.in-Object.members));
    }
