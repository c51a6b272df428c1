use Rattle.std.proofs.Common.{ℕ, List, Vec, Global, sym, ap, ◌∙◌}
use Rattle.flag_text.specs.View.{view}
use Rattle.ramp.specs.Steps.{judged, requests_view}
use Rattle.ramp.proofs.Alike.{ask_alike}
use Rattle.ramp.proofs.steps.requests_of.Goals as goal

pub returns-clause-alike : goal.returns-clause-alike
returns-clause-alike c =
    let made = c.in_ok-requests.requests.items in
    ask_alike (view c.args.tree.now) (requests_view made) (ap (λ (rs : List (Vec ℕ Global)). judged 1 (requests_view rs)) (sym c.as_slice.ensures.value) ∙ c.in_ok-judge.ensures) c.in_ok-requests.ensures.asks
