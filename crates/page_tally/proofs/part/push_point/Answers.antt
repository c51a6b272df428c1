use Rattle.std.proofs.Common.{◌≡◌, ◌++◌, [], ◌∷◌, sym, ap, ◌∙◌}
use Rattle.bucket_core.specs.Point.{scale, point_of}
use Rattle.page_tally.specs.Points.{points_if}
use Rattle.page_tally.proofs.part.push_point.Goals as goal

pub returns-in_ok-push : goal.returns-in_ok-push
unfolding point_of
returns-in_ok-push c =
    let had = c.args.points.now.items in
    let at : c.scale.result ≡ point_of c.in-Some.total c.args.input.now = c.scale.ensures.value ∙ ap (scale c.in-Some.total) c.hash.ensures in
    c.in_ok-push.ensures.items ∙ ap (λ p. had ++ p ∷ []) at ∙ ap (λ o. had ++ points_if o (c.args.input.now ∷ [])) (sym c.in-Some.is)
