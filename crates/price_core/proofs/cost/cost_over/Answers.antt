use Rattle.std.proofs.Common.{◌≡◌, ◌<◌, ◌^◌, map, sum, string_bytes, ap, ◌∙◌, sym, subst}
use denote.Param.Send.{sendable}
use Rattle.std.proofs.Crossing.{crosses}
use Rattle.std.proofs.MapsCrossing.{crosses as maps}
use Rattle.rayon.proofs.ToStd.{slice-map}
use Rattle.price_core.proofs.Numbered.{Rules}
use Rattle.price_core.proofs.Shared.{Switching-sync}
use Rattle.price_core.proofs.Summed.{text_cost, cost_of_texts, cost_fits}
use Rattle.price_core.proofs.cost.cost_over.Goals as goal

pub sum-requires : goal.sum-requires
sum-requires g c κs =
    let s = c.args.switching.now in
    let inputs = c.args.inputs.now in
    let caught = c.map.result.f.0.now in
    let same : caught ≡ s = ap (λ k. k.0.now) c.map.ensures.f in
    let slice = ap (λ it. it.slice.now) c.map.ensures.base ∙ c.par_iter.ensures in
    let fits = subst (λ (w : Rules). sum (map (text_cost string_bytes w.0 w.1 w.2) inputs) < 2 ^ 64) (sym same) (cost_fits string_bytes s.0 s.1 s.2 inputs c.requires.lawful c.requires.few) in
    (search (sendable, crosses, maps, Switching-sync) depth 40, (search (sendable, crosses, maps) depth 40, (search (sendable, crosses, maps) depth 40, (search (sendable, crosses, maps) depth 40, (λ k d lt x e. (tt, λ y p. tt), λ ys h. rw (slice-map h.0 inputs (h.1 ∙ slice) (text_cost string_bytes caught.0 caught.1 caught.2) ys h.2) fits)))))

pub returns : goal.returns
returns g c =
    let s = c.args.switching.now in
    let inputs = c.args.inputs.now in
    let caught = c.map.result.f.0.now in
    let same : caught ≡ s = ap (λ k. k.0.now) c.map.ensures.f in
    let slice = ap (λ it. it.slice.now) c.map.ensures.base ∙ c.par_iter.ensures in
    let done = c.sum.ensures in
    done.2 ∙ (ap sum (slice-map done.1.0 inputs (done.1.1 ∙ slice) (text_cost string_bytes caught.0 caught.1 caught.2) done.0 done.1.2) ∙ (ap (λ (w : Rules). sum (map (text_cost string_bytes w.0 w.1 w.2) inputs)) same ∙ cost_of_texts string_bytes s.0 s.1 s.2 inputs))
