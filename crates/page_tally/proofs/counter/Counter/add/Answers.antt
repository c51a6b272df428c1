use Rattle.std.proofs.Common.{◌≡◌, ◌<◌, length, get_or, sym, ap, ◌∙◌, subst, arith}
use Rattle.page_tally.specs.Folding.{Kept, IsKept, with_inputs}
use Rattle.page_tally.specs.Points.{points_if, with_points}
use Rattle.page_tally.proofs.Pointed.{added, kept_all, none_of, points_inside}
use Rattle.page_tally.proofs.counter.Counter.add.Goals as goal

pub add_points-requires-clause-inside : goal.add_points-requires-clause-inside
add_points-requires-clause-inside c =
    let k : Kept = record { inputs = c.self.inside.inputs; total = c.self.inside.total; counts = c.self.inside.counts.items } in
    let xs = c.requires.points.0 in
    let points : c.args.points.now ≡ points_if k.total xs = c.requires.points.1.1 ∙ ap (λ (s : Kept). points_if s.total xs) (sym c.self.view_is) in
    λ j d below. subst (λ ps. get_or ps j d < length k.counts) (sym points) (points_inside k.total xs k c.self.invariant.counting j d (subst (λ ps. j < length ps) points below))

pub invariant_of-self : goal.invariant_of-self
invariant_of-self c =
    let k : Kept = record { inputs = c.self.inside.inputs; total = c.self.inside.total; counts = c.self.inside.counts.items } in
    let xs = c.requires.points.0 in
    let points : c.args.points.now ≡ points_if k.total xs = c.requires.points.1.1 ∙ ap (λ (s : Kept). points_if s.total xs) (sym c.self.view_is) in
    let room = c.requires.room in
    let had : k.inputs ≡ c.args.self.now.inputs = ap (λ (s : Kept). s.inputs) c.self.view_is in
    subst IsKept (sym (added xs k c.args.inputs c.args.points.now c.add_points.new.counts.items c.requires.points.1.0 points c.add_points.ensures))
    (kept_all xs k c.self.invariant (omega (arith, room, had, c.requires.points.1.0)))

pub returns-then-is_some : goal.returns-then-is_some
returns-then-is_some c = λ xs size points.
    let k : Kept = record { inputs = c.self.inside.inputs; total = c.self.inside.total; counts = c.self.inside.counts.items } in
    let here : c.args.points.now ≡ points_if k.total xs = points ∙ ap (λ (s : Kept). points_if s.total xs) (sym c.self.view_is) in
    added xs k c.args.inputs c.args.points.now c.add_points.new.counts.items size here c.add_points.ensures ∙ ap (λ s. with_inputs s xs) c.self.view_is

pub returns-else-is_some : goal.returns-else-is_some
returns-else-is_some c = λ xs size points.
    let k : Kept = record { inputs = c.self.inside.inputs; total = c.self.inside.total; counts = c.self.inside.counts.items } in
    let here : c.args.points.now ≡ points_if k.total xs = points ∙ ap (λ (s : Kept). points_if s.total xs) (sym c.self.view_is) in
    let none = none_of k.total (sym c.is_some.ensures ∙ c.if-is_some.false) in
    let same : k.counts ≡ with_points k.counts c.args.points.now = sym (ap (with_points k.counts) (here ∙ ap (λ o. points_if o xs) none)) in
    added xs k c.args.inputs c.args.points.now k.counts size here same ∙ ap (λ s. with_inputs s xs) c.self.view_is
