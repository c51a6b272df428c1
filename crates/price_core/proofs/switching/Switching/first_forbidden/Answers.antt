-- the run of points that begins at the point
use Rattle.std.proofs.Common.{◌≡◌, ◌≤◌, ap, sym, ◌∙◌, arith}
use Rattle.bucket_core.specs.Rule.{end_of, total_weight}
use Rattle.price_core.proofs.Cursors.{entry_named, name_at, name_in, reached, still_before}
use Rattle.price_core.proofs.Numbered.{Rules}
use Rattle.price_core.proofs.Runs.{first_found, none_found, run_spared}
use Rattle.price_core.proofs.switching.Switching.first_forbidden.Goals as goal

pub returns-then-forbidden-clause-exact : goal.returns-then-forbidden-clause-exact
returns-then-forbidden-clause-exact c =
    let s = c.self.inside in
    let old = c.args.self.now.0 in
    let new = c.args.self.now.1 in
    let p = c.loop-point.point in
    let from = c.entry_from-from.result in
    let to = c.entry_from-to.result in
    let f = c.entry_from-from.ensures in
    let t = c.entry_from-to.ensures in
    let at_from = reached s.old.now old p from (ap (λ (w : Rules). w.0) c.self.view_is) f.value f.within f.below f.name f.run in
    let at_to = reached s.new.now new p to (ap (λ (w : Rules). w.1) c.self.view_is) t.value t.within t.below t.name t.run in
    let barred = c.forbidden.ensures (name_in old from) (name_in new to) (entry_named old from at_from.within) (entry_named new to at_to.within) in
    first_found old new c.args.self.now.2 p (name_in old from) (name_in new to) c.loop-point.invariant.spared (name_at old p from at_from) (name_at new p to at_to) (sym barred ∙ c.if-forbidden.true)

pub loop-point-preserved : goal.loop-point-preserved
loop-point-preserved c =
    let s = c.self.inside in
    let old = c.args.self.now.0 in
    let new = c.args.self.now.1 in
    let p = c.loop-point.point in
    let end = c.min-point.result in
    let from = c.entry_from-from.result in
    let to = c.entry_from-to.result in
    let f = c.entry_from-from.ensures in
    let t = c.entry_from-to.ensures in
    let at_from = reached s.old.now old p from (ap (λ (w : Rules). w.0) c.self.view_is) f.value f.within f.below f.name f.run in
    let at_to = reached s.new.now new p to (ap (λ (w : Rules). w.1) c.self.view_is) t.value t.within t.below t.name t.run in
    let barred = c.forbidden.ensures (name_in old from) (name_in new to) (entry_named old from at_from.within) (entry_named new to at_to.within) in
    let end_from : c.end_of.result ≡ end_of old from = c.end_of.ensures.value ∙ ap (λ (w : Rules). end_of w.0 from) c.self.view_is in
    let end_to : c.end_of-in-loop-point.result ≡ end_of new to = c.end_of-in-loop-point.ensures.value ∙ ap (λ (w : Rules). end_of w.1 to) c.self.view_is in
    let order : p ≤ end = omega (arith, c.min-point.ensures, end_from, end_to, at_from.below, at_to.below) in
    record {
      inside = omega (arith, c.min-point.ensures, c.end_of.ensures.bound, ap (λ (w : Rules). total_weight w.0) c.self.view_is);
      from_before = still_before old p end from at_from order;
      to_before = still_before new p end to at_to order;
      spared = run_spared old new c.args.self.now.2 p end (name_in old from) (name_in new to) c.loop-point.invariant.spared (name_at old p from at_from) (name_at new p to at_to) (sym barred ∙ c.if-forbidden.false)
          (λ q low high. at_from.run q low (omega (arith, high, c.min-point.ensures, end_from))) (λ q low high. at_to.run q low (omega (arith, high, c.min-point.ensures, end_to)));
    }

pub returns-clause-exact : goal.returns-clause-exact
returns-clause-exact c =
    none_found c.args.self.now.0 c.args.self.now.1 c.args.self.now.2 c.loop-point.point (omega (arith, ap (λ (w : Rules). total_weight w.0) c.self.view_is, c.total-total.ensures.value, c.loop-point-test.false)) c.loop-point.invariant.spared
