-- Each turn deals the points of a stretch, or a point, as many as its group has left for them.
use Rattle.std.proofs.Common.{◌≤◌, ◌<◌, ◌-◌, ℕ, length, drop, get_or, ap, sym, ◌∙◌, subst, arith, length-drop}
use Rattle.std.specs.List.{All}
use Rattle.std.proofs.lemmas.List.{get_or-take, get_or-drop, length-set, length-take, take_all}
use Rattle.transport_plan.proofs.Numbers.{earlier_row}
use Rattle.transport_plan.proofs.Dealt.{none_dealt, next_below, group_has, deals_more, all_dealt}
use Rattle.transport_plan.proofs.dealing.deal_by.Goals as goal

pub loop-start-init : goal.loop-start-init
loop-start-init c = record {
  deals = none_dealt (length c.args.bases.now) c.args.names c.args.left.now c.args.points.now c.requires.numbers.shape;
  thresholds = c.requires.thresholds;
  few = omega arith;
}

pub bounds-bases-group : goal.bounds-bases-group
bounds-bases-group c =
    let l = c.loop-start in
    next_below (length c.args.bases.now) c.args.names c.args.left.now c.args.points.now l.left l.start l.points l.invariant.deals c.requires.numbers.within (omega arith)

pub bounds-thresholds-group : goal.bounds-thresholds-group
bounds-thresholds-group c =
    let l = c.loop-start in
    omega (arith, next_below (length c.args.bases.now) c.args.names c.args.left.now c.args.points.now l.left l.start l.points l.invariant.deals c.requires.numbers.within (omega arith), l.invariant.thresholds)

pub bounds-thresholds-group-then-has_any : goal.bounds-thresholds-group-then-has_any
bounds-thresholds-group-then-has_any c =
    let l = c.loop-start in
    omega (arith, next_below (length c.args.bases.now) c.args.names c.args.left.now c.args.points.now l.left l.start l.points l.invariant.deals c.requires.numbers.within (omega arith), l.invariant.thresholds)

pub deal_stretch-requires-clause-stretch : goal.deal_stretch-requires-clause-stretch
deal_stretch-requires-clause-stretch c =
    let l = c.loop-start in
    let s = c.first-stretch.result in
    let many : ℕ = length l.points - l.start in
    let room : s.points ≤ many = omega (arith, c.first-stretch.ensures.within, length-take many (drop l.start l.points), length-drop l.start l.points) in
    let group = next_below (length c.args.bases.now) c.args.names c.args.left.now c.args.points.now l.left l.start l.points l.invariant.deals c.requires.numbers.within (omega arith) in
    record {
      inside = omega (arith, room, l.invariant.deals.long);
      room = omega (arith, earlier_row (length c.args.bases.now) s.group c.args.names c.first-stretch.ensures.group, l.invariant.deals.shape);
      base = c.first-stretch.ensures.named c.args.names c.requires.base;
      before = omega (arith, c.first-stretch.ensures.before, c.last_or-before.ensures.among c.args.names l.invariant.deals.named (c.requires.base (get_or l.points l.start 0) 0 group));
      after = c.first-stretch.ensures.after c.args.names c.requires.base;
      enough =
          group_has (length c.args.bases.now) c.args.names c.args.left.now c.args.points.now l.left l.start l.points l.invariant.deals s.group s.points c.first-stretch.ensures.group (omega (arith, room, l.invariant.deals.long))
          (λ q below. sym (get_or-take many (drop l.start l.points) q 0 (omega (arith, below, room))) ∙ c.first-stretch.ensures.same q below)
          (c.requires.numbers.rows s.group c.first-stretch.ensures.group);
    }

pub loop-start-preserved-then-has_any : goal.loop-start-preserved-then-has_any
loop-start-preserved-then-has_any c =
    let l = c.loop-start in
    let s = c.first-stretch.result in
    let many : ℕ = length l.points - l.start in
    let room : s.points ≤ many = omega (arith, c.first-stretch.ensures.within, length-take many (drop l.start l.points), length-drop l.start l.points) in
    record {
      deals = deals_more (length c.args.bases.now) c.args.names c.args.left.now c.args.points.now l.left l.start l.points l.invariant.deals s.group s.points c.first-stretch.ensures.group (omega (arith, room, l.invariant.deals.long))
          (λ q below. sym (get_or-take many (drop l.start l.points) q 0 (omega (arith, below, room))) ∙ c.first-stretch.ensures.same q below)
          c.deal_stretch.new.left c.deal_stretch.new.points c.deal_stretch.ensures;
      thresholds = length-set l.thresholds (get_or l.points l.start 0) _ ∙ l.invariant.thresholds;
      few = omega (arith, l.invariant.few, c.first-stretch.ensures.some);
    }

pub deal_point-requires-clause-room : goal.deal_point-requires-clause-room
deal_point-requires-clause-room c =
    let l = c.loop-start in
    let group = next_below (length c.args.bases.now) c.args.names c.args.left.now c.args.points.now l.left l.start l.points l.invariant.deals c.requires.numbers.within (omega arith) in
    omega (arith, earlier_row (length c.args.bases.now) (get_or l.points l.start 0) c.args.names group, l.invariant.deals.shape)

pub deal_point-requires-clause-enough : goal.deal_point-requires-clause-enough
deal_point-requires-clause-enough c =
    let l = c.loop-start in
    let g = get_or l.points l.start 0 in
    let group = next_below (length c.args.bases.now) c.args.names c.args.left.now c.args.points.now l.left l.start l.points l.invariant.deals c.requires.numbers.within (omega arith) in
    group_has (length c.args.bases.now) c.args.names c.args.left.now c.args.points.now l.left l.start l.points l.invariant.deals g 1 group (omega (arith, l.invariant.deals.long))
    (λ q below. get_or-drop l.start l.points q 0 ∙ ap (λ k. get_or l.points k 0) (omega (arith, below)))
    (c.requires.numbers.rows g group)

pub loop-start-preserved : goal.loop-start-preserved
loop-start-preserved c =
    let l = c.loop-start in
    let g = get_or l.points l.start 0 in
    let group = next_below (length c.args.bases.now) c.args.names c.args.left.now c.args.points.now l.left l.start l.points l.invariant.deals c.requires.numbers.within (omega arith) in
    record {
      deals = deals_more (length c.args.bases.now) c.args.names c.args.left.now c.args.points.now l.left l.start l.points l.invariant.deals g 1 group (omega (arith, l.invariant.deals.long))
          (λ q below. get_or-drop l.start l.points q 0 ∙ ap (λ k. get_or l.points k 0) (omega (arith, below)))
          c.deal_point.new.left c.deal_point.new.points c.deal_point.ensures;
      thresholds = l.invariant.thresholds;
      few = omega (arith, l.invariant.few);
    }

pub returns : goal.returns
returns c =
    let l = c.loop-start in
    record {
      many = omega (arith, l.invariant.deals.long);
      named = subst (λ xs. All (λ w. w < c.args.names) xs) (take_all l.start l.points (omega arith)) l.invariant.deals.named;
      dealt = all_dealt (length c.args.bases.now) c.args.names c.args.left.now c.args.points.now l.left l.start l.points l.invariant.deals (omega (arith, l.invariant.deals.long)) c.requires.numbers.whole;
    }
