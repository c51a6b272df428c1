use Rattle.std.proofs.Common.{◌≡◌, ◌+◌, ℕ, List, [], ◌∷◌, ◌++◌, drop, length, map, Ok, Vec, Global, sym, ap, ◌∙◌, subst, cond, length-append, arith}
use Rattle.std.specs.List.{All}
use Rattle.std.proofs.lemmas.Bool.{lt-ltb}
use Rattle.std.proofs.lemmas.List.{drop_all, length-map, map-append}
use Rattle.std.proofs.lemmas.List.Elements.{All-append, All-cons, All-nil}
use Rattle.flag_defs.specs.Flags.{flags_view}
use Rattle.plan_text.specs.Answer.{Answer, IsOrdered, planned_view}
use Rattle.plan_text.specs.PlanFile.{IsWhole}
use Rattle.plan_text.specs.declared.planned.Planned.{Planned as Made}
use Rattle.ramp.specs.Ramp.{IsStep, Recorded, Standing, left_by, requests_view, still}
use Rattle.ramp.proofs.Walked.{Planned, Walks, all_planned, front, refused_after, walk_more}
use Rattle.ramp.proofs.planning.plan_in_turn.Goals as goal

module _ (recorded : Recorded) (s : Standing) (m : ℕ) (rs : List (List ℕ)) where
  -- the steps that are left begin with the one at a place
  split_walk : (steps : List (Vec ℕ Global)) (i : ℕ) (x : Vec ℕ Global) (r : List ℕ) (as_ : List Answer) (s' : Standing) (m' : ℕ) → drop i steps ≡ x ∷ drop (i + 1) steps → r ≡ x.items
      → Walks (Planned recorded) 1 s m rs as_ s' m' (requests_view (drop i steps)) → Walks (Planned recorded) 1 s m rs as_ s' m' (r ∷ requests_view (drop (i + 1) steps))
  split_walk steps i x r as_ s' m' split is walk =
      subst (λ ys. Walks (Planned recorded) 1 s m rs as_ s' m' ys) (ap requests_view split ∙ ap (λ y. y ∷ requests_view (drop (i + 1) steps)) (sym is)) walk

  -- one more answer
  one_more : (made : List Made) (a : Made) (grown : List Made) (s' : Standing) (m' : ℕ) (r : List ℕ) (rs' : List (List ℕ)) → grown ≡ made ++ a ∷ []
      → Walks (Planned recorded) 1 s m rs (map planned_view made) s' m' (r ∷ rs') → IsStep s' m' r recorded (planned_view a)
      → Walks (Planned recorded) 1 s m rs (map planned_view grown) (left_by s' r (planned_view a)) 1 (still (planned_view a) rs')
  one_more made a grown s' m' r rs' is walk step =
      subst (λ ys. Walks (Planned recorded) 1 s m rs ys (left_by s' r (planned_view a)) 1 (still (planned_view a) rs')) (sym (ap (map planned_view) is ∙ map-append planned_view made (a ∷ [])))
      (walk_more (Planned recorded) 1 s m rs (map planned_view made) s' m' r rs' (planned_view a) walk step)

all_more : (P : Made → Type 0) (made : List Made) (a : Made) (grown : List Made) → grown ≡ made ++ a ∷ [] → All P made → P a → All P grown
all_more P made a grown is all one = subst (All P) (sym is) (All-append P made (a ∷ []) all (All-cons P a [] one (All-nil P)))

pub returns-in-Err-clause-exact : goal.returns-in-Err-clause-exact
returns-in-Err-clause-exact g c = λ other.
    let recorded = g.E.Basis.recorded c.args.basis.now in
    let walk = c.loop-i.invariant.walk in
    let split = front c.args.steps.now c.loop-i.i c.index-steps-i.result (omega arith) c.index-steps-i.is in
    let here = split_walk recorded (Ok (flags_view c.args.flags.now)) c.args.m (requests_view c.args.steps.now) c.args.steps.now c.loop-i.i c.index-steps-i.result c.as_slice-request.result.now
    (map planned_view c.loop-i.answers.items) walk.0 c.loop-i.factor split c.as_slice-request.ensures.value walk.1 in
    record {
      before = map planned_view c.loop-i.answers.items;
      refused = refused_after recorded (Ok (flags_view c.args.flags.now)) c.args.m (requests_view c.args.steps.now) (map planned_view c.loop-i.answers.items) walk.0 c.loop-i.factor c.as_slice-request.result.now
          (requests_view (drop (c.loop-i.i + 1) c.args.steps.now)) c.in-Err.fault here (c.in-Err.ensures.exact walk.0 (walk.2 (omega arith)) other);
      number = omega (arith, c.loop-i.invariant.count, length-map c.loop-i.answers.items planned_view);
    }

pub returns-then-not-more-clause-exact : goal.returns-then-not-more-clause-exact
returns-then-not-more-clause-exact g c =
    let recorded = g.E.Basis.recorded c.args.basis.now in
    let s : Standing = Ok (flags_view c.args.flags.now) in
    let rs = requests_view c.args.steps.now in
    let walk = c.loop-i.invariant.walk in
    let a = c.in-Ok.planned in
    let r = c.as_slice-request.result.now in
    let rest = requests_view (drop (c.loop-i.i + 1) c.args.steps.now) in
    let split = front c.args.steps.now c.loop-i.i c.index-steps-i.result (omega arith) c.index-steps-i.is in
    let here = split_walk recorded s c.args.m rs c.args.steps.now c.loop-i.i c.index-steps-i.result r (map planned_view c.loop-i.answers.items) walk.0 c.loop-i.factor split c.as_slice-request.ensures.value walk.1 in
    let more = one_more recorded s c.args.m rs c.loop-i.answers.items a c.push.new.self.items walk.0 c.loop-i.factor r rest c.in_ok-push.ensures.items here (c.in-Ok.ensures.exact walk.0 (walk.2 (omega arith))) in
    let none : still (planned_view a) rest ≡ [] = ap (λ b. cond b rest []) (sym c.goes_on-more.ensures ∙ c.if-not-more.true) in
    all_planned recorded s c.args.m rs (map planned_view c.push.new.self.items) (left_by walk.0 r (planned_view a)) 1
    (subst (λ ys. Walks (Planned recorded) 1 s c.args.m rs (map planned_view c.push.new.self.items) (left_by walk.0 r (planned_view a)) 1 ys) none more)

pub returns-then-not-more-clause-ordered : goal.returns-then-not-more-clause-ordered
returns-then-not-more-clause-ordered g c =
    all_more (λ p. IsOrdered (planned_view p)) c.loop-i.answers.items c.in-Ok.planned c.push.new.self.items c.in_ok-push.ensures.items c.loop-i.invariant.ordered c.in-Ok.ensures.ordered

pub returns-then-not-more-clause-whole : goal.returns-then-not-more-clause-whole
returns-then-not-more-clause-whole g c =
    all_more (λ p. IsWhole (planned_view p)) c.loop-i.answers.items c.in-Ok.planned c.push.new.self.items c.in_ok-push.ensures.items c.loop-i.invariant.whole c.in-Ok.ensures.whole

pub loop-i-preserved : goal.loop-i-preserved
loop-i-preserved g c =
    let recorded = g.E.Basis.recorded c.args.basis.now in
    let s : Standing = Ok (flags_view c.args.flags.now) in
    let rs = requests_view c.args.steps.now in
    let walk = c.loop-i.invariant.walk in
    let a = c.in-Ok.planned in
    let r = c.as_slice-request.result.now in
    let rest = requests_view (drop (c.loop-i.i + 1) c.args.steps.now) in
    let split = front c.args.steps.now c.loop-i.i c.index-steps-i.result (omega arith) c.index-steps-i.is in
    let here = split_walk recorded s c.args.m rs c.args.steps.now c.loop-i.i c.index-steps-i.result r (map planned_view c.loop-i.answers.items) walk.0 c.loop-i.factor split c.as_slice-request.ensures.value walk.1 in
    let more = one_more recorded s c.args.m rs c.loop-i.answers.items a c.push.new.self.items walk.0 c.loop-i.factor r rest c.in_ok-push.ensures.items here (c.in-Ok.ensures.exact walk.0 (walk.2 (omega arith))) in
    let all : still (planned_view a) rest ≡ rest = ap (λ b. cond b rest []) (sym c.goes_on-more.ensures ∙ c.if-not-more.false) in
    record {
      walk = (
        left_by walk.0 r (planned_view a),
        subst (λ ys. Walks (Planned recorded) 1 s c.args.m rs (map planned_view c.push.new.self.items) (left_by walk.0 r (planned_view a)) 1 ys) all more,
        λ inside. c.behind-standing.ensures walk.0 (lt-ltb (c.loop-i.i + 1) (length c.args.steps.now) inside) (walk.2 (omega arith)),
      );
      count = omega (arith, c.loop-i.invariant.count, ap length c.in_ok-push.ensures.items, length-append c.loop-i.answers.items (a ∷ []));
      some = omega arith;
      ordered = all_more (λ p. IsOrdered (planned_view p)) c.loop-i.answers.items a c.push.new.self.items c.in_ok-push.ensures.items c.loop-i.invariant.ordered c.in-Ok.ensures.ordered;
      whole = all_more (λ p. IsWhole (planned_view p)) c.loop-i.answers.items a c.push.new.self.items c.in_ok-push.ensures.items c.loop-i.invariant.whole c.in-Ok.ensures.whole;
    }

pub returns-clause-exact : goal.returns-clause-exact
returns-clause-exact g c =
    let recorded = g.E.Basis.recorded c.args.basis.now in
    let s : Standing = Ok (flags_view c.args.flags.now) in
    let rs = requests_view c.args.steps.now in
    let walk = c.loop-i.invariant.walk in
    let made = map planned_view c.loop-i.answers.items in
    let none : requests_view (drop c.loop-i.i c.args.steps.now) ≡ [] = ap requests_view (drop_all c.loop-i.i c.args.steps.now (omega arith)) in
    all_planned recorded s c.args.m rs made walk.0 c.loop-i.factor (subst (λ ys. Walks (Planned recorded) 1 s c.args.m rs made walk.0 c.loop-i.factor ys) none walk.1)
