use Rattle.std.proofs.Common.{◌≡◌, ◌<◌, ◌≤◌, ◌+◌, ◌==◌, ℕ, List, [], ◌∷◌, drop, length, length-drop, map, Ok, Err, Option, Some, Vec, Global, refl, sym, ap, ◌∙◌, subst, cond, arith}
use Rattle.std.proofs.lemmas.Bool.{lt-ltb}
use Rattle.std.proofs.lemmas.List.{drop_all}
use Rattle.flag_defs.specs.Flags.{flags_view}
use Rattle.plan_text.specs.Answer.{planned_view}
use Rattle.plan_text.specs.declared.planned.Planned.{Planned as Made}
use Rattle.ramp.specs.Ramp.{Recorded, Standing, left_by, requests_view, still}
use Rattle.ramp.specs.Right.{AreMiscounted, IsTold}
use Rattle.ramp.specs.declared.fault.RampFault.TheVariants.{Lines}
use Rattle.ramp.proofs.Told.{Walked, ended_answered, ended_told, few_told, more_right, wrong_told}
use Rattle.ramp.proofs.Walked.{front}
use Rattle.ramp.proofs.verifying.verify_in_turn.Goals as goal

-- the steps that are left begin with the one at a place
begun : (recorded : Recorded) (s : Standing) (f : Option ℕ) (steps : List (Vec ℕ Global)) (answers : List Made) (i : ℕ) (x : Vec ℕ Global) (r : List ℕ) (s' : Standing) (f' : Option ℕ)
    → drop i steps ≡ x ∷ drop (i + 1) steps → r ≡ x.items
    → Walked recorded s f (requests_view steps) answers i s' f' (requests_view (drop i steps)) → Walked recorded s f (requests_view steps) answers i s' f' (r ∷ requests_view (drop (i + 1) steps))
begun recorded s f steps answers i x r s' f' split is walk =
    subst (λ ys. Walked recorded s f (requests_view steps) answers i s' f' ys) (ap requests_view split ∙ ap (λ y. y ∷ requests_view (drop (i + 1) steps)) (sym is)) walk

-- one step at least is left
left : (recorded : Recorded) (s : Standing) (f : Option ℕ) (steps : List (Vec ℕ Global)) (answers : List Made) (i : ℕ) (s' : Standing) (f' : Option ℕ) (rest : List (Vec ℕ Global)) → drop i steps ≡ rest → i < length steps
    → length answers ≤ i → Walked recorded s f (requests_view steps) answers i s' f' (requests_view (drop i steps)) → AreMiscounted s f (requests_view steps) recorded (map planned_view answers)
left recorded s f steps answers i s' f' [] is inside none walk = absurd (omega (arith, inside, ap length is, length-drop i steps))
left recorded s f steps answers i s' f' (x ∷ xs) is inside none walk =
    few_told recorded s f (requests_view steps) answers i s' f' x.items (requests_view xs) none (subst (λ ys. Walked recorded s f (requests_view steps) answers i s' f' ys) (ap requests_view is) walk)

pub returns-then-i-answers-clause-told : goal.returns-then-i-answers-clause-told
returns-then-i-answers-clause-told g c =
    left (g.E.Basis.recorded c.args.basis.now) (Ok (flags_view c.args.flags.now)) c.args.refine c.args.steps.now c.args.answers.now c.loop-i.i c.loop-i.invariant.walk.0 c.loop-i.factor
    (drop c.loop-i.i c.args.steps.now) refl (omega arith) (omega arith) c.loop-i.invariant.walk.1

pub returns-in-Err-clause-told : goal.returns-in-Err-clause-told
returns-in-Err-clause-told g c = λ other.
    let recorded = g.E.Basis.recorded c.args.basis.now in
    let s : Standing = Ok (flags_view c.args.flags.now) in
    let steps = c.args.steps.now in
    let walk = c.loop-i.invariant.walk in
    let i = c.loop-i.i in
    let split = front steps i c.index-steps-i.result (omega arith) c.index-steps-i.is in
    let here = begun recorded s c.args.refine steps c.args.answers.now i c.index-steps-i.result c.as_slice-request.result.now walk.0 c.loop-i.factor split c.as_slice-request.ensures.value walk.1 in (
      i,
      refl,
      wrong_told recorded s c.args.refine (requests_view steps) c.args.answers.now i walk.0 c.loop-i.factor c.as_slice-request.result.now (requests_view (drop (i + 1) steps)) c.index-answers-i.result c.in-Err.fault (omega arith) c.index-answers-i.is here
          (c.in-Err.ensures walk.0 (walk.2 (omega arith)) other),
    )

pub returns-then-not-goes_on-clause-told : goal.returns-then-not-goes_on-clause-told
returns-then-not-goes_on-clause-told g c =
    let recorded = g.E.Basis.recorded c.args.basis.now in
    let s : Standing = Ok (flags_view c.args.flags.now) in
    let steps = c.args.steps.now in
    let answers = c.args.answers.now in
    let walk = c.loop-i.invariant.walk in
    let i = c.loop-i.i in
    let a = planned_view c.index-answers-i.result in
    let r = c.as_slice-request.result.now in
    let rest = requests_view (drop (i + 1) steps) in
    let split = front steps i c.index-steps-i.result (omega arith) c.index-steps-i.is in
    let here = begun recorded s c.args.refine steps answers i c.index-steps-i.result r walk.0 c.loop-i.factor split c.as_slice-request.ensures.value walk.1 in
    let more = more_right recorded s c.args.refine (requests_view steps) answers i walk.0 c.loop-i.factor r rest c.index-answers-i.result (omega arith) c.index-answers-i.is here (c.in-Ok.ensures walk.0 (walk.2 (omega arith))) in
    let none : still a rest ≡ [] = ap (λ b. cond b rest []) (sym c.goes_on.ensures ∙ c.if-not-goes_on.true) in
    let told = ended_told recorded s c.args.refine (requests_view steps) answers (i + 1) (left_by walk.0 r a) (Some 1) (omega arith)
    (subst (λ ys. Walked recorded s c.args.refine (requests_view steps) answers (i + 1) (left_by walk.0 r a) (Some 1) ys) none more) (length answers == i + 1) refl in
    subst (IsTold s c.args.refine (requests_view steps) recorded (map planned_view answers)) (sym c.ended.ensures) told

pub loop-i-preserved : goal.loop-i-preserved
loop-i-preserved g c =
    let recorded = g.E.Basis.recorded c.args.basis.now in
    let s : Standing = Ok (flags_view c.args.flags.now) in
    let steps = c.args.steps.now in
    let answers = c.args.answers.now in
    let walk = c.loop-i.invariant.walk in
    let i = c.loop-i.i in
    let a = planned_view c.index-answers-i.result in
    let r = c.as_slice-request.result.now in
    let rest = requests_view (drop (i + 1) steps) in
    let split = front steps i c.index-steps-i.result (omega arith) c.index-steps-i.is in
    let here = begun recorded s c.args.refine steps answers i c.index-steps-i.result r walk.0 c.loop-i.factor split c.as_slice-request.ensures.value walk.1 in
    let more = more_right recorded s c.args.refine (requests_view steps) answers i walk.0 c.loop-i.factor r rest c.index-answers-i.result (omega arith) c.index-answers-i.is here (c.in-Ok.ensures walk.0 (walk.2 (omega arith))) in
    let all : still a rest ≡ rest = ap (λ b. cond b rest []) (sym c.goes_on.ensures ∙ c.if-not-goes_on.false) in
    record {
      walk = (
        left_by walk.0 r a,
        subst (λ ys. Walked recorded s c.args.refine (requests_view steps) answers (i + 1) (left_by walk.0 r a) (Some 1) ys) all more,
        λ inside. c.behind-standing.ensures walk.0 (lt-ltb (i + 1) (length steps) inside) (walk.2 (omega arith)),
      );
      there = omega arith;
      some = omega arith;
    }

pub returns-clause-told : goal.returns-clause-told
returns-clause-told g c =
    let recorded = g.E.Basis.recorded c.args.basis.now in
    let s : Standing = Ok (flags_view c.args.flags.now) in
    let steps = c.args.steps.now in
    let answers = c.args.answers.now in
    let walk = c.loop-i.invariant.walk in
    let i = c.loop-i.i in
    let none : requests_view (drop i steps) ≡ [] = ap requests_view (drop_all i steps (omega arith)) in
    let n : i ≡ length steps = omega arith in
    let told = ended_told recorded s c.args.refine (requests_view steps) answers i walk.0 c.loop-i.factor (omega (arith, c.loop-i.invariant.there))
    (subst (λ ys. Walked recorded s c.args.refine (requests_view steps) answers i walk.0 c.loop-i.factor ys) none walk.1) (length answers == i) refl in
    subst (IsTold s c.args.refine (requests_view steps) recorded (map planned_view answers)) (sym (c.ended-2.ensures ∙ ap (λ k. cond (length answers == k) (Ok tt) (Err Lines)) (sym n))) told

-- ---- where answers are lacking

pub returns-in-Err-clause-answered : goal.returns-in-Err-clause-answered
returns-in-Err-clause-answered g c = (omega arith, omega arith)

pub returns-then-not-goes_on-clause-answered : goal.returns-then-not-goes_on-clause-answered
returns-then-not-goes_on-clause-answered g c = ended_answered (length c.args.answers.now == c.loop-i.i + 1) (length c.args.answers.now) c.ended.result c.ended.ensures

pub returns-clause-answered : goal.returns-clause-answered
returns-clause-answered g c = ended_answered (length c.args.answers.now == length c.args.steps.now) (length c.args.answers.now) c.ended-2.result c.ended-2.ensures

pub returns-in-Err-clause-none : goal.returns-in-Err-clause-none
returns-in-Err-clause-none g c = λ none some. absurd (omega (arith, none))

pub returns-then-not-goes_on-clause-none : goal.returns-then-not-goes_on-clause-none
returns-then-not-goes_on-clause-none g c = λ none some. absurd (omega (arith, none))

pub returns-clause-none : goal.returns-clause-none
returns-clause-none g c = λ none some. absurd (omega (arith, none, some, c.loop-i.invariant.there))
