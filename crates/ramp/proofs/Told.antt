-- What is told of answers, by the walk over those before.
use Rattle.std.proofs.Common.{◌≡◌, ℕ, zero, suc, ◌+◌, ◌<◌, ◌≤◌, ◌==◌, Bool, true, false, cond, List, [], ◌∷◌, ◌++◌, length, map, take, drop, get_or, Option, Some, Result, Ok, Err, Vec, Global, append-nil, length-drop, eq-eqb, refl, sym, ap, ◌∙◌, subst, arith}
use Rattle.std.proofs.lemmas.Bool.{eqb-true}
use Rattle.std.proofs.lemmas.List.{length-map, map-append, take_all, take_more, take-append-drop}
use Rattle.plan_text.specs.Answer.{planned_view}
use Rattle.plan_text.specs.declared.planned.Planned.{Planned as Made}
use Rattle.rollout.specs.declared.verify_fault.VerifyFault.{VerifyFault}
use Rattle.ramp.specs.Ramp.{Recorded, Standing, left_by, requests_view, still}
use Rattle.ramp.specs.Right.{AreMiscounted, AreRight, IsOfAnswered, IsRight, IsStepTold, IsTold, IsWrongAfter}
use Rattle.ramp.specs.declared.fault.RampFault.{RampFault}
use Rattle.ramp.specs.declared.fault.RampFault.TheVariants.{Lines}
use Rattle.ramp.proofs.Walked.{Right, Walks, all_right, front, miscounted, walk_more, wrong_after}

module _ (recorded : Recorded) (s : Standing) (f : Option ℕ) (rs : List (List ℕ)) (answers : List Made) where
  abbrev pub Walked : ℕ → Standing → Option ℕ → List (List ℕ) → Type 0
  Walked i s' f' rs' = Walks (Right recorded) (Some 1) s f rs (map planned_view (take i answers)) s' f' rs'

  whole : (i : ℕ) → length answers ≤ i → map planned_view (take i answers) ≡ map planned_view answers
  whole i h = ap (map planned_view) (take_all i answers h)

  parts : (i : ℕ) (b : Made) → i < length answers → b ≡ get_or answers i b → map planned_view (take i answers) ++ (planned_view b ∷ map planned_view (drop (i + 1) answers)) ≡ map planned_view answers
  parts i b inside is =
      ap (λ (xs : List Made). map planned_view (take i answers) ++ map planned_view xs) (sym (front answers i b inside is))
      ∙ sym (map-append planned_view (take i answers) (drop i answers)) ∙ ap (map planned_view) (take-append-drop i answers)

  count : (i : ℕ) → i ≤ length answers → length (map planned_view (take i answers)) ≡ i
  count i inside = length-map (take i answers) planned_view ∙ length_take i answers inside
    where
      length_take : (i : ℕ) (xs : List Made) → i ≤ length xs → length (take i xs) ≡ i
      length_take zero xs h = refl
      length_take (suc i) [] h = absurd (omega (arith, h))
      length_take (suc i) (x ∷ xs) h = ap suc (length_take i xs (omega (arith, h)))

  -- there are no more answers
  pub few_told : (i : ℕ) (s' : Standing) (f' : Option ℕ) (r : List ℕ) (rs' : List (List ℕ)) → length answers ≤ i → Walked i s' f' (r ∷ rs') → AreMiscounted s f rs recorded (map planned_view answers)
  few_told i s' f' r rs' none walk =
      subst (λ xs. AreMiscounted s f rs recorded xs) (append-nil (map planned_view (take i answers)) ∙ whole i none)
      (miscounted recorded s f rs (map planned_view (take i answers)) s' f' (r ∷ rs') [] walk tt)

  -- the next answer is told so
  pub wrong_told : (i : ℕ) (s' : Standing) (f' : Option ℕ) (r : List ℕ) (rs' : List (List ℕ)) (b : Made) (e : VerifyFault) → i < length answers → b ≡ get_or answers i b → Walked i s' f' (r ∷ rs')
      → IsStepTold s' f' r recorded (planned_view b) (Err e) → IsWrongAfter s f rs recorded (map planned_view answers) i e
  wrong_told i s' f' r rs' b e inside is walk told =
      subst (λ n. IsWrongAfter s f rs recorded (map planned_view answers) n e) (count i (omega arith))
      (subst (λ xs. IsWrongAfter s f rs recorded xs (length (map planned_view (take i answers))) e) (parts i b inside is)
      (wrong_after recorded s f rs (map planned_view (take i answers)) s' f' r rs' (planned_view b) (map planned_view (drop (i + 1) answers)) e walk told))

  -- the next answer is right
  pub more_right : (i : ℕ) (s' : Standing) (f' : Option ℕ) (r : List ℕ) (rs' : List (List ℕ)) (b : Made) → i < length answers → b ≡ get_or answers i b → Walked i s' f' (r ∷ rs')
      → IsRight s' f' r recorded (planned_view b) → Walked (i + 1) (left_by s' r (planned_view b)) (Some 1) (still (planned_view b) rs')
  more_right i s' f' r rs' b inside is walk right =
      let grown : map planned_view (take i answers) ++ planned_view b ∷ [] ≡ map planned_view (take (i + 1) answers) =
      ap (λ (x : Made). map planned_view (take i answers) ++ planned_view x ∷ []) is ∙ sym (map-append planned_view (take i answers) (get_or answers i b ∷ [])) ∙ ap (map planned_view) (sym (take_more answers i b inside)) in
      subst (λ xs. Walks (Right recorded) (Some 1) s f rs xs (left_by s' r (planned_view b)) (Some 1) (still (planned_view b) rs')) grown
      (walk_more (Right recorded) (Some 1) s f rs (map planned_view (take i answers)) s' f' r rs' (planned_view b) walk right)

  -- no more answers are asked for
  pub ended_told : (n : ℕ) (s' : Standing) (f' : Option ℕ) → n ≤ length answers → Walked n s' f' [] → (b : Bool) → (length answers == n) ≡ b
      → IsTold s f rs recorded (map planned_view answers) (let r : Result (Unit {0}) RampFault = cond b (Ok tt) (Err Lines) in r)
  ended_told n s' f' inside walk true is =
      let same : length answers ≡ n = eqb-true (length answers) n is in
      subst (λ xs. AreRight s f rs recorded xs) (whole n (omega arith)) (all_right recorded s f rs (map planned_view (take n answers)) s' f' walk)
  ended_told n s' f' inside walk false is = go (drop n answers) refl
    where
      apart : length answers ≡ n → ⊥
      apart e = let same : (length answers == n) ≡ true = eq-eqb (length answers) n e in cc

      go : (rest : List Made) → drop n answers ≡ rest → AreMiscounted s f rs recorded (map planned_view answers)
      go [] e = absurd (apart (omega (arith, inside, ap length e, length-drop n answers)))
      go (b ∷ bs) e =
          let all : map planned_view (take n answers) ++ map planned_view (b ∷ bs) ≡ map planned_view answers =
          ap (λ (xs : List Made). map planned_view (take n answers) ++ map planned_view xs) (sym e) ∙ sym (map-append planned_view (take n answers) (drop n answers)) ∙ ap (map planned_view) (take-append-drop n answers) in
          subst (λ xs. AreMiscounted s f rs recorded xs) all (miscounted recorded s f rs (map planned_view (take n answers)) s' f' [] (map planned_view (b ∷ bs)) walk tt)

-- there is no answer, and a step at least
pub none_told : (recorded : Recorded) (s : Standing) (f : Option ℕ) (steps : List (Vec ℕ Global)) (answers : List Made) → length answers ≡ 0 → 0 < length steps → AreMiscounted s f (requests_view steps) recorded (map planned_view answers)
none_told recorded s f [] answers none some = absurd (omega (arith, some))
none_told recorded s f (x ∷ xs) [] none some = tt
none_told recorded s f (x ∷ xs) (a ∷ answers) none some = absurd (omega (arith, none))

-- where only the count is judged, no step is told
pub ended_answered : (b : Bool) (n : ℕ) (r : Result (Unit {0}) RampFault) → r ≡ cond b (Ok tt) (Err Lines) → IsOfAnswered n r
ended_answered true n r is = subst (IsOfAnswered n) (sym is) tt
ended_answered false n r is = subst (IsOfAnswered n) (sym is) tt
