-- A walk over the first steps, and what is told of those that are left.
use Rattle.std.proofs.Common.{◌≡◌, ℕ, suc, ◌+◌, List, [], ◌∷◌, ◌++◌, length, Option, Some, ◌<◌, drop, get_or, add-one, drop-cons, Err, refl, sym, ap, ◌∙◌, subst}
use Rattle.plan_text.specs.Answer.{Answer}
use Rattle.rollout.specs.declared.fault.RolloutFault.{RolloutFault}
use Rattle.rollout.specs.declared.verify_fault.VerifyFault.{VerifyFault}
use Rattle.ramp.specs.Ramp.{ArePlans, IsRefusedAfter, IsStep, IsStepRefused, Recorded, Standing, left_by, still}
use Rattle.ramp.specs.Right.{AreMiscounted, AreRight, IsRight, IsStepTold, IsWrongAfter}

-- Each answer is good for its step, the first by the factor f and each other by one; behind them are the steps rs', of which the first stands on s' with the factor f'.
module _ {F : Type 0} (Good : Standing → F → List ℕ → Answer → Type 0) (one : F) where
  abbrev pub Walks : Standing → F → List (List ℕ) → List Answer → Standing → F → List (List ℕ) → Type 0
  Walks s f rs [] s' f' rs' = (s ≡ s') × (f ≡ f') × (rs ≡ rs')
  Walks s f [] (a ∷ done) s' f' rs' = ⊥
  Walks s f (r ∷ rs) (a ∷ done) s' f' rs' = Good s f r a × Walks (left_by s r a) one (still a rs) done s' f' rs'

  pub walk_more : (s : Standing) (f : F) (rs : List (List ℕ)) (done : List Answer) (s' : Standing) (f' : F) (r : List ℕ) (rs' : List (List ℕ)) (a : Answer)
      → Walks s f rs done s' f' (r ∷ rs') → Good s' f' r a → Walks s f rs (done ++ a ∷ []) (left_by s' r a) one (still a rs')
  walk_more s f rs [] s' f' r rs' a (p, q, e) good =
      let first : Good s f r a = subst (λ x. Good x f r a) (sym p) (subst (λ x. Good s' x r a) (sym q) good) in
      subst (λ x. Walks s f x (a ∷ []) (left_by s' r a) one (still a rs')) (sym e) (first, (ap (λ x. left_by x r a) p, refl, refl))
  walk_more s f [] (b ∷ done) s' f' r rs' a h good = absurd h
  walk_more s f (r0 ∷ rs) (b ∷ done) s' f' r rs' a h good = (h.0, walk_more (left_by s r0 b) one (still b rs) done s' f' r rs' a h.1 good)

module _ (recorded : Recorded) where
  abbrev pub Planned : Standing → ℕ → List ℕ → Answer → Type 0
  Planned s m r a = IsStep s m r recorded a

  abbrev pub Right : Standing → Option ℕ → List ℕ → Answer → Type 0
  Right s f r a = IsRight s f r recorded a

  -- ---- plans

  pub all_planned : (s : Standing) (m : ℕ) (rs : List (List ℕ)) (done : List Answer) (s' : Standing) (m' : ℕ) → Walks Planned 1 s m rs done s' m' [] → ArePlans s m rs recorded done
  all_planned s m rs [] s' m' (p, q, e) = subst (λ x. ArePlans s m x recorded []) (sym e) tt
  all_planned s m [] (a ∷ done) s' m' h = absurd h
  all_planned s m (r ∷ rs) (a ∷ done) s' m' h = (h.0, all_planned (left_by s r a) 1 (still a rs) done s' m' h.1)

  pub refused_after : (s : Standing) (m : ℕ) (rs : List (List ℕ)) (done : List Answer) (s' : Standing) (m' : ℕ) (r : List ℕ) (rs' : List (List ℕ)) (e : RolloutFault)
      → Walks Planned 1 s m rs done s' m' (r ∷ rs') → IsStepRefused s' m' r recorded e → IsRefusedAfter s m rs recorded done e
  refused_after s m rs [] s' m' r rs' e (p, q, is) refused =
      subst (λ x. IsRefusedAfter s m x recorded [] e) (sym is) (subst (λ x. IsStepRefused x m r recorded e) (sym p) (subst (λ y. IsStepRefused s' y r recorded e) (sym q) refused))
  refused_after s m [] (a ∷ done) s' m' r rs' e h refused = absurd h
  refused_after s m (r0 ∷ rs) (a ∷ done) s' m' r rs' e h refused = (h.0, refused_after (left_by s r0 a) 1 (still a rs) done s' m' r rs' e h.1 refused)

  -- ---- verdicts

  pub all_right : (s : Standing) (f : Option ℕ) (rs : List (List ℕ)) (done : List Answer) (s' : Standing) (f' : Option ℕ) → Walks Right (Some 1) s f rs done s' f' [] → AreRight s f rs recorded done
  all_right s f rs [] s' f' (p, q, e) = subst (λ x. AreRight s f x recorded []) (sym e) tt
  all_right s f [] (a ∷ done) s' f' h = absurd h
  all_right s f (r ∷ rs) (a ∷ done) s' f' h = (h.0, all_right (left_by s r a) (Some 1) (still a rs) done s' f' h.1)

  pub wrong_after : (s : Standing) (f : Option ℕ) (rs : List (List ℕ)) (done : List Answer) (s' : Standing) (f' : Option ℕ) (r : List ℕ) (rs' : List (List ℕ)) (b : Answer) (bs : List Answer) (e : VerifyFault)
      → Walks Right (Some 1) s f rs done s' f' (r ∷ rs') → IsStepTold s' f' r recorded b (Err e) → IsWrongAfter s f rs recorded (done ++ b ∷ bs) (length done) e
  wrong_after s f rs [] s' f' r rs' b bs e (p, q, is) told =
      subst (λ x. IsWrongAfter s f x recorded (b ∷ bs) 0 e) (sym is) (subst (λ x. IsStepTold x f r recorded b (Err e)) (sym p) (subst (λ y. IsStepTold s' y r recorded b (Err e)) (sym q) told))
  wrong_after s f [] (a ∷ done) s' f' r rs' b bs e h told = absurd h
  wrong_after s f (r0 ∷ rs) (a ∷ done) s' f' r rs' b bs e h told = (h.0, wrong_after (left_by s r0 a) (Some 1) (still a rs) done s' f' r rs' b bs e h.1 told)

  pub miscounted : (s : Standing) (f : Option ℕ) (rs : List (List ℕ)) (done : List Answer) (s' : Standing) (f' : Option ℕ) (rs' : List (List ℕ)) (bs : List Answer)
      → Walks Right (Some 1) s f rs done s' f' rs' → AreMiscounted s' f' rs' recorded bs → AreMiscounted s f rs recorded (done ++ bs)
  miscounted s f rs [] s' f' rs' bs (p, q, is) told =
      subst (λ x. AreMiscounted s f x recorded bs) (sym is) (subst (λ x. AreMiscounted x f rs' recorded bs) (sym p) (subst (λ y. AreMiscounted s' y rs' recorded bs) (sym q) told))
  miscounted s f [] (a ∷ done) s' f' rs' bs h told = absurd h
  miscounted s f (r0 ∷ rs) (a ∷ done) s' f' rs' bs h told = (h.0, miscounted (left_by s r0 a) (Some 1) (still a rs) done s' f' rs' bs h.1 told)

-- what is left from a place on
pub front : {X : Type 0} (xs : List X) (i : ℕ) (x : X) → i < length xs → x ≡ get_or xs i x → drop i xs ≡ x ∷ drop (i + 1) xs
front xs i x inside is = rw add-one (drop-cons xs i x inside ∙ ap (λ y. y ∷ drop (suc i) xs) (sym is))
