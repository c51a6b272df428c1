-- The names that a failed search leaves are deficient: what stands there is more, or less, than what is asked.
use Rattle.std.proofs.Common.{◌≡◌, ◌==◌, ◌||◌, ⊎_elim, ℕ, zero, suc, ◌+◌, ◌<◌, ◌≤◌, List, [], ◌∷◌, length, Bool, true, false, not, cond, Some, sum_by, refl, ap, ◌∙◌, subst, arith}
use Rattle.std.proofs.lemmas.Bool.{and_parts, or_cases, cond-true, cond-false, eqb-true, cases_Bool, false_from_ne_true, false≢true}
use Rattle.std.proofs.lemmas.Cmp.{nat_list_cmp_total}
use Rattle.std.proofs.lemmas.List.Elements.{All-head, All-tail}
use Rattle.std.proofs.lemmas.List.Sums.{sum_by-cons}
use Rattle.std.proofs.lemmas.Map.Entries.{length-keys_of}
use Rattle.std.proofs.lemmas.Map.Keys.{sorted_head, sorted_tail}
use Rattle.std.proofs.lemmas.Slice.Eq.{bytes_eq-Decides}
use Rattle.std.specs.Cmp.Lexicographic.{slice_cmp}
use Rattle.std.specs.List.{All, AllByRecursion, list_all, list_any, slice_get}
use Rattle.std.specs.List.Sorted.{IsStrictlySortedBy}
use Rattle.std.specs.Map.{keys_of}
use Rattle.std.specs.Ordering.{nat_cmp}
use Rattle.std.specs.Str.{bytes_eq}
use Rattle.std.specs.declared.cmp.Ordering.TheVariants.{Less}
use Rattle.bucket_core.specs.Rule.{Entries}
use Rattle.price_core.specs.Limits.{Limits, AreLimits}
use Rattle.transport_core.specs.Assignment.{Arc, flows_of, spends_all, inflow}
use Rattle.transport_core.specs.Deficient.{may_become, is_among, IsOver, IsUnder}
use Rattle.transport_core.specs.Groups.{GroupKey, AreSizes}
use Rattle.transport_core.specs.Instance.{TransportProblem}
use Rattle.transport_core.proofs.Keys.{not_below_itself}
use Rattle.transport_core.proofs.Plans.{groups-test, groups-sum, arcs-listed, arrived-le, same_sums, added}
use Rattle.transport_plan.specs.Cuts.{IsStuck, IsUnmet}

-- ---- sums over arcs

-- where each arc with points that passes the one test passes the other
moves : (s t : Arc → Bool) (flows : List (Arc × ℕ)) → list_all (λ (f : Arc × ℕ). (f.1 == 0) || (not (s f.0) || t f.0)) flows ≡ true → sum_by (λ (f : Arc × ℕ). cond (s f.0) f.1 0) flows ≤ sum_by (λ (f : Arc × ℕ). cond (t f.0) f.1 0) flows
moves s t [] all = omega arith
moves s t (f ∷ fs) all =
    let parts = and_parts ((f.1 == 0) || (not (s f.0) || t f.0)) (list_all (λ (x : Arc × ℕ). (x.1 == 0) || (not (s x.0) || t x.0)) fs) all in
    let here : cond (s f.0) f.1 0 ≤ cond (t f.0) f.1 0 = step (s f.0) (t f.0) f.1 parts.0 in
    omega (arith, here, sum_by-cons (λ (x : Arc × ℕ). cond (s x.0) x.1 0) f fs, sum_by-cons (λ (x : Arc × ℕ). cond (t x.0) x.1 0) f fs, moves s t fs parts.1)
  where
    step : (a b : Bool) (k : ℕ) → ((k == 0) || (not a || b)) ≡ true → cond a k 0 ≤ cond b k 0
    step false b k h = omega arith
    step true true k h = omega arith
    step true false k h = ⊎_elim (λ (none : (k == 0) ≡ true). omega (arith, eqb-true k 0 none)) (λ (no : (not true || false) ≡ true). absurd (false≢true no)) (or_cases (k == 0) (not true || false) h)

-- ---- sums over names

unseen : (u : List ℕ → Bool) (name : List ℕ) (k : ℕ) (limits : Limits) → AllByRecursion (λ n. slice_cmp nat_cmp name n ≡ Less) (keys_of limits) → sum_by (λ (l : List ℕ × (ℕ × ℕ)). cond (u l.0) (cond (bytes_eq l.0 name) k 0) 0) limits ≡ 0
unseen u name k [] above = refl
unseen u name k (l ∷ ls) above =
    let P : List ℕ → Type 0 = λ y. slice_cmp nat_cmp name y ≡ Less in
    let apart : bytes_eq l.0 name ≡ false = false_from_ne_true (bytes_eq l.0 name) (λ h. not_below_itself nat_list_cmp_total name (subst P ((bytes_eq-Decides l.0 name).0 h) above.0)) in
    let none : cond (u l.0) (cond (bytes_eq l.0 name) k 0) 0 ≡ 0 = ap (λ (m : ℕ). let r : ℕ = cond (u l.0) m 0 in r) (cond-false {A = ℕ} (bytes_eq l.0 name) k 0 apart) ∙ nothing (u l.0) in
    omega (arith, none, sum_by-cons (λ (x : List ℕ × (ℕ × ℕ)). cond (u x.0) (cond (bytes_eq x.0 name) k 0) 0) l ls, unseen u name k ls above.1)
  where
    nothing : (b : Bool) → cond {A = ℕ} b 0 0 ≡ 0
    nothing true = refl
    nothing false = refl

-- one arc's points are counted at one name
counted-once : (u : List ℕ → Bool) (name : List ℕ) (k : ℕ) (limits : Limits) → IsStrictlySortedBy (slice_cmp nat_cmp) (keys_of limits) → sum_by (λ (l : List ℕ × (ℕ × ℕ)). cond (u l.0) (cond (bytes_eq l.0 name) k 0) 0) limits ≤ cond (u name) k 0
counted-once u name k [] rise = omega arith
counted-once u name k (l ∷ ls) rise =
    let whole = sum_by-cons (λ (x : List ℕ × (ℕ × ℕ)). cond (u x.0) (cond (bytes_eq x.0 name) k 0) 0) l ls in
    ⊎_elim
    (λ (ties : bytes_eq l.0 name ≡ true).
    let is : l.0 ≡ name = (bytes_eq-Decides l.0 name).0 ties in
    let rest = unseen u name k ls (subst (λ (n : List ℕ). AllByRecursion (λ m. slice_cmp nat_cmp n m ≡ Less) (keys_of ls)) is (sorted_head (slice_cmp nat_cmp) l.0 (keys_of ls) rise)) in
    let here : cond (u l.0) (cond (bytes_eq l.0 name) k 0) 0 ≡ cond (u name) k 0 = ap (λ (m : ℕ). let r : ℕ = cond (u l.0) m 0 in r) (cond-true {A = ℕ} (bytes_eq l.0 name) k 0 ties) ∙ ap (λ (n : List ℕ). let r : ℕ = cond (u n) k 0 in r) is in
    omega (arith, whole, rest, here))
    (λ (apart : bytes_eq l.0 name ≡ false).
    let none : cond (u l.0) (cond (bytes_eq l.0 name) k 0) 0 ≡ cond (u l.0) 0 0 = ap (λ (m : ℕ). let r : ℕ = cond (u l.0) m 0 in r) (cond-false {A = ℕ} (bytes_eq l.0 name) k 0 apart) in
    let zero_is : cond {A = ℕ} (u l.0) 0 0 ≡ 0 = nothing (u l.0) in
    omega (arith, whole, none, zero_is, counted-once u name k ls (sorted_tail (slice_cmp nat_cmp) l.0 (keys_of ls) rise)))
    (cases_Bool (bytes_eq l.0 name))
  where
    nothing : (b : Bool) → cond {A = ℕ} b 0 0 ≡ 0
    nothing true = refl
    nothing false = refl

sums-plus : {X : Type 0} (f g : X → ℕ) (xs : List X) → sum_by (λ x. f x + g x) xs ≡ sum_by f xs + sum_by g xs
sums-plus f g [] = refl
sums-plus f g (x ∷ xs) = omega (arith, sum_by-cons (λ y. f y + g y) x xs, sum_by-cons f x xs, sum_by-cons g x xs, sums-plus f g xs)

no-sum : (limits : Limits) (u : List ℕ → Bool) → sum_by (λ (l : List ℕ × (ℕ × ℕ)). cond {A = ℕ} (u l.0) 0 0) limits ≡ 0
no-sum [] u = refl
no-sum (l ∷ ls) u = omega (arith, sum_by-cons (λ (x : List ℕ × (ℕ × ℕ)). cond {A = ℕ} (u x.0) 0 0) l ls, nothing (u l.0), no-sum ls u)
  where
    nothing : (b : Bool) → cond {A = ℕ} b 0 0 ≡ 0
    nothing true = refl
    nothing false = refl

-- what flows to distinct names that pass a test is what flows on arcs to such names
flowed-le : (u : List ℕ → Bool) (limits : Limits) (flows : List (Arc × ℕ)) → IsStrictlySortedBy (slice_cmp nat_cmp) (keys_of limits)
    → sum_by (λ (l : List ℕ × (ℕ × ℕ)). cond (u l.0) (inflow flows l.0) 0) limits ≤ sum_by (λ (f : Arc × ℕ). cond (u f.0.1) f.1 0) flows
flowed-le u limits [] rise = omega (arith, no-sum limits u)
flowed-le u limits (f ∷ fs) rise =
    let each = same_sums (λ (l : List ℕ × (ℕ × ℕ)). cond (u l.0) (inflow (f ∷ fs) l.0) 0) (λ l. cond (u l.0) (cond (bytes_eq l.0 f.0.1) f.1 0) 0 + cond (u l.0) (inflow fs l.0) 0) limits
    (λ l. ap (λ (n : ℕ). let k : ℕ = cond (u l.0) n 0 in k) (sum_by-cons (λ (x : Arc × ℕ). cond (bytes_eq l.0 x.0.1) x.1 0) f fs) ∙ added (u l.0) (cond (bytes_eq l.0 f.0.1) f.1 0) (inflow fs l.0)) in
    let split = sums-plus (λ (l : List ℕ × (ℕ × ℕ)). cond (u l.0) (cond (bytes_eq l.0 f.0.1) f.1 0) 0) (λ l. cond (u l.0) (inflow fs l.0) 0) limits in
    omega (arith, each, split, counted-once u f.0.1 f.1 limits rise, sum_by-cons (λ (x : Arc × ℕ). cond (u x.0.1) x.1 0) f fs, flowed-le u limits fs rise)

where-passed : (b : Bool) (m n : ℕ) → (b ≡ true → m ≤ n) → cond b m 0 ≤ cond b n 0
where-passed true m n le = le refl
where-passed false m n le = omega arith

-- sums over the names that pass a test, one by one
sums-le : (u : List ℕ → Bool) (f g : List ℕ × (ℕ × ℕ) → ℕ) (limits : Limits) → All (λ l. u l.0 ≡ true → f l ≤ g l) limits → sum_by (λ l. cond (u l.0) (f l) 0) limits ≤ sum_by (λ l. cond (u l.0) (g l) 0) limits
sums-le u f g [] all = omega arith
sums-le u f g (l ∷ ls) all =
    let here : cond (u l.0) (f l) 0 ≤ cond (u l.0) (g l) 0 = where-passed (u l.0) (f l) (g l) (All-head (λ x. u x.0 ≡ true → f x ≤ g x) l ls all) in
    omega (arith, here, sum_by-cons (λ x. cond (u x.0) (f x) 0) l ls, sum_by-cons (λ x. cond (u x.0) (g x) 0) l ls, sums-le u f g ls (All-tail (λ x. u x.0 ≡ true → f x ≤ g x) l ls all))

sums-lt : (u : List ℕ → Bool) (f g : List ℕ × (ℕ × ℕ) → ℕ) (limits : Limits) (v : ℕ) (m : List ℕ × (ℕ × ℕ)) → slice_get limits v ≡ Some m → u m.0 ≡ true → f m < g m → All (λ l. u l.0 ≡ true → f l ≤ g l) limits
    → sum_by (λ l. cond (u l.0) (f l) 0) limits < sum_by (λ l. cond (u l.0) (g l) 0) limits
sums-lt u f g [] v m at inside less all = cc
sums-lt u f g (l ∷ ls) zero m at inside less all =
    let is : l ≡ m = cc in
    let left : cond (u l.0) (f l) 0 ≡ f m = ap (λ (x : List ℕ × (ℕ × ℕ)). let r : ℕ = cond (u x.0) (f x) 0 in r) is ∙ cond-true {A = ℕ} (u m.0) (f m) 0 inside in
    let right : cond (u l.0) (g l) 0 ≡ g m = ap (λ (x : List ℕ × (ℕ × ℕ)). let r : ℕ = cond (u x.0) (g x) 0 in r) is ∙ cond-true {A = ℕ} (u m.0) (g m) 0 inside in
    omega (arith, less, left, right, sum_by-cons (λ x. cond (u x.0) (f x) 0) l ls, sum_by-cons (λ x. cond (u x.0) (g x) 0) l ls, sums-le u f g ls (All-tail (λ x. u x.0 ≡ true → f x ≤ g x) l ls all))
sums-lt u f g (l ∷ ls) (suc v) m at inside less all =
    let here : cond (u l.0) (f l) 0 ≤ cond (u l.0) (g l) 0 = where-passed (u l.0) (f l) (g l) (All-head (λ x. u x.0 ≡ true → f x ≤ g x) l ls all) in
    omega (
      arith,
      here,
      sum_by-cons (λ x. cond (u x.0) (f x) 0) l ls,
      sum_by-cons (λ x. cond (u x.0) (g x) 0) l ls,
      sums-lt u f g ls v m at inside less (All-tail (λ x. u x.0 ≡ true → f x ≤ g x) l ls all),
    )

-- tests of which the one implies the other
tests-le : (s t : List ℕ → Bool) (f : List ℕ × (ℕ × ℕ) → ℕ) (limits : Limits) → All (λ l. s l.0 ≡ true → t l.0 ≡ true) limits → sum_by (λ l. cond (s l.0) (f l) 0) limits ≤ sum_by (λ l. cond (t l.0) (f l) 0) limits
tests-le s t f [] all = omega arith
tests-le s t f (l ∷ ls) all =
    let here : cond (s l.0) (f l) 0 ≤ cond (t l.0) (f l) 0 = step (s l.0) (t l.0) (f l) (All-head (λ x. s x.0 ≡ true → t x.0 ≡ true) l ls all) in
    omega (arith, here, sum_by-cons (λ x. cond (s x.0) (f x) 0) l ls, sum_by-cons (λ x. cond (t x.0) (f x) 0) l ls, tests-le s t f ls (All-tail (λ x. s x.0 ≡ true → t x.0 ≡ true) l ls all))
  where
    step : (a b : Bool) (n : ℕ) → (a ≡ true → b ≡ true) → cond a n 0 ≤ cond b n 0
    step true b n next = omega (arith, cond-true {A = ℕ} b n 0 (next refl))
    step false b n next = omega arith

-- ---- the cuts

pub stuck_is_over : (p : TransportProblem) (numbers : List ℕ) (inside : List ℕ → Bool) (set : List (List ℕ)) (old : Entries) (inputs : List (List ℕ)) → AreLimits p.limits → AreSizes old inputs p.groups → IsStuck p numbers inside set → IsOver old p.limits p.pricing set
stuck_is_over p numbers inside set old inputs lawful sizes stuck =
    let flows = flows_of p numbers in
    let spent : spends_all p.groups (length (keys_of p.limits)) numbers ≡ true = ap (λ w. spends_all p.groups w numbers) (length-keys_of p.limits) ∙ stuck.spent in
    let reach = tests-le (λ n. list_any (λ from. may_become p.pricing from n) set) inside (λ l. l.1.1) p.limits stuck.closed in
    let v = stuck.above in
    let more = sums-lt inside (λ l. l.1.1) (λ l. inflow flows l.0) p.limits v.0 v.1 v.2 v.3 v.4 stuck.full in
    let flowed = flowed-le inside p.limits flows lawful.rise in
    let held = moves (λ (a : Arc). inside a.1) (λ (a : Arc). is_among set a.0.0) flows stuck.held in
    let spread = groups-sum (λ (g : GroupKey). is_among set g.0) p.groups (keys_of p.limits) numbers spent in
    let points_are = groups-test old inputs p.groups sizes (is_among set) in
    record { listed = stuck.listed; more = omega (arith, reach, more, flowed, held, spread, points_are) }

pub unmet_is_under : (p : TransportProblem) (numbers : List ℕ) (set : List (List ℕ)) (old : Entries) (inputs : List (List ℕ)) → AreSizes old inputs p.groups → IsUnmet p numbers set → IsUnder old p.limits p.pricing set
unmet_is_under p numbers set old inputs sizes unmet =
    let flows = flows_of p numbers in
    let wants : List ℕ → Bool = λ from. is_among set from || list_any (may_become p.pricing from) set in
    let spent : spends_all p.groups (length (keys_of p.limits)) numbers ≡ true = ap (λ w. spends_all p.groups w numbers) (length-keys_of p.limits) ∙ unmet.spent in
    let v = unmet.below in
    let less = sums-lt (is_among set) (λ l. inflow flows l.0) (λ l. l.1.0) p.limits v.0 v.1 v.2 v.3 v.4 unmet.bare in
    let arrived = arrived-le (is_among set) p.limits flows (arcs-listed (keys_of p.groups) (keys_of p.limits) numbers) in
    let held = moves (λ (a : Arc). wants a.0.0) (λ (a : Arc). is_among set a.1) flows unmet.held in
    let spread = groups-sum (λ (g : GroupKey). wants g.0) p.groups (keys_of p.limits) numbers spent in
    let points_are = groups-test old inputs p.groups sizes wants in
    record { listed = unmet.listed; fewer = omega (arith, less, arrived, held, spread, points_are) }
