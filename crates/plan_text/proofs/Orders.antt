-- The tests of order decide what they are named after.
use Rattle.std.proofs.Common.{◌≡◌, ℕ, ◌<◌, ◌^◌, List, [], ◌∷◌, Bool, true, false, Ordering, Decides, Some, Ok, Err, refl, arith}
use Rattle.std.specs.declared.cmp.Ordering.TheVariants.{Less}
use Rattle.std.specs.List.{AllByRecursion}
use Rattle.std.specs.List.Sorted.{IsStrictlySortedBy}
use Rattle.std.proofs.lemmas.Bool.{lt-ltb}
use Rattle.std.proofs.lemmas.Bool.Decides.{Decides-not, Decides-and, Decides-like, Decides-ltb}
use Rattle.std.proofs.lemmas.Map.Keys.{Less-from_sorted, sorted_tail}
use Rattle.std.proofs.lemmas.List.Sums.{sum_by-cons}
use Rattle.std.proofs.lemmas.Slice.Eq.{bytes_eq-Decides}
use Rattle.bucket_core.specs.Canonical.{BeginsApart, IsCanonical}
use Rattle.bucket_core.specs.Reading.{rule_of_entries}
use Rattle.bucket_core.specs.Rule.{Entries, IsRuleTotal, total_weight}
use Rattle.plan_text.specs.PlanFile.{rises, begins_apart, is_canonical, canonical_rule, if_plan}
use Rattle.plan_text.specs.declared.fault.PlanFileFault.TheVariants.{BadPlan}

-- what is sorted rises
pub rises-sorted : {X : Type 0} (cmp : X → X → Ordering) (xs : List X) → IsStrictlySortedBy cmp xs → rises cmp xs ≡ true
rises-sorted cmp [] h = refl
rises-sorted cmp (x ∷ []) h = refl
rises-sorted cmp (x ∷ y ∷ ys) h =
    let first : cmp x y ≡ Less = Less-from_sorted cmp (x ∷ y ∷ ys) 0 1 x h (omega arith) (omega arith) in
    rw (first, rises-sorted cmp (y ∷ ys) (sorted_tail cmp x (y ∷ ys) h)) refl

begins_apart-Decides : (name : List ℕ) (r : Entries) → Decides (begins_apart name r) (BeginsApart name r)
begins_apart-Decides name [] = (λ _. tt, λ _. refl)
begins_apart-Decides name (e ∷ es) = Decides-not _ (bytes_eq-Decides e.0 name)

pub is_canonical-Decides : (r : Entries) → Decides (is_canonical r) (IsCanonical r)
is_canonical-Decides [] = (λ _. tt, λ _. refl)
is_canonical-Decides (e ∷ es) = Decides-like _ (λ h. (h.0, h.1.0, h.1.1)) (λ h. (h.0, (h.1, h.2))) (Decides-and _ _ (Decides-ltb 0 e.1) (Decides-and _ _ (begins_apart-Decides e.0 es) (is_canonical-Decides es)))

-- entries of a total that a rule may have make a rule
pub rule_of-total : (r : Entries) → IsRuleTotal (total_weight r) → rule_of_entries r ≡ Ok r
rule_of-total r h = rw (lt-ltb 0 (total_weight r) h.some, lt-ltb (total_weight r) (2 ^ 31) h.small) refl

pub canonical_rule-same : (r : Entries) → IsRuleTotal (total_weight r) → IsCanonical r → canonical_rule r ≡ Some r
canonical_rule-same r total h = rw (rule_of-total r total, (is_canonical-Decides r).1 h) refl

-- no weight is above the total
pub weights_small : (n : ℕ) (r : Entries) → total_weight r < n → AllByRecursion (λ e. e.1 < n) r
weights_small n [] h = tt
weights_small n (e ∷ es) h = let sum = sum_by-cons (λ (e : List ℕ × ℕ). e.1) e es in (omega (arith, sum), weights_small n es (omega (arith, sum)))

-- what was made of entries, in its one shape or another
pub canonical_ok : (es r : Entries) → rule_of_entries es ≡ Ok r → IsCanonical r → if_plan (canonical_rule es) ≡ Ok r
canonical_ok es r made h = rw (made, (is_canonical-Decides r).1 h) refl

is_false : (b : Bool) → (b ≡ true → ⊥) → b ≡ false
is_false true h = absurd (h refl)
is_false false h = refl

pub canonical_err : (es r : Entries) (b : Bool) → rule_of_entries es ≡ Ok r → Decides b (IsCanonical r) → b ≡ false → if_plan (canonical_rule es) ≡ Err BadPlan
canonical_err es r b made test fails = rw (made, is_false (is_canonical r) (λ e. let yes = test.1 ((is_canonical-Decides r).0 e) in cc)) refl
