-- A tally of the page and the total is one of the rule that is planned on.
use Rattle.std.proofs.Common.{◌≡◌, ◌==◌, ◌-◌, ◌*◌, ◌^◌, ◌<◌, ◌≤◌, ℕ, List, Bool, true, false, min, refl, sym, ap, ◌∙◌, subst, arith}
use Rattle.std.proofs.lemmas.Bool.{eq-eqb, eqb-true}
use Rattle.bucket_core.specs.Rule.{Entries, total_weight, refinement}
use Rattle.bucket_core.proofs.Refined.{total_weight-refinement}
use Rattle.note_tallies.specs.Tally.{PageTally, IsPageTally, most_in_all}
use Rattle.transport_core.specs.Tally.{IsTally}

same_tests : (b c : Bool) → (b ≡ true → c ≡ true) → (c ≡ true → b ≡ true) → b ≡ c
same_tests true true to from = refl
same_tests true false to from = sym (to refl)
same_tests false true to from = from refl
same_tests false false to from = refl

-- what saturates is no total of a tally
pub saturated : (s a n : ℕ) → s ≡ min a (2 ^ 128 - 1) → n < 2 ^ 32 → (s == n) ≡ (a == n)
saturated s a n is small =
    same_tests (s == n) (a == n)
    (λ h. let same : s ≡ n = eqb-true s n h in eq-eqb a n (omega (arith, same, is, small)))
    (λ h. let same : a ≡ n = eqb-true a n h in eq-eqb s n (omega (arith, same, is, small)))

pub tally_made : (k : ℕ) (entries old : Entries) (t : PageTally) (counts : List ℕ) → IsPageTally t → total_weight entries * k ≡ t.total → old ≡ refinement k entries → counts ≡ t.counts → IsTally (total_weight old) counts
tally_made k entries old t counts lawful total old_is counts_are =
    let same : t.total ≡ total_weight old = sym (ap total_weight old_is ∙ (total_weight-refinement k entries ∙ total)) in
    subst (λ cs. IsTally (total_weight old) cs) (sym counts_are) (subst (λ n. IsTally n t.counts) same (record { whole = lawful.whole; small = lawful.small; few = subst (λ n. n ≤ most_in_all) (sym lawful.added) lawful.few }))
