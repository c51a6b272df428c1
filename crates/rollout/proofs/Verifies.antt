-- What is planned is told as valid.
use Rattle.std.proofs.Common.{◌≡◌, ◌≢◌, ℕ, zero, suc, true, Some, None, ◌*◌, ◌==◌, ◌<◌, List, cond, Result, Ok, Err, refl, sym, ap, ◌∙◌, subst, arith}
use Rattle.std.proofs.Math.Nat.{mul-div_cancel_left, mul-mod_right}
use Rattle.bucket_core.specs.Rule.{Entries, total_weight, refinement}
use Rattle.bucket_core.proofs.Refined.{total_weight-refinement}
use Rattle.flag_defs.specs.Document.{Definitions}
use Rattle.book_core.specs.Book.{Contents, inputs_on}
use Rattle.price_core.specs.Limits.{Limits}
use Rattle.price_core.specs.Request.{Asked, asked_of}
use Rattle.transport_core.specs.Certificate.{DualPrices}
use Rattle.transport_core.specs.declared.fault.CheckFault.{CheckFault}
use Rattle.transport_core.specs.declared.fault.CheckFault.TheVariants as check
use Rattle.plan_text.specs.Answer.{Answer, emit, none_exists}
use Rattle.rollout.specs.Lawful.{Problem, Place, and_then, by_price, place_of, limits_for, factor, sized, weighed, problem_at, problem_of}
use Rattle.rollout.specs.Plan.{IsPlan}
use Rattle.rollout.specs.Refined.{problem_refined, problem_checked}
use Rattle.rollout.specs.Verified.{Proves, IsOutcome, IsValid}
use Rattle.rollout.specs.VerifyFault.{is_want}
use Rattle.rollout.specs.declared.fault.RolloutFault.{RolloutFault}
use Rattle.rollout.specs.declared.fault.RolloutFault.TheVariants as rollout
use Rattle.rollout.specs.declared.refining.Refining.{Refining}
use Rattle.rollout.specs.declared.refining.Refining.TheVariants.{Times, ToTotal}
use Rattle.rollout.specs.declared.verify_fault.VerifyFault.{VerifyFault}
use Rattle.rollout.specs.declared.verify_fault.VerifyFault.TheVariants.{Request, Check}
use Rattle.rollout.proofs.Bounded.{came}

-- ---- an answer that proves itself is told as valid

want_or : (e : CheckFault) → (e ≢ check.WantOfMemory → ⊥) → is_want (Check e) ≡ true
want_or check.WantOfMemory h = refl
want_or check.Weight h = absurd (h (λ q. cc))
want_or check.Totals h = absurd (h (λ q. cc))
want_or (check.Forbidden p) h = absurd (h (λ q. cc))
want_or (check.Slack name count variant) h = absurd (h (λ q. cc))
want_or check.Sum h = absurd (h (λ q. cc))
want_or check.Cost h = absurd (h (λ q. cc))
want_or check.NotDeficient h = absurd (h (λ q. cc))
want_or check.Groups h = absurd (h (λ q. cc))

told_valid : (p : Problem) (answer : Answer) (result : Result (Unit {0}) VerifyFault) → Proves p answer → IsOutcome (Ok p) answer result → IsValid result
told_valid p answer (Ok u) proves outcome = tt
told_valid p answer (Err (Request e)) proves outcome = ap (λ x. is_want (Request x)) outcome
told_valid p answer (Err (Check e)) proves outcome = want_or e (λ other. outcome.wrong other proves)

valid_of : (r : Result Problem RolloutFault) (p : Problem) (answer : Answer) (result : Result (Unit {0}) VerifyFault) → r ≡ Ok p → Proves p answer → IsOutcome r answer result → IsValid result
valid_of r p answer result is proves outcome = told_valid p answer result proves (subst (λ q. IsOutcome q answer result) is outcome)

-- ---- the factor that a rule's total tells

factor_again : (m total : ℕ) → 0 < total → factor (ToTotal (total * m)) total ≡ m
factor_again m total some = rw (mul-mod_right total m, mul-div_cancel_left m some) refl

at_factor : (book : Contents) (asked : Asked) (place : Place) (k : ℕ) → Result Problem RolloutFault
at_factor book asked place k =
    and_then (weighed place.entries) (λ _.
    and_then (limits_for place asked) (λ limits.
    and_then (sized limits (total_weight place.entries * k)) (λ _.
    Ok (record { old = refinement k place.entries; limits = limits; pricing = asked.prices; inputs = inputs_on book place.page }))))

at_same : (r s : Refining) (book : Contents) (asked : Asked) (place : Place) → factor r (total_weight place.entries) ≡ factor s (total_weight place.entries) → problem_at r book asked place ≡ problem_at s book asked place
unfolding at_factor
at_same r s book asked place same = ap (at_factor book asked place) same

problem_in : Problem → Result Problem RolloutFault → Problem
problem_in d (Ok p) = p
problem_in d (Err e) = d

weighed_some : (entries : Entries) (u : Unit {0}) → weighed entries ≡ Ok u → 0 < total_weight entries
weighed_some entries u h = by (total_weight entries) refl h
  where
    by : (n : ℕ) → total_weight entries ≡ n → cond (n == 0) (Err rollout.NoWeight) (Ok tt) ≡ Ok u → 0 < total_weight entries
    by zero is h = cc
    by (suc n) is h = omega (arith, is)

-- what is planned on has the total of the site's rule, times the factor
record HasTotal (place : Place) (k : ℕ) (p : Problem) : Type 0 where
  some : 0 < total_weight place.entries
  total : total_weight p.old ≡ total_weight place.entries * k

total_at : (refining : Refining) (book : Contents) (asked : Asked) (place : Place) (p : Problem) → problem_at refining book asked place ≡ Ok p → HasTotal place (factor refining (total_weight place.entries)) p
unfolding problem_in
total_at refining book asked place p h =
    let total = total_weight place.entries in
    let k = factor refining total in
    let problem : Limits → Problem = λ limits. record { old = refinement k place.entries; limits = limits; pricing = asked.prices; inputs = inputs_on book place.page } in
    let weight = came (weighed place.entries) (λ _. and_then (limits_for place asked) (λ limits. and_then (sized limits (total * k)) (λ _. Ok (problem limits)))) p h in
    let limits = came (limits_for place asked) (λ limits. and_then (sized limits (total * k)) (λ _. Ok (problem limits))) p weight.gives in
    let size = came (sized limits.from (total * k)) (λ _. Ok (problem limits.from)) p limits.gives in
    let is : problem limits.from ≡ p = ap (problem_in (problem limits.from)) size.gives in
    record {
      some = weighed_some place.entries weight.from weight.was;
      total = ap (λ (q : Problem). total_weight q.old) (sym is) ∙ total_weight-refinement k place.entries;
    }

refined_again : (m : ℕ) (book : Contents) (asked : Asked) (place : Place) (p : Problem) → problem_at (Times m) book asked place ≡ Ok p → problem_at (ToTotal (total_weight p.old)) book asked place ≡ Ok p
refined_again m book asked place p h =
    let has = total_at (Times m) book asked place p h in
    let same = ap (λ n. factor (ToTotal n) (total_weight place.entries)) has.total ∙ factor_again m (total_weight place.entries) has.some in
    at_same (ToTotal (total_weight p.old)) (Times m) book asked place same ∙ h

-- a rule of the total that is planned on tells the factor
again : (m : ℕ) (flags : Definitions) (bytes : List ℕ) (book : Contents) (p : Problem) → problem_of (Times m) flags bytes book ≡ Ok p → problem_of (ToTotal (total_weight p.old)) flags bytes book ≡ Ok p
again m flags bytes book p h =
    let n = total_weight p.old in
    let asked = came (by_price (asked_of bytes)) (λ asked. and_then (place_of flags asked.flag asked.site) (λ place. problem_at (Times m) book asked place)) p h in
    let place = came (place_of flags asked.from.flag asked.from.site) (λ place. problem_at (Times m) book asked.from place) p asked.gives in
    ap (λ r. and_then r (λ asked. and_then (place_of flags asked.flag asked.site) (λ place. problem_at (ToTotal n) book asked place))) asked.was
    ∙ (ap (λ r. and_then r (λ place. problem_at (ToTotal n) book asked.from place)) place.was
    ∙ refined_again m book asked.from place.from p place.gives)

-- ---- the whole

pub valid_refined : (m : ℕ) (flags : Definitions) (bytes : List ℕ) (book : Contents) (p : Problem) (answer : Answer) (result : Result (Unit {0}) VerifyFault)
    → problem_refined m flags bytes book ≡ Ok p → IsPlan p answer → IsOutcome (problem_checked (Some m) answer flags bytes book) answer result → IsValid result
valid_refined m flags bytes book p answer result is plan outcome = valid_of (problem_refined m flags bytes book) p answer result is plan.proves outcome

pub valid_rule : (m : ℕ) (flags : Definitions) (bytes : List ℕ) (book : Contents) (p : Problem) (rule : Entries) (c : DualPrices) (result : Result (Unit {0}) VerifyFault)
    → problem_refined m flags bytes book ≡ Ok p → IsPlan p (emit rule c) → IsOutcome (problem_checked None (emit rule c) flags bytes book) (emit rule c) result → IsValid result
valid_rule m flags bytes book p rule c result is plan outcome =
    let told = ap (λ n. problem_of (ToTotal n) flags bytes book) plan.proves.fits.weight ∙ again m flags bytes book p is in
    valid_of (problem_of (ToTotal (total_weight rule)) flags bytes book) p (emit rule c) result told plan.proves outcome

pub valid_plain : (flags : Definitions) (bytes : List ℕ) (book : Contents) (p : Problem) (answer : Answer) (result : Result (Unit {0}) VerifyFault)
    → problem_refined 1 flags bytes book ≡ Ok p → IsPlan p answer → IsOutcome (problem_checked None answer flags bytes book) answer result → IsValid result
valid_plain flags bytes book p (emit rule c) result is plan outcome = valid_rule 1 flags bytes book p rule c result is plan outcome
valid_plain flags bytes book p (none_exists kind names) result is plan outcome = valid_of (problem_refined 1 flags bytes book) p (none_exists kind names) result is plan.proves outcome
