-- What is answered is a plan.
use Rattle.std.proofs.Common.{◌≡◌, ◌≢◌, ℕ, ◌<◌, List, Result, Ok, Err, refl, sym, subst}
use Rattle.std.specs.Cmp.Lexicographic.{slice_cmp}
use Rattle.std.specs.List.Sorted.{IsStrictlySortedBy}
use Rattle.std.specs.Ordering.{nat_cmp}
use Rattle.std.specs.Prelude.{IfErr, MatchResult}
use Rattle.bucket_core.specs.Canonical.{IsCanonical}
use Rattle.bucket_core.specs.Rule.{Entries, total_weight, names_view}
use Rattle.price_core.specs.Limits.{AreLimits}
use Rattle.price_core.specs.Pricing.{Pricing}
use Rattle.transport_core.specs.Assignment.{HasAssignment, flows_of}
use Rattle.transport_core.specs.Certificate.{DualPrices, IsCertified, certificate_view}
use Rattle.transport_core.specs.Deficient.{IsDeficient, IsOver}
use Rattle.transport_core.specs.Fits.{IsLeast}
use Rattle.transport_core.specs.Groups.{AreSizes}
use Rattle.transport_core.specs.Instance.{TransportProblem}
use Rattle.transport_core.specs.declared.assignment.Assignment.{Assignment}
use Rattle.transport_core.specs.declared.certificate.Certificate.{Certificate}
use Rattle.transport_core.specs.declared.certificate.Cut.{Cut}
use Rattle.transport_core.specs.declared.certificate.CutKind.{CutKind}
use Rattle.transport_core.specs.declared.certificate.CutKind.TheVariants.{Over, Under}
use Rattle.transport_core.proofs.Deficits.{deficient_fits_none}
use Rattle.transport_plan.specs.Solved.{IsCut, IsNeverOver}
use Rattle.transport_plan.specs.Solved.{IsPlan as IsSolved}
use Rattle.plan_text.specs.Answer.{emit, none_exists, IsOrdered, planned_view}
use Rattle.book_core.specs.Book.{Inputs}
use Rattle.rollout.specs.Lawful.{Problem}
use Rattle.rollout.specs.Plan.{IsUnderLast, IsPlan, IsPlanned, IsTallyPlanned}
use Rattle.rollout.specs.CheckedTally.{AreTallied, TallyProblem, with_inputs}
use Rattle.rollout.specs.declared.fault.RolloutFault.{RolloutFault}
use Rattle.rollout.specs.declared.fault.RolloutFault.TheVariants.{WantOfMemory}
use Rattle.plan_text.specs.declared.planned.Planned.{Planned}
use Rattle.rollout.proofs.Outcomes.{only_want}

-- ---- plans

pub none_plan : (p : Problem) (kind : CutKind) (names : List (List ℕ)) → 0 < total_weight p.old → AreLimits p.limits → IsDeficient kind p.old p.limits p.pricing names → IsUnderLast p (none_exists kind names) → IsPlan p (none_exists kind names)
none_plan p kind names some lawful deficient under_last = record {
  lawful = record { some = some; limits = lawful };
  proves = deficient;
  shows = λ rule fits. deficient_fits_none kind p.old rule p.limits p.pricing names lawful deficient fits;
  under_last = under_last;
}

pub emit_plan : (p : Problem) (prices : Pricing) (rule : Entries) (c : DualPrices) → 0 < total_weight p.old → AreLimits p.limits → prices ≡ p.pricing → IsCertified p.old rule p.limits prices p.inputs c → IsLeast p.old rule p.limits prices p.inputs → IsPlan p (emit rule c)
emit_plan p prices rule c some lawful same certified least = record {
  lawful = record { some = some; limits = lawful };
  proves = subst (λ q. IsCertified p.old rule p.limits q p.inputs c) same certified;
  shows = subst (λ q. IsLeast p.old rule p.limits q p.inputs) same least;
  under_last = tt;
}

-- ---- of the instance

-- a rule with the instance's assignment passes the check of its certificate, and costs the least
pub solved_plan : (p : Problem) (t : TransportProblem) (assignment : Assignment) (certificate : Certificate) (rule : Entries) → AreSizes p.old p.inputs t.groups → t.limits ≡ p.limits → t.pricing ≡ p.pricing → IsSolved t assignment certificate
    → HasAssignment p.old rule p.inputs (flows_of t assignment.numbers.items) → IsCertified p.old rule p.limits p.pricing p.inputs (certificate_view certificate) × IsLeast p.old rule p.limits p.pricing p.inputs
solved_plan p t assignment certificate rule sizes limits pricing solved has =
    let proved = solved p.old rule p.inputs sizes has in
    let c = certificate_view certificate in (
      subst (λ ls. IsCertified p.old rule ls p.pricing p.inputs c) limits (subst (λ prices. IsCertified p.old rule t.limits prices p.inputs c) pricing proved.0),
      subst (λ ls. IsLeast p.old rule ls p.pricing p.inputs) limits (subst (λ prices. IsLeast p.old rule t.limits prices p.inputs) pricing proved.1),
    )

-- a cut of the instance, for the rule that it is of
pub deficient_of : (p : Problem) (t : TransportProblem) (cut : Cut) → AreSizes p.old p.inputs t.groups → t.limits ≡ p.limits → t.pricing ≡ p.pricing → IsCut t cut
    → IsDeficient cut.kind p.old p.limits p.pricing (names_view cut.names.items)
deficient_of p t cut sizes limits pricing is =
    let names = names_view cut.names.items in
    subst (λ ls. IsDeficient cut.kind p.old ls p.pricing names) limits (subst (λ prices. IsDeficient cut.kind p.old t.limits prices names) pricing (is p.old p.inputs sizes))

pub under_last_of : (p : Problem) (t : TransportProblem) (kind : CutKind) (names : List (List ℕ)) → AreSizes p.old p.inputs t.groups → t.limits ≡ p.limits → t.pricing ≡ p.pricing → (kind ≡ Under → IsNeverOver t) → IsUnderLast p (none_exists kind names)
under_last_of p t Over names sizes limits pricing never = tt
under_last_of p t Under names sizes limits pricing never = λ others over.
    never refl p.old p.inputs others sizes (subst (λ ls. IsOver p.old ls t.pricing others) (sym limits) (subst (λ prices. IsOver p.old p.limits prices others) (sym pricing) over))

-- groups rise as those of the rule, and names as the limits
pub emit_ordered : (p : Problem) (prices : Pricing) (rule : Entries) (c : DualPrices) → AreLimits p.limits → IsCanonical rule → IsCertified p.old rule p.limits prices p.inputs c → IsOrdered (emit rule c)
emit_ordered p prices rule c lawful canonical certified =
    (canonical, certified.groups.rise, subst (λ names. IsStrictlySortedBy (slice_cmp nat_cmp) names) (sym certified.names) lawful.rise)

-- ---- what is told

pub planned_refused : (r : Result Problem RolloutFault) (e : RolloutFault) → (e ≢ WantOfMemory → r ≡ Err e) → IsPlanned r (Err e)
planned_refused (Err f) e h = λ want. let same = h want in cc
planned_refused (Ok p) e h = only_want e (λ want. let same = h want in cc)

pub planned_as : (r : Result Problem RolloutFault) (p : Problem) (answer : Result Planned RolloutFault) → r ≡ Ok p → MatchResult answer (λ a. IsPlan p (planned_view a)) (λ e. e ≡ WantOfMemory) → IsPlanned r answer
planned_as r p (Ok a) is h = rw is h
planned_as r p (Err e) is h = rw is h

-- ---- the same of a tally

pub tally_refused : (r : Result TallyProblem RolloutFault) (e : RolloutFault) → (e ≢ WantOfMemory → r ≡ Err e) → IsTallyPlanned r (Err e)
tally_refused (Err f) e h = λ want. let same = h want in cc
tally_refused (Ok p) e h = only_want e (λ want. let same = h want in cc)

pub tally_as : (r : Result TallyProblem RolloutFault) (p : TallyProblem) (answer : Result Planned RolloutFault) → r ≡ Ok p
    → ((inputs : Inputs) → AreTallied p inputs → MatchResult answer (λ a. IsPlan (with_inputs p inputs) (planned_view a)) (λ e. e ≡ WantOfMemory)) → IfErr answer (λ e. e ≡ WantOfMemory) → IsTallyPlanned r answer
tally_as r p (Ok a) is h decides = rw is h
tally_as r p (Err e) is h decides = rw is decides
