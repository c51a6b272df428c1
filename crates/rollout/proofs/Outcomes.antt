-- What is told of an answer, by what its parts told.
use Rattle.std.proofs.Common.{◌≡◌, ◌≢◌, ℕ, List, Result, Ok, Err, refl, ap}
use Rattle.transport_core.specs.declared.fault.CheckFault.{CheckFault}
use Rattle.plan_text.specs.Answer.{Answer}
use Rattle.book_core.specs.Book.{Inputs}
use Rattle.price_core.specs.Request.{Asked, asked_of}
use Rattle.price_core.specs.declared.fault.PriceFault.{PriceFault}
use Rattle.price_core.specs.declared.fault.PriceFault.TheVariants as price
use Rattle.rollout.specs.Fault.{of_price}
use Rattle.rollout.specs.Lawful.{Problem, IsLawful, and_then, by_price}
use Rattle.rollout.specs.CheckedTally.{AreTallied, IsTallyOutcome, IsTallyShown, TallyProblem, with_inputs}
use Rattle.rollout.specs.Verified.{Proves, Shows, Denies, IsOutcome, IsShown}
use Rattle.rollout.specs.declared.fault.RolloutFault.{RolloutFault}
use Rattle.rollout.specs.declared.fault.RolloutFault.TheVariants as fault
use Rattle.rollout.specs.declared.verify_fault.VerifyFault.{VerifyFault}
use Rattle.rollout.specs.declared.verify_fault.VerifyFault.TheVariants.{Request, Check}

pub only_want : (e : RolloutFault) → (e ≢ fault.WantOfMemory → ⊥) → e ≡ fault.WantOfMemory
only_want fault.WantOfMemory h = refl
only_want (fault.Request e) h = absurd (h (λ q. cc))
only_want fault.UnknownFlag h = absurd (h (λ q. cc))
only_want fault.NoSite h = absurd (h (λ q. cc))
only_want fault.Computed h = absurd (h (λ q. cc))
only_want fault.UnknownVariant h = absurd (h (λ q. cc))
only_want fault.TotalsSum h = absurd (h (λ q. cc))
only_want fault.TotalTooLarge h = absurd (h (λ q. cc))
only_want fault.NoWeight h = absurd (h (λ q. cc))
only_want fault.TooLarge h = absurd (h (λ q. cc))
only_want fault.OtherTally h = absurd (h (λ q. cc))

-- a refusal of the request
pub outcome_request : (r : Result Problem RolloutFault) (a : Answer) (e : RolloutFault) → (e ≢ fault.WantOfMemory → r ≡ Err e) → IsOutcome r a (Err (Request e))
outcome_request (Err f) a e h = λ want. let same = h want in cc
outcome_request (Ok p) a e h = only_want e (λ want. let same = h want in cc)

-- a refusal of the check
pub outcome_check : (r : Result Problem RolloutFault) (p : Problem) (a : Answer) (e : CheckFault) → r ≡ Ok p → Denies p a e → IsOutcome r a (Err (Check e))
outcome_check r p a e is h = rw is h

pub outcome_right : (r : Result Problem RolloutFault) (p : Problem) (a : Answer) → r ≡ Ok p → Proves p a → IsOutcome r a (Ok tt)
outcome_right r p a is h = rw is h

pub shown_right : (r : Result Problem RolloutFault) (p : Problem) (a : Answer) → r ≡ Ok p → IsLawful p → Shows p a → IsShown r a
shown_right r p a is lawful h = rw is (lawful, h)

-- ---- the same of a tally

pub tally_request : (r : Result TallyProblem RolloutFault) (a : Answer) (e : RolloutFault) → (e ≢ fault.WantOfMemory → r ≡ Err e) → IsTallyOutcome r a (Err (Request e))
tally_request (Err f) a e h = λ want. let same = h want in cc
tally_request (Ok p) a e h = only_want e (λ want. let same = h want in cc)

pub tally_check : (r : Result TallyProblem RolloutFault) (p : TallyProblem) (a : Answer) (e : CheckFault) → r ≡ Ok p → ((inputs : Inputs) → AreTallied p inputs → Denies (with_inputs p inputs) a e) → IsTallyOutcome r a (Err (Check e))
tally_check r p a e is h = rw is h

pub tally_right : (r : Result TallyProblem RolloutFault) (p : TallyProblem) (a : Answer) → r ≡ Ok p → ((inputs : Inputs) → AreTallied p inputs → Proves (with_inputs p inputs) a) → IsTallyOutcome r a (Ok tt)
tally_right r p a is h = rw is h

pub tally_shown : (r : Result TallyProblem RolloutFault) (p : TallyProblem) (a : Answer) → r ≡ Ok p → ((inputs : Inputs) → AreTallied p inputs → IsLawful (with_inputs p inputs) × Shows (with_inputs p inputs) a) → IsTallyShown r a
tally_shown r p a is h = rw is h

-- ---- of bytes, by what is told of the request that they are

pub refused_by_bytes : (bytes : List ℕ) (f : PriceFault) (g : Asked → Result Problem RolloutFault) (a : Answer) → (f ≢ price.WantOfMemory → asked_of bytes ≡ Err f) → IsOutcome (and_then (by_price (asked_of bytes)) g) a (Err (Request (of_price f)))
refused_by_bytes bytes f g a told = outcome_request (and_then (by_price (asked_of bytes)) g) a (of_price f) (λ other. rw (told (λ want. other (ap of_price want))) refl)

pub outcome_of_bytes : (bytes : List ℕ) (asked : Asked) (g : Asked → Result Problem RolloutFault) (a : Answer) (r : Result (Unit {0}) VerifyFault) → asked_of bytes ≡ Ok asked → IsOutcome (g asked) a r → IsOutcome (and_then (by_price (asked_of bytes)) g) a r
outcome_of_bytes bytes asked g a r is h = rw is h

pub shown_of_bytes : (bytes : List ℕ) (asked : Asked) (g : Asked → Result Problem RolloutFault) (a : Answer) → asked_of bytes ≡ Ok asked → IsShown (g asked) a → IsShown (and_then (by_price (asked_of bytes)) g) a
shown_of_bytes bytes asked g a is h = rw is h

pub tally_refused_by_bytes : (bytes : List ℕ) (f : PriceFault) (g : Asked → Result TallyProblem RolloutFault) (a : Answer) → (f ≢ price.WantOfMemory → asked_of bytes ≡ Err f) → IsTallyOutcome (and_then (by_price (asked_of bytes)) g) a (Err (Request (of_price f)))
tally_refused_by_bytes bytes f g a told = tally_request (and_then (by_price (asked_of bytes)) g) a (of_price f) (λ other. rw (told (λ want. other (ap of_price want))) refl)

pub tally_outcome_of_bytes : (bytes : List ℕ) (asked : Asked) (g : Asked → Result TallyProblem RolloutFault) (a : Answer) (r : Result (Unit {0}) VerifyFault) → asked_of bytes ≡ Ok asked → IsTallyOutcome (g asked) a r → IsTallyOutcome (and_then (by_price (asked_of bytes)) g) a r
tally_outcome_of_bytes bytes asked g a r is h = rw is h

pub tally_shown_of_bytes : (bytes : List ℕ) (asked : Asked) (g : Asked → Result TallyProblem RolloutFault) (a : Answer) → asked_of bytes ≡ Ok asked → IsTallyShown (g asked) a → IsTallyShown (and_then (by_price (asked_of bytes)) g) a
tally_shown_of_bytes bytes asked g a is h = rw is h
