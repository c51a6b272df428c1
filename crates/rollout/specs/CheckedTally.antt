-- What a request asks of a tally: how many inputs of the request's page fall on each point, however many they are.
use Rattle.std.specs.Prelude.{◌≡◌, ◌≢◌, ℕ, ◌*◌, ◌==◌, ◌&&◌, [], List, if◌then◌else◌, Result, Ok, Err}
use Rattle.bucket_core.specs.Rule.{Entries, total_weight}
use Rattle.flag_defs.specs.Document.{Definitions}
use Rattle.book_core.specs.Book.{Inputs}
use Rattle.book_core.specs.Counts.{counts_of}
use Rattle.book_core.specs.Page.{page_eq}
use Rattle.price_core.specs.Limits.{Limits}
use Rattle.price_core.specs.Pricing.{Pricing}
use Rattle.price_core.specs.Request.{Asked, asked_of}
use Rattle.note_tallies.specs.Tally.{PageTally}
use Rattle.plan_text.specs.Answer.{Answer}
use Rattle.rollout.specs.Lawful.{Place, Problem, and_then, by_price, factor, place_of, problem_on, weighed}
use Rattle.rollout.specs.Verified.{Denies, Proves, Shows}
use Rattle.rollout.specs.Lawful.{IsLawful}
use Rattle.rollout.specs.declared.fault.RolloutFault.{RolloutFault}
use Rattle.rollout.specs.declared.fault.RolloutFault.TheVariants.{WantOfMemory, OtherTally}
use Rattle.rollout.specs.declared.problem.Problem as program
use Rattle.rollout.specs.declared.refining.Refining.{Refining}
use Rattle.rollout.specs.declared.verify_fault.VerifyFault.{VerifyFault}
use Rattle.rollout.specs.declared.verify_fault.VerifyFault.TheVariants.{Request, Check}

-- what a lawful request asks of a tally
pub record TallyProblem : Type 0 where
  pub old : Entries
  pub limits : Limits
  pub pricing : Pricing
  pub counts : List ℕ

-- the same of inputs
abbrev pub with_inputs : TallyProblem → Inputs → Problem
with_inputs p inputs = record { old = p.old; limits = p.limits; pricing = p.pricing; inputs = inputs }

-- so many of these inputs fall on each point
abbrev pub AreTallied : TallyProblem → Inputs → Type 0
AreTallied p inputs = p.counts ≡ counts_of inputs (total_weight p.old)

-- what is asked, with the counts of the tally
abbrev pub with_counts : Problem → List ℕ → TallyProblem
with_counts p counts = record { old = p.old; limits = p.limits; pricing = p.pricing; counts = counts }

-- the tally is of the request's page, and of the total that is planned on
abbrev pub of_place : Refining → PageTally → Place → Result (Unit {0}) RolloutFault
of_place refining t place = if page_eq place.page t.page && (total_weight place.entries * factor refining (total_weight place.entries) == t.total) then Ok tt else Err OtherTally

abbrev pub tally_problem_at : Refining → PageTally → Asked → Place → Result TallyProblem RolloutFault
tally_problem_at refining t asked place =
    and_then (weighed place.entries) (λ _.
    and_then (of_place refining t place) (λ _.
    and_then (problem_on refining [] asked place) (λ p. Ok (with_counts p t.counts))))

-- what is asked of a tally by a request that was read, or its first refusal: those of a request on a book, and after that of the weight another tally
abbrev pub tally_problem_asked : Refining → Definitions → Asked → PageTally → Result TallyProblem RolloutFault
tally_problem_asked refining flags asked t = and_then (place_of flags asked.flag asked.site) (λ place. tally_problem_at refining t asked place)

-- What the bytes of a request ask of a tally, or its first refusal: the request itself, and then as of one that was read.
abbrev pub tally_problem_of : Refining → Definitions → List ℕ → PageTally → Result TallyProblem RolloutFault
tally_problem_of refining flags bytes t = and_then (by_price (asked_of bytes)) (λ asked. tally_problem_asked refining flags asked t)

-- of the program
abbrev pub tally_view : program.Problem → TallyProblem
tally_view p = record { old = p.old; limits = p.totals; pricing = p.request.now.prices; counts = p.counts.items }

-- What is told of an answer: the refusal of the request where it is not lawful; else that the answer is right for all inputs of
-- which so many fall on each point, or the check's refusal for all of them. Want of memory may come of either.
abbrev pub IsTallyOutcome : Result TallyProblem RolloutFault → Answer → Result (Unit {0}) VerifyFault → Type 0
IsTallyOutcome (Err f) answer (Ok u) = ⊥
IsTallyOutcome (Err f) answer (Err (Request e)) = e ≢ WantOfMemory → e ≡ f
IsTallyOutcome (Err f) answer (Err (Check e)) = ⊥
IsTallyOutcome (Ok p) answer (Ok u) = (inputs : Inputs) → AreTallied p inputs → Proves (with_inputs p inputs) answer
IsTallyOutcome (Ok p) answer (Err (Request e)) = e ≡ WantOfMemory
IsTallyOutcome (Ok p) answer (Err (Check e)) = (inputs : Inputs) → AreTallied p inputs → Denies (with_inputs p inputs) answer e

-- what an accepted answer shows of all these inputs
abbrev pub IsTallyShown : Result TallyProblem RolloutFault → Answer → Type 0
IsTallyShown (Ok p) answer = (inputs : Inputs) → AreTallied p inputs → IsLawful (with_inputs p inputs) × Shows (with_inputs p inputs) answer
IsTallyShown (Err f) answer = ⊥
