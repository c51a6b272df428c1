-- What is posed of a request, by how many inputs fall on each point.
use Rattle.std.proofs.Common.{◌≡◌, ◌∙◌, ℕ, List, ap, arith, subst, sym}
use Rattle.std.specs.Prelude.{IfOk, Option, Result, Ok, Err}
use Rattle.bucket_core.specs.Rule.{total_weight}
use Rattle.flag_defs.specs.Document.{Definitions}
use Rattle.flag_text.specs.Outcome.{GivesUnless}
use Rattle.flagops_files.specs.declared.evidence.Evidence.{Evidence}
use Rattle.flagops_files.specs.declared.evidence.Evidence.TheVariants.{Book, Tally}
use Rattle.flagops_pictures.specs.Asked.{asked_by, asked_on, by_counts}
use Rattle.flagops_ramps.specs.Ramp.{recorded}
use Rattle.flagops_rollouts.specs.Verify.{IsShownOn}
use Rattle.plan_text.specs.Answer.{Answer}
use Rattle.price_core.specs.Request.{Asked, asked_of}
use Rattle.price_core.specs.declared.fault.PriceFault.{PriceFault}
use Rattle.ramp.specs.Ramp.{Recorded, in_book, in_tally}
use Rattle.ramp.specs.Right.{IsStepShown}
use Rattle.rollout.specs.Fault.{of_price}
use Rattle.rollout.specs.Lawful.{PosesUnless, Problem, and_then, by_price, problem_asked, problem_of, problem_view}
use Rattle.rollout.specs.Refined.{refining_checked}
use Rattle.rollout.specs.CheckedTally.{IsTallyShown, TallyProblem, tally_problem_asked, tally_view, with_counts}
use Rattle.rollout.specs.Verified.{IsShown}
use Rattle.rollout.specs.declared.fault.RolloutFault.{RolloutFault}
use Rattle.rollout.specs.declared.fault.RolloutFault.TheVariants.{WantOfMemory}
use Rattle.rollout.specs.declared.problem.Problem as program
use Rattle.rollout.specs.declared.refining.Refining.{Refining}
use Rattle.transport_core.proofs.Costs.{tally_of}
use Rattle.transport_core.specs.Tally.{IsTally}

-- what the bytes of a request ask is what is asked by the request that was read of them
pub posed_as : (refining : Refining) (flags : Definitions) (bytes : List ℕ) (asked : Asked) (held : Recorded) → asked_of bytes ≡ Ok asked → asked_on refining flags bytes held ≡ asked_by refining flags asked held
posed_as refining flags bytes asked (in_book book) is = ap (λ (r : Result Asked PriceFault). by_counts (and_then (by_price r) (λ a. problem_asked refining flags a book))) is
posed_as refining flags bytes asked (in_tally t) is = ap (λ (r : Result Asked PriceFault). and_then (by_price r) (λ a. tally_problem_asked refining flags a t)) is

-- what is posed of a book, by its counts
pub gives : (asked : Result Problem RolloutFault) (r : Result program.Problem RolloutFault) → PosesUnless WantOfMemory r asked → GivesUnless WantOfMemory tally_view r (by_counts asked)
gives asked (Ok p) posed = ap by_counts posed.is ∙ ap (λ (counts : List ℕ). Ok (with_counts (problem_view p posed.inputs) counts)) (sym posed.counted)
gives asked (Err e) posed = λ other. ap by_counts (posed other)

-- there is a number for each point, and no more in all than a page takes
pub tallied : (asked : Result Problem RolloutFault) (r : Result program.Problem RolloutFault) → PosesUnless WantOfMemory r asked → IfOk r (λ p. IsTally (total_weight p.old) p.counts.items)
tallied asked (Ok p) posed = tally_of posed.inputs (total_weight p.old) p.counts.items posed.counted (omega (arith, posed.few))
tallied asked (Err e) posed = tt

-- ---- an answer that was shown is one to a request that is lawful

differ : {X E : Type 0} {x : X} {e : E} → Ok x ≡ Err e → ⊥
differ same = cc

of_book : (asked : Result Problem RolloutFault) (answer : Answer) (e : RolloutFault) → IsShown asked answer → by_counts asked ≡ Err e → ⊥
of_book (Ok p) answer e shown is = differ is
of_book (Err f) answer e shown is = shown

pub not_refused : (flags : Definitions) (refine : Option ℕ) (request : List ℕ) (held : Recorded) (answer : Answer) (e : RolloutFault) → IsStepShown (Ok flags) refine request held answer → asked_on (refining_checked refine answer) flags request held ≡ Err e → ⊥
not_refused flags refine request (in_book book) answer e shown is = of_book (problem_of (refining_checked refine answer) flags request book) answer e shown is
not_refused flags refine request (in_tally t) answer e shown is = subst (λ (r : Result TallyProblem RolloutFault). IsTallyShown r answer) is shown

-- and so its bytes read as one
pub not_unread : (flags : Definitions) (refine : Option ℕ) (request : List ℕ) (held : Recorded) (answer : Answer) (e : PriceFault) → IsStepShown (Ok flags) refine request held answer → asked_of request ≡ Err e → ⊥
not_unread flags refine request (in_book book) answer e shown is =
    not_refused flags refine request (in_book book) answer (of_price e) shown (ap (λ (r : Result Asked PriceFault). by_counts (and_then (by_price r) (λ a. problem_asked (refining_checked refine answer) flags a book))) is)
not_unread flags refine request (in_tally t) answer e shown is =
    not_refused flags refine request (in_tally t) answer (of_price e) shown (ap (λ (r : Result Asked PriceFault). and_then (by_price r) (λ a. tally_problem_asked (refining_checked refine answer) flags a t)) is)

-- what is shown of an answer to a question is shown of it as the answer to a step
pub shown_step : (refine : Option ℕ) (answer : Answer) (flags : Definitions) (request : List ℕ) (evidence : Evidence) → IsShownOn refine answer flags request evidence → IsStepShown (Ok flags) refine request (recorded evidence) answer
shown_step refine answer flags request (Book book) shown = shown
shown_step refine answer flags request (Tally t) shown = shown
