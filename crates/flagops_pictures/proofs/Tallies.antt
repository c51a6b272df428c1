-- What is drawn on the tally of some inputs is drawn on a book that has them.
use Rattle.std.proofs.Common.{◌≡◌, ◌∙◌, ℕ, suc, List, [], ◌∷◌, Option, Some, Result, Ok, Err, refl, sym, ap, subst}
use Rattle.book_core.specs.Book.{Contents, inputs_on}
use Rattle.flag_defs.specs.Document.{Definitions}
use Rattle.flagops_pictures.specs.Asked.{asked_on, by_counts, step_asked}
use Rattle.flagops_pictures.specs.Pictured.{IsAnswerTold, IsDrawn}
use Rattle.flagops_pictures.specs.Ramps.{AreTold}
use Rattle.picture.specs.Spelling.{Pictures}
use Rattle.picture.specs.Told.{Item}
use Rattle.plan_text.specs.Answer.{Answer}
use Rattle.ramp.specs.Ramp.{Standing, in_book, in_tally, left_by, still}
use Rattle.rollout.specs.Tallied.{TalliesAskAsBooks}
use Rattle.rollout.specs.Refined.{refining_checked}
use Rattle.rollout.specs.CheckedTally.{TallyProblem, tally_problem_of, with_counts, with_inputs}
use Rattle.rollout.specs.declared.fault.RolloutFault.{RolloutFault}
use Rattle.rollout.specs.declared.refining.Refining.{Refining}
use Rattle.note_tallies.specs.JoinLaw.{IsTallyOf}
use Rattle.note_tallies.specs.Tally.{PageTally}

module _ (asks : TalliesAskAsBooks) (book : Contents) (t : PageTally) (of : IsTallyOf (inputs_on book t.page) t) where
  -- what is asked of the tally is asked of the book
  same_asked : (refining : Refining) (flags : Definitions) (request : List ℕ) (p : TallyProblem) → tally_problem_of refining flags request t ≡ Ok p → asked_on refining flags request (in_book book) ≡ Ok p
  same_asked refining flags request p is =
      let inputs = inputs_on book t.page in
      let both = asks refining flags request book t p of is in
      ap by_counts both.0 ∙ ap (λ (counts : List ℕ). Ok (with_counts (with_inputs p inputs) counts)) (sym both.1)

  -- and so is what is told of its answer
  told_there : (refining : Refining) (flags : Definitions) (request : List ℕ) (answer : Answer) (drawn : ℕ × List Item) (asked : Result TallyProblem RolloutFault) → tally_problem_of refining flags request t ≡ asked → IsAnswerTold asked answer drawn
      → IsAnswerTold (asked_on refining flags request (in_book book)) answer drawn
  told_there refining flags request answer drawn (Ok p) is told = subst (λ (r : Result TallyProblem RolloutFault). IsAnswerTold r answer drawn) (sym (same_asked refining flags request p is)) told
  told_there refining flags request answer drawn (Err e) is told = absurd told

  pub drawn_there : (refining : Refining) (flags : Definitions) (request : List ℕ) (answer : Answer) (bytes : List ℕ) → IsDrawn (asked_on refining flags request (in_tally t)) answer bytes → IsDrawn (asked_on refining flags request (in_book book)) answer bytes
  drawn_there refining flags request answer bytes (drawn, told, picture) = (drawn, told_there refining flags request answer drawn (tally_problem_of refining flags request t) refl told, picture)

  step_there : (standing : Standing) (refine : Option ℕ) (answer : Answer) (request : List ℕ) (drawn : ℕ × List Item) → IsAnswerTold (step_asked standing refine answer request (in_tally t)) answer drawn → IsAnswerTold (step_asked standing refine answer request (in_book book)) answer drawn
  step_there (Ok flags) refine answer request drawn told = told_there (refining_checked refine answer) flags request answer drawn (tally_problem_of (refining_checked refine answer) flags request t) refl told
  step_there (Err e) refine answer request drawn told = told

  pub ramp_there : (standing : Standing) (refine : Option ℕ) (requests : List (List ℕ)) (n : ℕ) (answers : List Answer) (ps : Pictures) → AreTold standing refine requests (in_tally t) n answers ps → AreTold standing refine requests (in_book book) n answers ps
  ramp_there standing refine [] n answers ps told = told
  ramp_there standing refine (request ∷ requests) n [] ps told = told
  ramp_there standing refine (request ∷ requests) n (answer ∷ answers) ps (this, rest, told, others, is) =
      (this, rest, step_there standing refine answer request this told, ramp_there (left_by standing request answer) (Some 1) (still answer requests) (suc n) answers rest others, is)
