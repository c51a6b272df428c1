use Rattle.std.proofs.Common.{◌≡◌, Bool, ℕ, List, Option, Ok, Vec, Global, ap, ap₂, is_some, string_bytes, subst, sym, ◌∙◌}
use Rattle.flagops_files.specs.Question.{question_view}
use Rattle.flagops_shell.specs.declared.refused.Remark.{Remark}
use Rattle.flagops_ramps.specs.Doubts.{doubt_parts_of_steps}
use Rattle.flagops_ramps.specs.Judging.{AreRightAnswers, answered_view}
use Rattle.flagops_ramps.specs.Report.{Came}
use Rattle.flagops_rollouts.specs.Beside.{Tells}
use Rattle.ramp.specs.Steps.{requests_view}
use Rattle.flagops_pictures.specs.Ramps.{IsRampDrawn}
use Rattle.flagops_pictures.proofs.ramps.drawn.Goals as goal

pub sheet-requires-clause-right : goal.sheet-requires-clause-right
sheet-requires-clause-right g c = λ κs within. subst (λ (f : Option ℕ). AreRightAnswers f c.args.right.now) (sym c.factor_number.ensures.value) c.requires.right

pub returns-clause-drawn : goal.returns-clause-drawn
returns-clause-drawn g c =
    let made : List ℕ → Bool → Came = λ t b. Ok (record { text = t; status = 0; is_told = b }) in
    let bytes : c.into_bytes.result.items ≡ string_bytes c.in_ok-text.text = ap (λ (v : Vec ℕ Global). v.items) c.into_bytes.ensures.value in
    let told = c.remark_in.ensures.told ∙ ap is_some (rw c.as_slice-steps.ensures.value at c.in_ok-doubted.ensures.doubt) in
    let drawn = subst (λ (f : Option ℕ). IsRampDrawn f (answered_view c.args.right.now) (string_bytes c.in_ok-text.text)) c.factor_number.ensures.value c.in_ok-text.ensures in
    (string_bytes c.in_ok-text.text, drawn, ap₂ made bytes told)

pub returns-clause-parts : goal.returns-clause-parts
returns-clause-parts g c =
    let a = c.args.right.now in
    let rollout = c.args.asked.now.rollout in
    let parts = doubt_parts_of_steps rollout.steps.now rollout.book.now (question_view a.question) (requests_view a.steps.items) in
    subst (λ (m : Option Remark). Tells parts m) (sym c.remark_in.ensures.remark) (rw c.as_slice-steps.ensures.value at c.in_ok-doubted.ensures.parts)
