use Rattle.std.proofs.Common.{◌∙◌, ◌≢◌, ℕ, List, [], ◌∷◌, Ok, ap, rules, string_bytes, subst, sym}
use Rattle.flag_defs.specs.Flags.{flags_view}
use Rattle.flagops_ramps.specs.Ramp.{recorded}
use Rattle.picture.specs.Spelling.{Adds}
use Rattle.picture.specs.Told.{step_told}
use Rattle.plan_text.specs.Answer.{planned_view}
use Rattle.ramp.specs.Ramp.{left_by}
use Rattle.rollout.specs.Refined.{refining_checked}
use Rattle.rollout.specs.declared.fault.RolloutFault.TheVariants.{WantOfMemory}
use Rattle.flagops_pictures.specs.Asked.{asked_on}
use Rattle.flagops_pictures.specs.Pictured.{AddsTold}
use Rattle.flagops_pictures.proofs.Steps.{all_told, if_well, last_told, not_left, others_right}
use Rattle.flagops_pictures.proofs.ramps.+add_steps.Goals as goal

-- a further step stands on flags, since its answer is right
pub unreachable-requires : goal.unreachable-requires
unreachable-requires g t c =
    let a = c.args in
    let p = c.planned-item.result in
    let other : c.in-Err.field-0 ≢ WantOfMemory = search rules in
    not_left (Ok (flags_view a.flags.now)) a.refine a.steps.now (recorded a.evidence.now) a.answers.now c.request-item.result p c.in-len1-up.len_at_least c.request-item.is c.in-len1-up-answers.len_at_least c.planned-item.is c.requires.right c.is_empty.result c.is_empty.ensures c.if-is_empty.false c.in-Err.field-0
    (ap (λ (r : List ℕ). left_by (Ok (flags_view a.flags.now)) r (planned_view p)) (sym c.as_slice-request.ensures.value) ∙ c.in-Err.ensures other)

pub add_steps-requires-clause-right : goal.add_steps-requires-clause-right
add_steps-requires-clause-right g t c κs within =
    let a = c.args in
    let p = c.planned-item.result in
    others_right (Ok (flags_view a.flags.now)) a.refine a.steps.now (recorded a.evidence.now) a.answers.now c.request-item.result p c.in-len1-up.len_at_least c.request-item.is c.in-len1-up-answers.len_at_least c.planned-item.is c.requires.right c.is_empty.result c.is_empty.ensures c.if-is_empty.false (Ok (flags_view c.in-Ok.next))
    (ap (λ (r : List ℕ). left_by (Ok (flags_view a.flags.now)) r (planned_view p)) (sym c.as_slice-request.ensures.value) ∙ c.in-Ok.ensures)

pub returns-then-is_empty : goal.returns-then-is_empty
returns-then-is_empty g t c =
    let a = c.args in
    let p = c.planned-item.result in
    let before = string_bytes c.draw_step.new.pictures in
    let after = string_bytes c.add_picture.new.pictures in
    let first = subst (λ (n : ℕ). Adds a.place.y (step_told n ∷ []) (string_bytes a.pictures.now) before) c.from.ensures c.in_ok-y.ensures.adds in
    let second = subst (λ (r : List ℕ). AddsTold (asked_on (refining_checked a.refine (planned_view p)) (flags_view a.flags.now) r (recorded a.evidence.now)) (planned_view p) c.in_ok-y.y c.in_ok-y-2.y before after) c.as_slice-request.ensures.value c.in_ok-y-2.ensures in
    last_told (Ok (flags_view a.flags.now)) a.refine a.steps.now (recorded a.evidence.now) a.answers.now c.request-item.result p c.in-len1-up.len_at_least c.request-item.is c.in-len1-up-answers.len_at_least c.planned-item.is c.is_empty.result c.is_empty.ensures c.if-is_empty.true a.place.number a.place.y c.in_ok-y.y c.in_ok-y-2.y (string_bytes a.pictures.now) before after first c.in_ok-y.ensures.below second

pub returns : goal.returns
returns g t c =
    let a = c.args in
    let p = c.planned-item.result in
    let before = string_bytes c.draw_step.new.pictures in
    let after = string_bytes c.add_picture.new.pictures in
    let first = subst (λ (n : ℕ). Adds a.place.y (step_told n ∷ []) (string_bytes a.pictures.now) before) c.from.ensures c.in_ok-y.ensures.adds in
    let second = subst (λ (r : List ℕ). AddsTold (asked_on (refining_checked a.refine (planned_view p)) (flags_view a.flags.now) r (recorded a.evidence.now)) (planned_view p) c.in_ok-y.y c.in_ok-y-2.y before after) c.as_slice-request.ensures.value c.in_ok-y-2.ensures in
    let stands = ap (λ (r : List ℕ). left_by (Ok (flags_view a.flags.now)) r (planned_view p)) (sym c.as_slice-request.ensures.value) ∙ c.in-Ok.ensures in
    if_well c.add_steps.result
    (λ end. all_told (Ok (flags_view a.flags.now)) a.refine a.steps.now (recorded a.evidence.now) a.answers.now c.request-item.result p c.in-len1-up.len_at_least c.request-item.is c.in-len1-up-answers.len_at_least c.planned-item.is c.requires.right c.is_empty.result c.is_empty.ensures c.if-is_empty.false
    a.place.number a.place.y c.in_ok-y.y c.in_ok-y-2.y end (string_bytes a.pictures.now) before after (string_bytes c.add_steps.new.pictures) (Ok (flags_view c.in-Ok.next)) stands first c.in_ok-y.ensures.below second)
    c.add_steps.ensures
