-- What a person is told beside the answers to steps, of the files that they are answers to.
use Rattle.std.proofs.Common.{◌≡◌, ◌||◌, ap, ℕ, Bool, true, false, List, [], ◌∷◌, Option, Some, None, IfSome, map, refl, sym, subst}
use Rattle.std.specs.Prelude.{IfOk, Result, Ok, Err, is_some, slice_get}
use Rattle.std.specs.Result.{result_ok}
use Rattle.file_diagnostics.specs.Named.{Names}
use Rattle.flag_defs.specs.Document.{Definitions}
use Rattle.flag_text.specs.Reading.{tree_of}
use Rattle.flagops_files.specs.Documents.{IsDocumentAs}
use Rattle.flagops_files.specs.Loading.{max_text}
use Rattle.flagops_files.specs.Question.{IsQuestionAt, Question}
use Rattle.flagops_shell.specs.Diagnostic.{Says}
use Rattle.flagops_shell.specs.Files.{Holding, load_of}
use Rattle.flagops_shell.specs.declared.outcome.Outcome.{Outcome}
use Rattle.flagops_shell.specs.declared.refused.Remark.{Remark}
use Rattle.plan_text.specs.Answer.{Answer, planned_view}
use Rattle.plan_text.specs.declared.planned.Planned.{Planned}
use Rattle.price_core.specs.Request.{asked_of}
use Rattle.ramp.specs.declared.fault.RampFault.{RampFault}
use Rattle.ramp.specs.Steps.{steps_of}
use Rattle.ramp.specs.declared.file_fault.StepsFault.{StepsFault}
use Rattle.member_names.specs.Repeated.{is_repeating}
use Rattle.flagops_rollouts.specs.Beside.{AreBehind, AreBoth, Tells, noted_with, part_if}
use Rattle.flagops_rollouts.specs.Finer.{finer_parts, is_finer, times_asked}
use Rattle.flagops_rollouts.specs.Remarks.{applied_parts}
use Rattle.flagops_rollouts.proofs.Parts.{behind_nothing, tells_both, tells_one}
use Rattle.flagops_ramps.specs.Apply.{answer_to}
use Rattle.flagops_ramps.specs.Doubts.{doubt_parts_of_steps, first_request, if_read, steps_parts}
use Rattle.flagops_ramps.specs.Judging.{Answered, IsFoundAt, IsFoundOf, IsFoundOver, answers_at, found_as}
use Rattle.flagops_ramps.specs.Keep.{is_finer_put}
use Rattle.flagops_ramps.specs.Ramp.{Holds, is_finer_ramp}
use Rattle.flagops_ramps.specs.Refusal.{is_want}
use Rattle.flagops_ramps.specs.Remarks.{TellsKeepAt, TellsKeepFrom, TellsRampAt, TellsRampOf, TellsStepAt, TellsStepFrom, TellsStepOf, TellsVerdictAt, keep_parts, put_finer_parts, ramp_finer_parts, ramp_parts}
use Rattle.flagops_ramps.specs.Report.{GivesUnlessWant, Told}
use Rattle.flagops_ramps.specs.Words.{Applying, Keeping, Ramping, Verifying}
use Rattle.flagops_ramps.specs.declared.refusal.RampRefusal.{RampRefusal}

differ : {X E Y : Type 0} {x : X} {e : E} → Ok x ≡ Err e → Y
differ same = cc

-- ---- doubts of a file of steps

pub steps_told : (path bytes : List ℕ) (unread repeated whole : Option Remark) → is_some unread ≡ if_read (tree_of bytes max_text) → IfSome unread (Says (Names path)) → is_some repeated ≡ is_repeating bytes → IfSome repeated (Says (Names path))
    → AreBoth unread repeated whole → Tells (steps_parts path bytes) whole
steps_told path bytes unread repeated whole one named two also both =
    tells_both (part_if (if_read (tree_of bytes max_text)) (Names path)) (part_if (is_repeating bytes) (Names path)) unread repeated whole
    (tells_one (if_read (tree_of bytes max_text)) (Names path) unread one named) (tells_one (is_repeating bytes) (Names path) repeated two also) both

-- ---- `ramp`

module _ (a : Ramping) (q : Question) where
  ramp_of : (requests : List (List ℕ)) (answers : List Answer) (text : List ℕ) (told : Option Remark) → steps_of q.request ≡ Ok requests → Holds answers text → Tells (ramp_parts a q requests answers) told → TellsRampOf a q text told
  unfolding TellsRampOf
  ramp_of requests answers text told steps holds tells = (requests, answers, steps, holds, tells)

  pub ramp_said : (made : Question) (requests : List (List ℕ)) (answers : List Answer) (r : Result Outcome Told) → made ≡ q → steps_of q.request ≡ Ok requests → IfOk r (λ o. Holds answers o.text.items) → IfOk r (λ o. Tells (ramp_parts a made requests answers) o.remark)
      → IfOk r (λ o. TellsRampOf a q o.text.items o.remark)
  ramp_said made requests answers (Ok o) same steps holds tells =
      ramp_of requests answers o.text.items o.remark steps holds (subst (λ (it : Question). Tells (ramp_parts a it requests answers) o.remark) same tells)
  ramp_said made requests answers (Err t) same steps holds tells = tt

  ramp_there : (at : Holding) (r : Result Outcome Told) → IsQuestionAt a.floats at a.document a.steps a.book (Ok q) → IfOk r (λ o. TellsRampOf a q o.text.items o.remark) → IfOk r (λ o. TellsRampAt at a o.text.items o.remark)
  unfolding TellsRampAt
  ramp_there at (Ok o) asked told = (q, asked, told)
  ramp_there at (Err t) asked told = tt

  pub ramp_said_at : (old : Option Holding) (r : Result Outcome Told) → IfSome old (λ at. IsQuestionAt a.floats at a.document a.steps a.book (Ok q)) → IfOk r (λ o. TellsRampOf a q o.text.items o.remark) → IfSome old (λ at. IfOk r (λ o. TellsRampAt at a o.text.items o.remark))
  ramp_said_at None r asked told = tt
  ramp_said_at (Some at) r asked told = ramp_there at r asked told

-- ---- `verify-ramp`

module _ (v : Verifying) (a : Answered) (at : Holding) (told : Option Remark) (tells : Tells (doubt_parts_of_steps v.rollout.steps v.rollout.book a.question a.requests) told) where
  abbrev IsAsked : Question → Type 0
  IsAsked q = IsQuestionAt v.rollout.floats at v.rollout.document v.rollout.steps v.rollout.book (Ok q)

  by_verdict : (q : Question) (requests : List (List ℕ)) (answers : List Answer) (u : Result (Unit {0}) RampFault) → IsAsked q → steps_of q.request ≡ Ok requests → Ok a ≡ found_as (record { question = q; requests = requests; answers = answers }) u → TellsVerdictAt at v told
  unfolding TellsVerdictAt
  by_verdict q requests answers (Ok u) asked steps is =
      let found : Answered = record { question = q; requests = requests; answers = answers } in
      let same : a ≡ found = cc in
      (q, requests, asked, steps, subst (λ (it : Answered). Tells (doubt_parts_of_steps v.rollout.steps v.rollout.book it.question it.requests) told) same tells)
  by_verdict q requests answers (Err e) asked steps is = differ is

  by_steps : (q : Question) (answers : List Answer) (steps : Result (List (List ℕ)) StepsFault) → steps_of q.request ≡ steps → IsAsked q → IsFoundOver v.rollout.refine q answers steps (Ok a) → TellsVerdictAt at v told
  by_steps q answers (Err e) is asked found = differ found
  by_steps q answers (Ok requests) is asked (u, judged, found) = by_verdict q requests answers u asked is found

  by_answers : (q : Question) (answers : Result (List Answer) RampRefusal) → IsAsked q → IsFoundOf v.rollout.refine (Ok q) answers (Ok a) → TellsVerdictAt at v told
  by_answers q (Err e) asked found = differ found
  by_answers q (Ok answers) asked found = by_steps q answers (steps_of q.request) refl asked found

  found_told : IsFoundAt at v (Ok a) → TellsVerdictAt at v told
  unfolding IsFoundAt
  found_told (Err e, asked, found) = differ found
  found_told (Ok q, asked, found) = by_answers q (answers_at at v.ramp) asked found

pub verdict_said_at : (v : Verifying) (a : Answered) (old : Option Holding) (r : Result Outcome Told) → IfSome old (λ at. IsFoundAt at v (Ok a)) → IfOk r (λ o. Tells (doubt_parts_of_steps v.rollout.steps v.rollout.book a.question a.requests) o.remark)
    → IfSome old (λ at. IfOk r (λ o. TellsVerdictAt at v o.remark))
verdict_said_at v a None r found told = tt
verdict_said_at v a (Some at) (Ok o) found told = found_told v a at o.remark told found
verdict_said_at v a (Some at) (Err t) found told = tt

-- ---- `apply --step --keep`

module _ (k : Keeping) (q : Question) where
  -- of a question whose book was made to count
  pub keep_counted : (made : Question) (requests : List (List ℕ)) (answers : List Answer) (r : Result Outcome Told) → made ≡ q → IfOk r (λ o. Tells (keep_parts k made requests answers) o.remark) → IfOk r (λ o. Tells (keep_parts k q requests answers) o.remark)
  keep_counted made requests answers (Ok o) same told = subst (λ (it : Question). Tells (keep_parts k it requests answers) o.remark) same told
  keep_counted made requests answers (Err t) same told = tt

  keep_from : (at : Holding) (requests : List (List ℕ)) (answers : List Answer) (r : Result Outcome Told) → answers_at at k.answered.ramp ≡ Ok answers → steps_of q.request ≡ Ok requests → IfOk r (λ o. Tells (keep_parts k q requests answers) o.remark)
      → IfOk r (λ o. TellsKeepFrom at k q o.remark)
  unfolding TellsKeepFrom
  keep_from at requests answers (Ok o) read steps told = (requests, answers, read, steps, told)
  keep_from at requests answers (Err t) read steps told = tt

  pub keep_said_from : (old : Option Holding) (requests : List (List ℕ)) (answers : List Answer) (r : Result Outcome Told) → IfSome old (λ at. answers_at at k.answered.ramp ≡ Ok answers) → steps_of q.request ≡ Ok requests
      → IfOk r (λ o. Tells (keep_parts k q requests answers) o.remark) → IfSome old (λ at. IfOk r (λ o. TellsKeepFrom at k q o.remark))
  keep_said_from None requests answers r read steps told = tt
  keep_said_from (Some at) requests answers r read steps told = keep_from at requests answers r read steps told

  keep_there : (at : Holding) (r : Result Outcome Told) → IsQuestionAt k.answered.rollout.floats at k.answered.rollout.document k.answered.rollout.steps k.answered.rollout.book (Ok q) → IfOk r (λ o. TellsKeepFrom at k q o.remark) → IfOk r (λ o. TellsKeepAt at k o.remark)
  unfolding TellsKeepAt
  keep_there at (Ok o) asked told = (q, asked, told)
  keep_there at (Err t) asked told = tt

  pub keep_said_at : (old mid : Option Holding) (r : Result Outcome Told) → mid ≡ old → IfSome old (λ at. IsQuestionAt k.answered.rollout.floats at k.answered.rollout.document k.answered.rollout.steps k.answered.rollout.book (Ok q)) → IfSome mid (λ at. IfOk r (λ o. TellsKeepFrom at k q o.remark))
      → IfSome old (λ at. IfOk r (λ o. TellsKeepAt at k o.remark))
  keep_said_at old mid r same asked told = go old asked (subst (λ (h : Option Holding). IfSome h (λ at. IfOk r (λ o. TellsKeepFrom at k q o.remark))) same told)
    where
      go : (h : Option Holding) → IfSome h (λ at. IsQuestionAt k.answered.rollout.floats at k.answered.rollout.document k.answered.rollout.steps k.answered.rollout.book (Ok q)) → IfSome h (λ at. IfOk r (λ o. TellsKeepFrom at k q o.remark)) → IfSome h (λ at. IfOk r (λ o. TellsKeepAt at k o.remark))
      go None asked told = tt
      go (Some at) asked told = keep_there at r asked told

-- ---- `apply --step`

module _ (a : Applying) (document : List ℕ) (flags : Definitions) where
  step_of : (answers : List Answer) (answer : Answer) (told : Option Remark) → Some answer ≡ answer_to answers a.step → Tells (applied_parts a.floats a.document document flags a.key a.site answer) told → TellsStepOf a document flags answers told
  unfolding TellsStepOf
  step_of answers answer told is tells = (answer, is, tells)

  pub step_said : (answers : List Answer) (answer : Answer) (r : Result Outcome Told) → Some answer ≡ answer_to answers a.step → IfOk r (λ o. Tells (applied_parts a.floats a.document document flags a.key a.site answer) o.remark) → IfOk r (λ o. TellsStepOf a document flags answers o.remark)
  step_said answers answer (Ok o) is tells = step_of answers answer o.remark is tells
  step_said answers answer (Err t) is tells = tt

  step_from : (at : Holding) (answers : List Answer) (r : Result Outcome Told) → answers_at at a.ramp ≡ Ok answers → IfOk r (λ o. TellsStepOf a document flags answers o.remark) → IfOk r (λ o. TellsStepFrom at a document flags o.remark)
  unfolding TellsStepFrom
  step_from at answers (Ok o) read told = (answers, read, told)
  step_from at answers (Err t) read told = tt

  pub step_said_from : (old : Option Holding) (answers : List Answer) (r : Result Outcome Told) → IfSome old (λ at. answers_at at a.ramp ≡ Ok answers) → IfOk r (λ o. TellsStepOf a document flags answers o.remark) → IfSome old (λ at. IfOk r (λ o. TellsStepFrom at a document flags o.remark))
  step_said_from None answers r read told = tt
  step_said_from (Some at) answers r read told = step_from at answers r read told

  step_there : (at : Holding) (r : Result Outcome Told) → load_of at a.document max_text ≡ Ok document → IsDocumentAs a.floats at a.document (Ok flags) → IfOk r (λ o. TellsStepFrom at a document flags o.remark) → IfOk r (λ o. TellsStepAt at a o.remark)
  unfolding TellsStepAt
  step_there at (Ok o) bytes loaded told = (document, flags, bytes, loaded, told)
  step_there at (Err t) bytes loaded told = tt

  pub step_said_at : (old mid : Option Holding) (r : Result Outcome Told) → mid ≡ old → IfSome old (λ at. load_of at a.document max_text ≡ Ok document) → IfSome old (λ at. IsDocumentAs a.floats at a.document (Ok flags)) → IfSome mid (λ at. IfOk r (λ o. TellsStepFrom at a document flags o.remark))
      → IfSome old (λ at. IfOk r (λ o. TellsStepAt at a o.remark))
  step_said_at old mid r same bytes loaded told = go old bytes loaded (subst (λ (h : Option Holding). IfSome h (λ at. IfOk r (λ o. TellsStepFrom at a document flags o.remark))) same told)
    where
      go : (h : Option Holding) → IfSome h (λ at. load_of at a.document max_text ≡ Ok document) → IfSome h (λ at. IsDocumentAs a.floats at a.document (Ok flags)) → IfSome h (λ at. IfOk r (λ o. TellsStepFrom at a document flags o.remark)) → IfSome h (λ at. IfOk r (λ o. TellsStepAt at a o.remark))
      go None bytes loaded told = tt
      go (Some at) bytes loaded told = step_there at r bytes loaded told

-- ---- finer points, once

module _ (path : List ℕ) (m : ℕ) (noted told : Option Remark) where
  abbrev IsBehind : List Answer → Type 0
  IsBehind answers = AreBehind (ramp_finer_parts path m answers) noted told

  abbrev IsShown : List Answer → Type 0
  IsShown answers = is_some told ≡ (is_some noted || is_finer_ramp m answers)

  pub ramp_first : (planned : List Planned) (first : Planned) → Some first ≡ slice_get planned 0 → AreBehind (finer_parts path m (planned_view first)) noted told → IsBehind (map planned_view planned)
  ramp_first [] first is behind = cc
  ramp_first (p ∷ ps) first is behind =
      let same : first ≡ p = cc in
      subst (λ (x : Planned). AreBehind (finer_parts path m (planned_view x)) noted told) same behind

  pub ramp_shown : (planned : List Planned) (first : Planned) → Some first ≡ slice_get planned 0 → is_some told ≡ (is_some noted || is_finer m (planned_view first)) → IsShown (map planned_view planned)
  ramp_shown [] first is shown = cc
  ramp_shown (p ∷ ps) first is shown =
      let same : first ≡ p = cc in
      subst (λ (x : Planned). is_some told ≡ (is_some noted || is_finer m (planned_view x))) same shown

or_false : (b : Bool) → b ≡ (b || false)
or_false true = refl
or_false false = refl

pub ramp_none : (path : List ℕ) (m : ℕ) (noted : Option Remark) (planned : List Planned) → None ≡ slice_get planned 0 → AreBehind (ramp_finer_parts path m (map planned_view planned)) noted noted
ramp_none path m noted [] is = behind_nothing noted
ramp_none path m noted (p ∷ ps) is = cc

pub ramp_unshown : (m : ℕ) (noted : Option Remark) (planned : List Planned) → None ≡ slice_get planned 0 → is_some noted ≡ (is_some noted || is_finer_ramp m (map planned_view planned))
ramp_unshown m noted [] is = or_false (is_some noted)
ramp_unshown m noted (p ∷ ps) is = cc

-- the same of a rule that is put
module _ (path : List ℕ) (flags : Definitions) (requests : List (List ℕ)) where
  abbrev times : Planned → ℕ
  times p = times_asked flags (result_ok (asked_of (first_request requests))) (planned_view p)

  pub put_first : (noted told : Option Remark) (planned : List Planned) (first : Planned) → Some first ≡ slice_get planned 0 → AreBehind (finer_parts path (times first) (planned_view first)) noted told → AreBehind (put_finer_parts path flags requests (map planned_view planned)) noted told
  put_first noted told [] first is behind = cc
  put_first noted told (p ∷ ps) first is behind =
      let same : first ≡ p = cc in
      subst (λ (x : Planned). AreBehind (finer_parts path (times x) (planned_view x)) noted told) same behind

  pub put_shown : (noted told : Bool) (planned : List Planned) (first : Planned) → Some first ≡ slice_get planned 0 → told ≡ (noted || is_finer (times first) (planned_view first)) → told ≡ (noted || is_finer_put flags requests (map planned_view planned))
  put_shown noted told [] first is shown = cc
  put_shown noted told (p ∷ ps) first is shown =
      let same : first ≡ p = cc in
      subst (λ (x : Planned). told ≡ (noted || is_finer (times x) (planned_view x))) same shown

  pub put_none : (noted : Option Remark) (planned : List Planned) → None ≡ slice_get planned 0 → AreBehind (put_finer_parts path flags requests (map planned_view planned)) noted noted
  put_none noted [] is = behind_nothing noted
  put_none noted (p ∷ ps) is = cc

  pub put_unshown : (noted : Bool) (planned : List Planned) → None ≡ slice_get planned 0 → noted ≡ (noted || is_finer_put flags requests (map planned_view planned))
  put_unshown noted [] is = or_false noted
  put_unshown noted (p ∷ ps) is = cc

-- ---- what is settled

pub not_noted : (more : Bool) (settled : Result Bool RampRefusal) (t : Told) (r : Result (Option Remark) Told) → r ≡ Err t → (is_want t.refusal ≡ false → settled ≡ Err t.refusal) → GivesUnlessWant (λ x. is_some x) r (noted_with more settled)
not_noted more settled t r is refused = subst (λ (s : Result (Option Remark) Told). GivesUnlessWant (λ x. is_some x) s (noted_with more settled)) (sym is) (λ wanted. ap (noted_with more) (refused wanted))

-- beside a refusal nothing is told
pub nothing_said : (P : Holding → Outcome → Type 0) (old : Option Holding) (t : Told) (r : Result Outcome Told) → r ≡ Err t → IfSome old (λ at. IfOk r (P at))
nothing_said P None t r is = tt
nothing_said P (Some at) t r is = subst (λ (s : Result Outcome Told). IfOk s (P at)) (sym is) tt
