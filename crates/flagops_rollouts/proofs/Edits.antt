-- What is told of the edit that comes to mind first.
use Rattle.std.proofs.Common.{◌≡◌, ◌++◌, ◌∙◌, ap, append-nil, ℕ, Bool, true, List, [], IfSome, Option, Some, None, subst, sym}
use Rattle.std.specs.Prelude.{IfOk, Result, Ok, Err, String, string_bytes, sum}
use Rattle.std.specs.declared.alloc.Global.{Global}
use Rattle.bucket_core.specs.Rule.{Entries}
use Rattle.rule_switches.specs.Edit.{IsObvious}
use Rattle.std.proofs.lemmas.List.{append_assoc}
use Rattle.file_diagnostics.specs.Named.{Names}
use Rattle.plan_text.specs.Answer.{Answer}
use Rattle.flagops_files.specs.Question.{Question}
use Rattle.flagops_rollouts.specs.ByHand.{IsEditLine, IsEditOf, IsSwitched, TellsEdit, TellsPlanned, TellsPlannedAt, edit_line}
use Rattle.flagops_rollouts.specs.Doubts.{IsLonger}
use Rattle.flagops_rollouts.specs.Loaded.{IsQuestionAt}
use Rattle.flagops_rollouts.specs.Plan.{Holds}
use Rattle.flagops_shell.specs.Files.{Holding}
use Rattle.flagops_rollouts.specs.Refusal.{Refused}
use Rattle.flagops_shell.specs.declared.outcome.Outcome.{Outcome}
use Rattle.flagops_rollouts.proofs.Doubting.{named_still}
use Rattle.flagops_shell.specs.Diagnostic.{Says}
use Rattle.flagops_shell.specs.declared.refused.Remark.{Remark}
use Rattle.flagops_shell.specs.declared.refused.Remark.TheVariants.{Short, Lines}

module _ (path : List ℕ) (q : Question) (m : ℕ) (answer : Answer) where
  -- the line behind the answer in words
  pub tells : (front line whole : List ℕ) → Names path front → IsEditOf q m answer line → whole ≡ front ++ line → TellsEdit path q m answer whole
  unfolding TellsEdit
  tells front line whole named edit is = (front, line, [], named, edit, is ∙ ap (λ (l : List ℕ). front ++ l) (sym (append-nil line)))

  named_by : (lines : List ℕ) → TellsEdit path q m answer lines → Names path lines
  unfolding TellsEdit
  named_by lines (front, line, more, named, edit, is) = named_still path front (line ++ more) lines named is

  -- such lines name the request
  pub names : (remark : Remark) → Says (TellsEdit path q m answer) remark → Says (Names path) remark
  names Short told = tt
  names (Lines lines) told = named_by _ told

  longer : (lines others whole : List ℕ) → TellsEdit path q m answer lines → whole ≡ lines ++ others → TellsEdit path q m answer whole
  unfolding TellsEdit
  longer lines others whole (front, line, more, named, edit, is) behind =
      (front, line, more ++ others, named, edit, behind ∙ ap (λ (l : List ℕ). l ++ others) is ∙ append_assoc front (line ++ more) others ∙ ap (λ (l : List ℕ). front ++ l) (append_assoc line more others))

  -- and do so with more behind them
  pub still : (remark whole : Remark) → Says (TellsEdit path q m answer) remark → IsLonger remark whole → Says (TellsEdit path q m answer) whole
  still remark Short told more = tt
  still Short (Lines lines) told more = absurd more
  still (Lines lines) (Lines whole) told (others, is) = longer _ others _ told is

  planned_by : (text : List ℕ) (remark : Remark) → Holds answer text → Says (TellsEdit path q m answer) remark → Says (TellsPlanned path q m text) remark
  unfolding TellsPlanned
  planned_by text Short holds told = tt
  planned_by text (Lines lines) holds told = (answer, holds, told)

  planned_some : (text : List ℕ) (remark : Option Remark) → Holds answer text → IfSome remark (Says (TellsEdit path q m answer)) → IfSome remark (Says (TellsPlanned path q m text))
  planned_some text None holds told = tt
  planned_some text (Some remark) holds told = planned_by text remark holds told

  -- beside the text of the answer
  pub planned : (explain : Bool) (remark : Option Remark) (r : Result Outcome Refused) → (explain ≡ true → IfSome remark (Says (TellsEdit path q m answer))) → IfOk r (λ o. Holds answer o.text.items) → IfOk r (λ o. o.remark ≡ remark)
      → explain ≡ true → IfOk r (λ o. IfSome o.remark (Says (TellsPlanned path q m o.text.items)))
  planned explain remark (Ok o) told holds same is =
      subst (λ (x : Option Remark). IfSome x (Says (TellsPlanned path q m o.text.items))) (sym same) (planned_some o.text.items remark holds (told is))
  planned explain remark (Err e) told holds same is = tt

-- and of the files that they were loaded from
module _ (floats : Bool) (document request book : List ℕ) (m : ℕ) (q : Question) where
  at_one : (at : Holding) (text : List ℕ) (remark : Option Remark) → IsQuestionAt floats at document request book (Ok q) → IfSome remark (Says (TellsPlanned request q m text)) → IfSome remark (Says (TellsPlannedAt floats at document request book m text))
  unfolding TellsPlannedAt
  at_one at text None asked told = tt
  at_one at text (Some Short) asked told = tt
  at_one at text (Some (Lines lines)) asked told = (q, asked, told)

  pub planned_at : (explain : Bool) (old : Option Holding) (r : Result Outcome Refused) → IfSome old (λ at. IsQuestionAt floats at document request book (Ok q)) → (explain ≡ true → IfOk r (λ o. IfSome o.remark (Says (TellsPlanned request q m o.text.items))))
      → explain ≡ true → IfSome old (λ at. IfOk r (λ o. IfSome o.remark (Says (TellsPlannedAt floats at document request book m o.text.items))))
  planned_at explain None r asked told is = tt
  planned_at explain (Some at) (Ok o) asked told is = at_one at o.text.items o.remark asked (told is)
  planned_at explain (Some at) (Err e) asked told is = tt

-- ---- the line

pub compared : {E : Type 0} (before after : Entries) (counts : List ℕ) (by_hand all by_plan : ℕ) (r : Result (String Global) E) → IsObvious before after counts by_hand → IsSwitched before after counts by_plan → all ≡ sum counts
    → IfOk r (λ s. string_bytes s ≡ edit_line by_hand all by_plan) → IfOk r (λ s. IsEditLine true before after counts (string_bytes s))
compared before after counts by_hand all by_plan (Ok s) obvious switches sums is = (by_hand, by_plan, obvious, switches, is ∙ ap (λ (n : ℕ). edit_line by_hand n by_plan) sums)
compared before after counts by_hand all by_plan (Err e) obvious switches sums is = tt
