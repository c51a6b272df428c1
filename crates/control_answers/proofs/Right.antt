-- What is found right is right for the inputs that the files hold.
use Rattle.std.proofs.Common.{◌≡◌, ◌⊎◌, ℕ, List, true, false, Option, Some, None, Result, Ok, Err, inl, inr, refl, subst}
use Rattle.book_core.specs.Book.{Inputs}
use Rattle.book_core.specs.Page.{PageName}
use Rattle.flag_defs.specs.Document.{Definitions}
use Rattle.note_streams.specs.LogRecorded.{IsRecordTally, IsTallyOfHashes, IsTallyOfInputs}
use Rattle.note_streams.specs.Tallies.{TalliesFiles}
use Rattle.note_streams.specs.declared.log_fault.LogTallyFault.{LogTallyFault}
use Rattle.plan_text.specs.Answer.{Answer}
use Rattle.plan_text.specs.PlanFile.{answer_of}
use Rattle.plan_text.specs.declared.fault.PlanFileFault.{PlanFileFault}
use Rattle.rollout.specs.Tallied.{TalliesAskAsBooks}
use Rattle.rollout.specs.CheckedTally.{IsTallyShown, TallyProblem, tally_problem_of}
use Rattle.rollout.specs.Verified.{refining_for}
use Rattle.rollout.specs.declared.fault.RolloutFault.{RolloutFault}
use Rattle.rollout.specs.declared.verify_fault.VerifyFault.{VerifyFault}
use Rattle.note_tallies.specs.JoinLaw.{HashesStandForInputs, IsTallyOf}
use Rattle.note_tallies.specs.Tally.{PageTally}
use Rattle.control_answers.proofs.Tallied.{tallied}
use Rattle.control_answers.specs.Apply.{Applied, IsApplied, IsAppliedOf, IsAppliedOn, IsApplyOf, WhereRight, given, unless_doubted}
use Rattle.control_answers.specs.Check.{IsVerdictOf, IsVerdictOn, MayBeTold, WithAnswer, valid_text, verdict_report}
use Rattle.control_answers.specs.Doubts.{doubt_of}
use Rattle.control_answers.specs.Kept.{IsChanged}
use Rattle.control_answers.specs.Law.{AppliedPlansAreRight, ChecksAreOfTheRecord, IsRightApplied, IsRightFor, IsRightForHashes, IsRightForInputs, IsRightOnRecord, IsRightPlan}
use Rattle.control_answers.specs.Snapshot.{Snapshot}
use Rattle.control_answers.specs.Target.{Target, target_of}
use Rattle.control_answers.specs.Token.{IsToken, Token, is_tag_of}
use Rattle.control_answers.specs.Turns.{OfFiles, WithTally, WithTarget}
use Rattle.control_answers.specs.declared.refusal.ControlRefusal.{ControlRefusal}
use Rattle.control_answers.specs.declared.refusal.ControlRefusal.TheVariants.{OtherDocument}

module _ (law : TalliesAskAsBooks) (hashes : HashesStandForInputs) (flags : Definitions) (request : List ℕ) (files : List (List ℕ)) (answer : Answer) where
  module _ (t : PageTally) (problem : TallyProblem) (asks : tally_problem_of (refining_for answer) flags request t ≡ Ok problem) (shown : IsTallyShown (Ok problem) answer) where
    right_for : (inputs : Inputs) → IsTallyOf inputs t → IsRightFor problem answer inputs
    right_for inputs is =
        let are = tallied law (refining_for answer) flags request t problem inputs is asks in
        record { tallied = are; lawful = (shown inputs are).0; shown = (shown inputs are).1 }

    of_kind : (page : PageName) → IsTallyOfInputs files page t ⊎ IsTallyOfHashes files page t → IsRightForInputs files page problem answer ⊎ IsRightForHashes files page problem answer
    of_kind page (inl of) = inl (of.inputs, of.recorded, right_for of.inputs of.tally.tally)
    of_kind page (inr of) = inr (of.hashes, of.recorded, λ inputs are once. right_for inputs (hashes t of.hashes inputs of.tally are once))

  module _ (target : Target) (is : target_of flags request ≡ Ok target) (t : PageTally) (record_of : IsRecordTally files target.page target.total t) where
    of_problem : (asked : Result TallyProblem RolloutFault) → tally_problem_of (refining_for answer) flags request t ≡ asked → IsTallyShown asked answer → IsRightOnRecord flags request files answer t
    of_problem (Err e) asks shown = absurd shown
    of_problem (Ok problem) asks shown = record {
      target = target;
      target_is = is;
      recorded = record_of;
      problem = problem;
      problem_is = asks;
      right = of_kind t problem asks shown target.page record_of.of;
    }

    pub on_record : MayBeTold flags request t answer (Ok tt) → IsRightOnRecord flags request files answer t
    on_record told = of_problem (tally_problem_of (refining_for answer) flags request t) refl told.shown

-- ---- a plan that is checked

module _ (law : TalliesAskAsBooks) (hashes : HashesStandForInputs) (flags : Definitions) (request plan : List ℕ) (files : List (List ℕ)) (text : List ℕ) where
  abbrev Text : Result (List ℕ) ControlRefusal
  Text = Ok text

  same_text : (x : List ℕ) → ◌≡◌ {A = Result (List ℕ) ControlRefusal} (Ok text) (Ok x) → text ≡ x
  same_text x e = cc

  module _ (answer : Answer) (plan_is : answer_of plan ≡ Ok answer) (target : Target) (is : target_of flags request ≡ Ok target) where
    checked : (t : PageTally) → IsRecordTally files target.page target.total t → (verdict : Result (Unit {0}) VerifyFault) → MayBeTold flags request t answer verdict → Text ≡ verdict_report answer verdict → IsRightPlan flags request plan files text
    checked t record_of (Err e) told same = cc
    checked t record_of (Ok right) told same = record {
      answer = answer;
      plan_is = plan_is;
      tally = t;
      right = on_record law hashes flags request files answer target is t record_of told;
      is = same_text (valid_text answer) same;
    }

    checked_on : (t : Result PageTally LogTallyFault) → TalliesFiles files target.page target.total t → WithTally (IsVerdictOn flags request answer) t Text → IsRightPlan flags request plan files text
    checked_on (Err e) tallies found = cc
    checked_on (Ok t) tallies found = checked t tallies.0 found.0 found.1 found.2

  module _ (answer : Answer) (plan_is : answer_of plan ≡ Ok answer) where
    checked_for : (t : Result Target RolloutFault) → target_of flags request ≡ t → WithTarget (λ target. OfFiles files target (IsVerdictOn flags request answer)) t Text → IsRightPlan flags request plan files text
    checked_for (Err e) is found = cc
    checked_for (Ok target) is found = checked_on answer plan_is target is found.0 found.1 found.2

  pub checked_plan : (r : Result Answer PlanFileFault) → answer_of plan ≡ r → WithAnswer (IsVerdictOf flags request files) r Text → IsRightPlan flags request plan files text
  checked_plan (Err e) is found = cc
  checked_plan (Ok answer) is found = checked_for answer is (target_of flags request) refl found

pub checks_are_of_the_record : TalliesAskAsBooks → HashesStandForInputs → ChecksAreOfTheRecord
checks_are_of_the_record law hashes flags request plan files text is = checked_plan law hashes flags request plan files text (answer_of plan) refl is

-- ---- a plan that is applied

module _ (law : TalliesAskAsBooks) (hashes : HashesStandForInputs) (s : Snapshot) (text : List ℕ) (files : List (List ℕ)) (a : Applied) (token : Token) (token_is : IsToken text token) (document_is : is_tag_of token.document s.document ≡ true) where
  abbrev Made : Result Applied ControlRefusal
  Made = Ok a

  same_made : (x : Applied) → ◌≡◌ {A = Result Applied ControlRefusal} (Ok a) (Ok x) → x ≡ a
  same_made x e = cc

  module _ (answer : Answer) (plan_is : answer_of token.plan ≡ Ok answer) (target : Target) (is : target_of s.flags token.request ≡ Ok target) (t : PageTally) (record_of : IsRecordTally files target.page target.total t) where
    module _ (told : MayBeTold s.flags token.request t answer (Ok tt)) (document : List ℕ) (changed : IsChanged s token.request answer (Ok document)) where
      abbrev this : Applied
      this = record { document = document; request = token.request; answer = answer; inputs = t.inputs }

      is_right : doubt_of token.request t ≡ None → IsRightApplied s text files this
      is_right none = record {
        token = token;
        token_is = token_is;
        document_is = document_is;
        request_is = refl;
        plan_is = plan_is;
        tally = t;
        inputs_is = refl;
        right = on_record law hashes s.flags token.request files answer target is t record_of told;
        undoubted = none;
        changed = changed;
      }

      by_doubt : (d : Option ControlRefusal) → doubt_of token.request t ≡ d → Made ≡ unless_doubted d this → IsRightApplied s text files a
      by_doubt (Some doubt) doubted same = cc
      by_doubt None none same = subst (IsRightApplied s text files) (same_made this same) (is_right none)

    by_document : MayBeTold s.flags token.request t answer (Ok tt) → (r : Result (List ℕ) ControlRefusal) → IsChanged s token.request answer r → Made ≡ given token.request answer t r → IsRightApplied s text files a
    by_document told (Err e) changed same = cc
    by_document told (Ok document) changed same = by_doubt told document changed (doubt_of token.request t) refl same

    by_verdict : (verdict : Result (Unit {0}) VerifyFault) → MayBeTold s.flags token.request t answer verdict → WhereRight verdict (IsApplied s token.request answer t) Made → IsRightApplied s text files a
    by_verdict (Err e) told found = cc
    by_verdict (Ok right) told found = by_document told found.0 found.1 found.2

  module _ (answer : Answer) (plan_is : answer_of token.plan ≡ Ok answer) where
    by_tally : (target : Target) → target_of s.flags token.request ≡ Ok target → (t : Result PageTally LogTallyFault) → TalliesFiles files target.page target.total t → WithTally (IsAppliedOn s token.request answer) t Made → IsRightApplied s text files a
    by_tally target is (Err e) tallies found = cc
    by_tally target is (Ok t) tallies found = by_verdict answer plan_is target is t tallies.0 found.0 found.1 found.2

    by_target : (t : Result Target RolloutFault) → target_of s.flags token.request ≡ t → WithTarget (λ target. OfFiles files target (IsAppliedOn s token.request answer)) t Made → IsRightApplied s text files a
    by_target (Err e) is found = cc
    by_target (Ok target) is found = by_tally target is found.0 found.1 found.2

  pub by_answer : (r : Result Answer PlanFileFault) → answer_of token.plan ≡ r → WithAnswer (IsAppliedOf s token.request files) r Made → IsRightApplied s text files a
  by_answer (Err e) is found = cc
  by_answer (Ok answer) is found = by_target answer is (target_of s.flags token.request) refl found

of_token : TalliesAskAsBooks → HashesStandForInputs → (s : Snapshot) (text : List ℕ) (files : List (List ℕ)) (a : Applied) (token : Token) → IsToken text token
    → ((is_tag_of token.document s.document ≡ false) × (◌≡◌ {A = Result Applied ControlRefusal} (Ok a) (Err OtherDocument))) ⊎ ((is_tag_of token.document s.document ≡ true) × IsApplyOf s token files (Ok a)) → IsRightApplied s text files a
of_token law hashes s text files a token is (inl other) = cc
of_token law hashes s text files a token is (inr own) = by_answer law hashes s text files a token is own.0 (answer_of token.plan) refl own.1

pub applied_plans_are_right : TalliesAskAsBooks → HashesStandForInputs → AppliedPlansAreRight
applied_plans_are_right law hashes s text files a (inl none) = cc
applied_plans_are_right law hashes s text files a (inr found) = of_token law hashes s text files a found.0 found.1 found.2
