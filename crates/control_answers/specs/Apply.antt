-- What comes of a token: its plan, checked on what files hold, and then in the document.
use Rattle.std.specs.Prelude.{◌≡◌, ◌⊎◌, ℕ, List, true, false, Option, Some, None, Result, Ok, Err, string_bytes}
use Rattle.plan_text.specs.Answer.{Answer, planned_view}
use Rattle.plan_text.specs.PlanFile.{answer_of}
use Rattle.rollout.specs.declared.verify_fault.VerifyFault.{VerifyFault}
use Rattle.note_tallies.specs.Tally.{PageTally}
use Rattle.control_answers.specs.Check.{MayBeTold, WithAnswer}
use Rattle.control_answers.specs.Doubts.{doubt_of}
use Rattle.control_answers.specs.Kept.{IsChanged}
use Rattle.control_answers.specs.Snapshot.{Snapshot}
use Rattle.control_answers.specs.Refusal.{of_verdict_of_token}
use Rattle.control_answers.specs.Target.{target_of}
use Rattle.control_answers.specs.Token.{IsNoToken, IsToken, Token, is_tag_of}
use Rattle.control_answers.specs.Turns.{OfFiles, Outcomes, WithTarget}
use Rattle.control_answers.specs.declared.applying.Applied as program
use Rattle.control_answers.specs.declared.refusal.ControlRefusal.{ControlRefusal}
use Rattle.control_answers.specs.declared.refusal.ControlRefusal.TheVariants.{BadToken, OtherDocument}

-- the new text of the document; the request, its answer and how many inputs are recorded, for the history
pub record Applied : Type 0 where
  pub document : List ℕ
  pub request : List ℕ
  pub answer : Answer
  pub inputs : ℕ

-- unless it is doubted
abbrev pub unless_doubted : Option ControlRefusal → Applied → Result Applied ControlRefusal
unless_doubted None a = Ok a
unless_doubted (Some doubt) a = Err doubt

-- with this document, where there is one
abbrev pub given : List ℕ → Answer → PageTally → Result (List ℕ) ControlRefusal → Result Applied ControlRefusal
given request answer t (Err e) = Err e
given request answer t (Ok text) = unless_doubted (doubt_of request t) (record { document = text; request = request; answer = answer; inputs = t.inputs })

-- the document with the rule at the request's site, where there is one and nothing is doubted
abbrev pub IsApplied : Snapshot → List ℕ → Answer → PageTally → Outcomes Applied
IsApplied s request answer t r = (document : Result (List ℕ) ControlRefusal) × IsChanged s request answer document × (r ≡ given request answer t document)

-- where the check finds it right
abbrev pub WhereRight : Result (Unit {0}) VerifyFault → Outcomes Applied → Outcomes Applied
WhereRight (Ok right) Next r = Next r
WhereRight (Err e) Next r = r ≡ Err (of_verdict_of_token e)

-- what may be told of the answer on a tally
abbrev pub IsAppliedOn : Snapshot → List ℕ → Answer → PageTally → Outcomes Applied
IsAppliedOn s request answer t r = (verdict : Result (Unit {0}) VerifyFault) × MayBeTold s.flags request t answer verdict × WhereRight verdict (IsApplied s request answer t) r

-- on the tally of what files hold of the request's page
abbrev pub IsAppliedOf : Snapshot → List ℕ → List (List ℕ) → Answer → Outcomes Applied
IsAppliedOf s request files answer = WithTarget (λ target. OfFiles files target (IsAppliedOn s request answer)) (target_of s.flags request)

abbrev pub IsApplyOf : Snapshot → Token → List (List ℕ) → Outcomes Applied
IsApplyOf s token files = WithAnswer (IsAppliedOf s token.request files) (answer_of token.plan)

-- The document with the rule of the token's plan, which is right on what the files hold; or the first refusal: of the token, its document, its
-- plan file, its request and the request's site, the files, the request on their tally, the check, the document with the rule, and what is
-- doubted of the request.
abbrev pub IsApplyAnswer : Snapshot → List ℕ → List (List ℕ) → Outcomes Applied
IsApplyAnswer s text files r =
    (IsNoToken text × (r ≡ Err BadToken))
    ⊎ ((token : Token) × IsToken text token
    × (((is_tag_of token.document s.document ≡ false) × (r ≡ Err OtherDocument)) ⊎ ((is_tag_of token.document s.document ≡ true) × IsApplyOf s token files r)))

-- ---- of the program

abbrev pub applied_view : program.Applied → Applied
applied_view a = record { document = string_bytes a.document; request = a.request; answer = planned_view a.planned; inputs = a.inputs }
