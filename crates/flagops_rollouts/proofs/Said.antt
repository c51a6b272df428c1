-- What a person is told beside an answer, of the files that it is an answer to.
use Rattle.std.proofs.Common.{◌≡◌, ◌∙◌, ◌++◌, ap, ℕ, Bool, true, false, List, [], Option, Some, None, IfSome, sym, subst}
use Rattle.std.specs.Prelude.{IfOk, Result, Ok, Err, is_some, nat_lt, option_map}
use Rattle.file_diagnostics.specs.Named.{Names}
use Rattle.flag_defs.specs.Document.{Definitions}
use Rattle.flag_defs.specs.Floats.{Marks}
use Rattle.flagops_files.specs.Loading.{max_text}
use Rattle.flagops_files.specs.Question.{Question}
use Rattle.flagops_shell.specs.Diagnostic.{Says}
use Rattle.flagops_shell.specs.Files.{Holding, load_of}
use Rattle.flagops_shell.specs.declared.outcome.Outcome.{Outcome}
use Rattle.flagops_shell.specs.declared.refused.Remark.{Remark}
use Rattle.bucket_core.specs.Rule.{Entries, total_weight}
use Rattle.plan_text.specs.Answer.{Answer, emit}
use Rattle.rollout.specs.Applied.{applied}
use Rattle.rollout.specs.Change.{IsLocal}
use Rattle.rollout.specs.declared.fault.RolloutFault.{RolloutFault}
use Rattle.transport_core.specs.Certificate.{DualPrices}
use Rattle.flagops_shell.specs.Outcomes.{◌>>=◌, beside, done, refused_by}
use Rattle.flagops_shell.specs.Report.{Report, outcome_view}
use Rattle.flagops_rollouts.specs.Apply.{IsLocalReport, applied_report, document_line, told_report}
use Rattle.member_names.specs.Repeated.{is_repeating}
use Rattle.flag_text.specs.Reading.{tree_of}
use Rattle.flagops_rollouts.specs.Beside.{AreBefore, AreBehind, AreBoth, Part, Tells, noted_with, part_if}
use Rattle.flagops_rollouts.specs.ByHand.{TellsEdit}
use Rattle.flagops_rollouts.specs.Doubts.{NamesDoubt, doubt_parts, has_unread, recorded_doubt, recorded_parts, request_parts}
use Rattle.flagops_rollouts.specs.Finer.{finer_parts, times_at}
use Rattle.flagops_rollouts.specs.Loaded.{IsDocumentAt, IsQuestionAt, plan_at}
use Rattle.flagops_rollouts.specs.Omitted.{TellsOmitted, is_omitting, settle_omitted}
use Rattle.flagops_rollouts.specs.Plan.{Holds}
use Rattle.flagops_rollouts.specs.Refusal.{GivesUnlessWant, Refused, is_want}
use Rattle.flagops_rollouts.specs.Remarks.{TellsAppliedAt, TellsDoubtsAt, TellsKeptAt, TellsPlan, TellsPlanAt, applied_parts, keep_parts, plan_parts}
use Rattle.flagops_rollouts.specs.declared.doubts.NotedDoubt.{NotedDoubt}
use Rattle.flagops_rollouts.specs.declared.refusal.Doubt.{Doubt}
use Rattle.flagops_rollouts.specs.declared.refusal.RolloutRefusal.{RolloutRefusal}
use Rattle.flagops_rollouts.specs.declared.refusal.RolloutRefusal.TheVariants.{Apply}
use Rattle.flagops_rollouts.specs.declared.refusal.Doubt.TheVariants as doubt
use Rattle.flagops_rollouts.proofs.Parts.{tells_before, tells_behind, tells_both, tells_one}

-- ---- doubts

of_book : (book : List ℕ) (unrecorded foreign : Bool) (d : NotedDoubt) → Some d.doubt ≡ recorded_doubt unrecorded foreign → ((request : List ℕ) → Says (NamesDoubt request book d.doubt) d.remark) → Says (Names book) d.remark
of_book book true foreign d is notes =
    let same : d.doubt ≡ doubt.Unrecorded = cc in
    subst (λ (x : Doubt). Says (NamesDoubt [] book x) d.remark) same (notes [])
of_book book false true d is notes =
    let same : d.doubt ≡ doubt.Foreign = cc in
    subst (λ (x : Doubt). Says (NamesDoubt [] book x) d.remark) same (notes [])
of_book book false false d is notes = cc

-- a doubt of what was recorded
pub recorded_told : (book : List ℕ) (unrecorded foreign : Bool) (o : Option NotedDoubt) → option_map (λ d. d.doubt) o ≡ recorded_doubt unrecorded foreign → IfSome o (λ d. (request : List ℕ) → Says (NamesDoubt request book d.doubt) d.remark)
    → Tells (recorded_parts book (recorded_doubt unrecorded foreign)) (option_map (λ d. d.remark) o)
recorded_told book unrecorded foreign None is notes = tells_one (is_some (recorded_doubt unrecorded foreign)) (Names book) None (ap is_some is) tt
recorded_told book unrecorded foreign (Some d) is notes = tells_one (is_some (recorded_doubt unrecorded foreign)) (Names book) (Some d.remark) (ap is_some is) (of_book book unrecorded foreign d is notes)

-- those of a request
pub request_told : (path bytes : List ℕ) (unread repeated whole : Option Remark) → is_some unread ≡ has_unread (tree_of bytes max_text) → IfSome unread (Says (Names path)) → is_some repeated ≡ is_repeating bytes → IfSome repeated (Says (Names path))
    → AreBoth unread repeated whole → Tells (request_parts path bytes) whole
request_told path bytes unread repeated whole one named two also both =
    tells_both (part_if (has_unread (tree_of bytes max_text)) (Names path)) (part_if (is_repeating bytes) (Names path)) unread repeated whole
    (tells_one (has_unread (tree_of bytes max_text)) (Names path) unread one named) (tells_one (is_repeating bytes) (Names path) repeated two also) both

-- ---- what is settled

pub not_noted : (more : Bool) (settled : Result Bool RolloutRefusal) (e : Refused) (r : Result (Option Remark) Refused) → r ≡ Err e → (is_want e.refusal ≡ false → settled ≡ Err e.refusal) → GivesUnlessWant (λ x. is_some x) r (noted_with more settled)
not_noted more settled e r is refused = subst (λ (s : Result (Option Remark) Refused). GivesUnlessWant (λ x. is_some x) s (noted_with more settled)) (sym is) (λ wanted. ap (noted_with more) (refused wanted))

-- beside a refusal nothing is told
pub nothing_said : (P : Holding → Outcome → Type 0) (old : Option Holding) (e : Refused) (r : Result Outcome Refused) → r ≡ Err e → IfSome old (λ at. IfOk r (P at))
nothing_said P None e r is = tt
nothing_said P (Some at) e r is = subst (λ (s : Result Outcome Refused). IfOk s (P at)) (sym is) tt

-- ---- beside a plan

module _ (request book : List ℕ) (q : Question) (m : ℕ) (explain : Bool) (answer : Answer) where
  plan_parts_told : (noted words shown : Option Remark) → Tells (doubt_parts request book q) noted → AreBefore (part_if explain (TellsEdit request q m answer)) noted words → AreBehind (finer_parts request m answer) words shown
      → Tells (plan_parts request book q m explain answer) shown
  plan_parts_told noted words shown tells before behind =
      let first : List Part = part_if explain (TellsEdit request q m answer) in
      tells_behind (first ++ doubt_parts request book q) (finer_parts request m answer) words shown (tells_before first (doubt_parts request book q) noted words tells before) behind

  plan_of : (text : List ℕ) (told : Option Remark) → Holds answer text → Tells (plan_parts request book q m explain answer) told → TellsPlan request book q m explain text told
  unfolding TellsPlan
  plan_of text told holds tells = (answer, holds, tells)

  pub plan_said : (noted words shown : Option Remark) (r : Result Outcome Refused) → Tells (doubt_parts request book q) noted → AreBefore (part_if explain (TellsEdit request q m answer)) noted words → AreBehind (finer_parts request m answer) words shown
      → IfOk r (λ o. Holds answer o.text.items) → IfOk r (λ o. o.remark ≡ shown) → IfOk r (λ o. TellsPlan request book q m explain o.text.items o.remark)
  plan_said noted words shown (Err e) tells before behind holds same = tt
  plan_said noted words shown (Ok o) tells before behind holds same =
      plan_of o.text.items o.remark holds (subst (Tells (plan_parts request book q m explain answer)) (sym same) (plan_parts_told noted words shown tells before behind))

module _ (floats : Bool) (document request book : List ℕ) (q : Question) where
  module _ (m : ℕ) (explain : Bool) where
    plan_there : (at : Holding) (r : Result Outcome Refused) → IsQuestionAt floats at document request book (Ok q) → IfOk r (λ o. TellsPlan request book q m explain o.text.items o.remark) → IfOk r (λ o. TellsPlanAt floats at document request book m explain o.text.items o.remark)
    unfolding TellsPlanAt
    plan_there at (Ok o) asked told = (q, asked, told)
    plan_there at (Err e) asked told = tt

    pub plan_said_at : (old : Option Holding) (r : Result Outcome Refused) → IfSome old (λ at. IsQuestionAt floats at document request book (Ok q)) → IfOk r (λ o. TellsPlan request book q m explain o.text.items o.remark)
        → IfSome old (λ at. IfOk r (λ o. TellsPlanAt floats at document request book m explain o.text.items o.remark))
    plan_said_at None r asked told = tt
    plan_said_at (Some at) r asked told = plan_there at r asked told

  -- ---- beside a verdict

  doubts_there : (at : Holding) (r : Result Outcome Refused) → IsQuestionAt floats at document request book (Ok q) → IfOk r (λ o. Tells (doubt_parts request book q) o.remark) → IfOk r (λ o. TellsDoubtsAt floats at document request book o.remark)
  unfolding TellsDoubtsAt
  doubts_there at (Ok o) asked told = (q, asked, told)
  doubts_there at (Err e) asked told = tt

  pub doubts_said_at : (old : Option Holding) (r : Result Outcome Refused) → IfSome old (λ at. IsQuestionAt floats at document request book (Ok q)) → IfOk r (λ o. Tells (doubt_parts request book q) o.remark)
      → IfSome old (λ at. IfOk r (λ o. TellsDoubtsAt floats at document request book o.remark))
  doubts_said_at None r asked told = tt
  doubts_said_at (Some at) r asked told = doubts_there at r asked told

  -- ---- beside a document that is kept

  module _ (plan : List ℕ) (answer : Answer) where
    kept_there : (at : Holding) (r : Result Outcome Refused) → IsQuestionAt floats at document request book (Ok q) → plan_at at plan ≡ Ok answer → IfOk r (λ o. Tells (keep_parts request book q answer) o.remark) → IfOk r (λ o. TellsKeptAt floats at document plan request book o.remark)
    unfolding TellsKeptAt
    kept_there at (Ok o) asked planned told = (q, answer, asked, planned, told)
    kept_there at (Err e) asked planned told = tt

    pub kept_said_at : (old mid : Option Holding) (r : Result Outcome Refused) → mid ≡ old → IfSome old (λ at. IsQuestionAt floats at document request book (Ok q)) → IfSome mid (λ at. plan_at at plan ≡ Ok answer) → IfOk r (λ o. Tells (keep_parts request book q answer) o.remark)
        → IfSome old (λ at. IfOk r (λ o. TellsKeptAt floats at document plan request book o.remark))
    kept_said_at old mid r same asked planned told = go old asked (subst (λ (h : Option Holding). IfSome h (λ at. plan_at at plan ≡ Ok answer)) same planned)
      where
        go : (h : Option Holding) → IfSome h (λ at. IsQuestionAt floats at document request book (Ok q)) → IfSome h (λ at. plan_at at plan ≡ Ok answer) → IfSome h (λ at. IfOk r (λ o. TellsKeptAt floats at document plan request book o.remark))
        go None asked planned = tt
        go (Some at) asked planned = kept_there at r asked planned told

-- ---- beside a document that is printed

-- what is settled of what is left out
omitting_told : (strict omitting told : Bool) → settle_omitted strict omitting ≡ Ok told → told ≡ omitting
omitting_told true true told is = cc
omitting_told true false told is = cc
omitting_told false omitting told is = cc

pub omitted_told : (floats : Bool) (path document : List ℕ) (flags : Definitions) (strict : Bool) (omitted : Option Remark) → settle_omitted strict (is_omitting floats document flags) ≡ Ok (is_some omitted) → IfSome omitted (Says (TellsOmitted path flags))
    → Tells (part_if (is_omitting floats document flags) (TellsOmitted path flags)) omitted
omitted_told floats path document flags strict omitted is says = tells_one (is_omitting floats document flags) (TellsOmitted path flags) omitted (omitting_told strict (is_omitting floats document flags) (is_some omitted) is) says

-- the report of a rule that was applied
pub applied_exact : (floats : Bool) (document : List ℕ) (flags : Definitions) (marks : Marks) (key : List ℕ) (site : ℕ) (strict : Bool) (rule : Entries) (c : DualPrices) (changed : Definitions) (told : Bool) (r : Result Outcome Refused) → applied flags key site rule ≡ Ok changed
    → noted_with (nat_lt 1 (times_at flags key site (total_weight rule))) (settle_omitted strict (is_omitting floats document flags)) ≡ Ok told → GivesUnlessWant outcome_view r (beside told (done (document_line floats changed marks)))
    → GivesUnlessWant outcome_view r (told_report floats document flags marks key site strict (emit rule c))
unfolding told_report applied_report
applied_exact floats document flags marks key site strict rule c changed told r is noted gives =
    let line : Result Report RolloutRefusal = done (document_line floats changed marks) in
    let settled : Result Bool RolloutRefusal = noted_with (nat_lt 1 (times_at flags key site (total_weight rule))) (settle_omitted strict (is_omitting floats document flags)) in
    let shown = subst (λ (s : Result Bool RolloutRefusal). GivesUnlessWant outcome_view r (s >>= λ t. beside t line)) (sym noted) gives in
    subst (λ (a : Result Definitions RolloutFault). GivesUnlessWant outcome_view r (refused_by Apply a >>= (λ ch. done (document_line floats ch marks)) >>= λ report. settled >>= λ t. beside t (Ok report))) (sym is) shown

abbrev text_in : Result Report RolloutRefusal → List ℕ
text_in (Ok report) = report.text
text_in (Err e) = []

-- what is printed of it is local, where the marks that are printed are those of before
pub applied_local : (floats : Bool) (before changed : Definitions) (marks now : Marks) (key : List ℕ) (site : ℕ) (rule : Entries) (c : DualPrices) (told : Bool) (r : Result Outcome Refused) → IsLocal before key site rule changed → now ≡ marks
    → GivesUnlessWant outcome_view r (beside told (done (document_line floats changed now))) → IfOk r (λ o. IsLocalReport floats before marks key site (emit rule c) (outcome_view o))
applied_local floats before changed marks now key site rule c told (Ok o) local same gives = (changed, sym (ap text_in gives) ∙ ap (document_line floats changed) same, local)
applied_local floats before changed marks now key site rule c told (Err e) local same gives = tt

module _ (floats : Bool) (path document : List ℕ) (flags : Definitions) (key : List ℕ) (site : ℕ) where
  module _ (plan : List ℕ) (answer : Answer) where
    applied_there : (at : Holding) (r : Result Outcome Refused) → load_of at path max_text ≡ Ok document → IsDocumentAt floats at path (Ok flags) → plan_at at plan ≡ Ok answer → IfOk r (λ o. Tells (applied_parts floats path document flags key site answer) o.remark)
        → IfOk r (λ o. TellsAppliedAt floats at path plan key site o.remark)
    unfolding TellsAppliedAt
    applied_there at (Ok o) bytes loaded planned told = (document, flags, answer, bytes, loaded, planned, told)
    applied_there at (Err e) bytes loaded planned told = tt

    pub applied_said_at : (old mid : Option Holding) (r : Result Outcome Refused) → mid ≡ old → IfSome old (λ at. load_of at path max_text ≡ Ok document) → IfSome old (λ at. IsDocumentAt floats at path (Ok flags)) → IfSome mid (λ at. plan_at at plan ≡ Ok answer)
        → IfOk r (λ o. Tells (applied_parts floats path document flags key site answer) o.remark) → IfSome old (λ at. IfOk r (λ o. TellsAppliedAt floats at path plan key site o.remark))
    applied_said_at old mid r same bytes loaded planned told = go old bytes loaded (subst (λ (h : Option Holding). IfSome h (λ at. plan_at at plan ≡ Ok answer)) same planned)
      where
        go : (h : Option Holding) → IfSome h (λ at. load_of at path max_text ≡ Ok document) → IfSome h (λ at. IsDocumentAt floats at path (Ok flags)) → IfSome h (λ at. plan_at at plan ≡ Ok answer)
            → IfSome h (λ at. IfOk r (λ o. TellsAppliedAt floats at path plan key site o.remark))
        go None bytes loaded planned = tt
        go (Some at) bytes loaded planned = applied_there at r bytes loaded planned told
