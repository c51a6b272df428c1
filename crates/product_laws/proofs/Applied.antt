-- What is reported of a rule that is applied to flags of which none has floats.
use Rattle.std.proofs.Common.{◌≡◌, ◌∙◌, ◌++◌, ℕ, Bool, true, false, cond, List, [], Result, Ok, Err, refl, sym, ap}
use Rattle.std.specs.Prelude.{IfOk, codes, nat_lt}
use Rattle.bucket_core.specs.Rule.{total_weight}
use Rattle.flag_defs.specs.Document.{Definitions, printed}
use Rattle.flag_defs.specs.Floats.{AreMarkedAs, Marks, are_unmarked, marked}
use Rattle.flag_defs.specs.Spelled.{flags_spelled}
use Rattle.flag_text.specs.Shape.{Shape}
use Rattle.flag_text.specs.declared.fault.TextFault.{TextFault}
use Rattle.spelled_numbers.specs.Marks.{marks_of_text}
use Rattle.plan_text.specs.Answer.{Answer, emit, none_exists}
use Rattle.rollout.specs.Applied.{applied}
use Rattle.flagops_rollouts.specs.Apply.{IsLocalReport, IsToldReport, applied_report, document_line, printed_as, told_report}
use Rattle.flagops_rollouts.specs.Beside.{noted_with}
use Rattle.flagops_rollouts.specs.Finer.{times_at}
use Rattle.flagops_rollouts.specs.Omitted.{if_read, is_omitting, settle_omitted}
use Rattle.flagops_rollouts.specs.declared.refusal.RolloutRefusal.{RolloutRefusal}
use Rattle.flagops_rollouts.specs.declared.refusal.RolloutRefusal.TheVariants.{Apply}
use Rattle.flagops_shell.specs.Outcomes.{◌>>=◌, beside, done, refused_by}
use Rattle.flagops_shell.specs.Report.{Report}
use Rattle.product_laws.specs.Documents.{TreesStay}
use Rattle.product_laws.specs.FloatWhole.{IsWholeText}
use Rattle.product_laws.proofs.Read.{bind-same}

-- a document has marks, either way
pub some_marks : (floats : Bool) (bytes : List ℕ) (flags : Definitions) → (marks : Marks) × AreMarkedAs floats bytes flags marks
some_marks true bytes flags = (marked (marks_of_text bytes) flags, refl)
some_marks false bytes flags = ([], refl)

-- ---- what is printed

plain : (floats : Bool) (flags : Definitions) (marks : Marks) → are_unmarked marks ≡ true → printed_as floats flags marks ≡ printed flags
plain true flags marks h = ap (λ (b : Bool). cond b (printed flags) (flags_spelled flags marks)) h
plain false flags marks h = refl

line_so : (floats other : Bool) (flags : Definitions) (marks others : Marks) → are_unmarked marks ≡ true → are_unmarked others ≡ true → document_line floats flags marks ≡ document_line other flags others
line_so floats other flags marks others one two = ap (λ (text : List ℕ). text ++ codes "\n") (plain floats flags marks one ∙ sym (plain other flags others two))

-- what a document says that its flags do not
pub omitting_so : TreesStay → (floats other : Bool) (document : List ℕ) → IsWholeText document → (flags : Definitions) → is_omitting floats document flags ≡ is_omitting other document flags
omitting_so trees floats other document whole flags = ap (λ (t : Result Shape TextFault). if_read t flags) (trees floats other document whole)

module _ (floats other : Bool) (marks others : Marks) (one : are_unmarked marks ≡ true) (two : are_unmarked others ≡ true) where
  report_so : (flags : Definitions) (key : List ℕ) (site : ℕ) (answer : Answer) → applied_report floats flags marks key site answer ≡ applied_report other flags others key site answer
  unfolding applied_report
  report_so flags key site (emit rule c) =
      bind-same (λ changed. done (document_line floats changed marks)) (λ changed. done (document_line other changed others))
      (λ changed. ap (λ (text : List ℕ). let r : Result Report RolloutRefusal = done text in r) (line_so floats other changed marks others one two)) (refused_by Apply (applied flags key site rule))
  report_so flags key site (none_exists kind names) = refl

  local_so : (flags : Definitions) (key : List ℕ) (site : ℕ) (answer : Answer) (report : Report) → IsLocalReport floats flags marks key site answer report → IsLocalReport other flags others key site answer report
  local_so flags key site (emit rule c) report h = (h.0, h.1 ∙ line_so floats other h.0 marks others one two, h.2)
  local_so flags key site (none_exists kind names) report h = h

  if_local : (flags : Definitions) (key : List ℕ) (site : ℕ) (answer : Answer) (r : Result Report RolloutRefusal) → IfOk r (IsLocalReport floats flags marks key site answer) → IfOk r (IsLocalReport other flags others key site answer)
  if_local flags key site answer (Ok report) h = local_so flags key site answer report h
  if_local flags key site answer (Err e) h = h

  module _ (trees : TreesStay) (document : List ℕ) (whole : IsWholeText document) where
    text_so : (flags : Definitions) (key : List ℕ) (site : ℕ) (strict : Bool) (answer : Answer) → told_report floats document flags marks key site strict answer ≡ told_report other document flags others key site strict answer
    unfolding told_report
    text_so flags key site strict (emit rule c) =
        let finer = nat_lt 1 (times_at flags key site (total_weight rule)) in
        ap (λ (m : Result Report RolloutRefusal). m >>= λ report. noted_with finer (settle_omitted strict (is_omitting floats document flags)) >>= λ told. beside told (Ok report)) (report_so flags key site (emit rule c))
        ∙ ap (λ (b : Bool). applied_report other flags others key site (emit rule c) >>= λ report. noted_with finer (settle_omitted strict b) >>= λ told. beside told (Ok report)) (omitting_so trees floats other document whole flags)
    text_so flags key site strict (none_exists kind names) = refl

    pub told_so : (flags : Definitions) (key : List ℕ) (site : ℕ) (strict : Bool) (answer : Answer) (r : Result Report RolloutRefusal)
        → IsToldReport floats document flags marks key site strict answer r → IsToldReport other document flags others key site strict answer r
    told_so flags key site strict answer r h = (h.0 ∙ text_so flags key site strict answer, if_local flags key site answer r h.1)
