-- What the command comes to, and what a person is told of it.
use Rattle.std.proofs.Common.{◌≡◌, ℕ, Bor, false, List, map, Option, Some, None, IfSome, IfOk, IfErr, inl, refl, string_bytes, String, Global, sym, subst}
use Rattle.std.specs.Prelude.{Result, Ok, Err}
use Rattle.flagops_checks.specs.Calls.{check_calls}
use Rattle.flagops_checks.specs.Documents.{AreChecked}
use Rattle.flagops_checks.specs.Printed.{form_of}
use Rattle.flagops_checks.specs.Report.{IsCheckReport, TellsChecked, check_status, remark_of}
use Rattle.flagops_checks.specs.Step.{GivesAll, Speaks}
use Rattle.flagops_checks.specs.Told.{TellsAll, check_attempts}
use Rattle.flagops_checks.specs.Words.{Checking, checking_view}
use Rattle.flagops_checks.specs.declared.asked.Checking as code
use Rattle.flagops_checks.specs.declared.form.Form.{Form}
use Rattle.flagops_checks.specs.declared.gathering.Gathered.{Gathered}
use Rattle.flagops_checks.specs.Refusal.{ComesFrom, Refused, call_name, call_of, is_want, TellsOfFirst}
use Rattle.flagops_shell.specs.Outcomes.{IsCallOf}
use Rattle.flagops_shell.specs.Diagnostic.{Says}
use Rattle.flagops_shell.specs.Ending.{KeepsUnlessDone, Remarks}
use Rattle.flagops_shell.specs.Files.{Holding}
use Rattle.flagops_shell.specs.Report.{Report}
use Rattle.flagops_shell.specs.declared.outcome.Outcome.{Outcome}
use Rattle.flagops_shell.specs.declared.refused.Remark.{Remark}
use Rattle.flagops_shell.specs.declared.refused.Remark.TheVariants.{Lines, Short}

-- ---- what the documents come to

-- what the paths of the words come to, in the form that they ask for
pub given : (c : code.Checking) (r : Result Gathered Refused) (h : Option Holding) (paths : List (Bor (List ℕ))) (form : Form) → paths ≡ c.documents.items → form ≡ form_of c.json c.floats (map (λ p. p.now) paths)
    → IfSome h (λ at. GivesAll form r (AreChecked form.floats at (map (λ p. p.now) paths))) → IfSome h (λ at. GivesAll (form_of c.json c.floats (checking_view c).documents) r (AreChecked c.floats at (checking_view c).documents))
given c r h paths form all is gives =
    subst (λ (ps : List (Bor (List ℕ))). IfSome h (λ at. GivesAll (form_of c.json c.floats (map (λ p. p.now) ps)) r (AreChecked c.floats at (map (λ p. p.now) ps)))) all
    (subst (λ (f : Form). IfSome h (λ at. GivesAll f r (AreChecked f.floats at (map (λ p. p.now) paths)))) is gives)

module _ (c : Checking) where
  pub no_report : (h : Option Holding) (e : Refused) → IfSome h (λ at. GivesAll (form_of c.json c.floats c.documents) (Err e) (AreChecked c.floats at c.documents)) → IfSome h (λ at. is_want e.refusal ≡ false → IsCheckReport at c (Err e.refusal))
  unfolding IsCheckReport
  no_report None e gives = tt
  no_report (Some at) e gives = λ wanted. (Err e.refusal, gives wanted, refl)

  module _ (g : Gathered) (r : Report) (is : r ≡ record { text = g.text.items; status = check_status c.strict g.is_wrong; is_told = g.is_wrong }) where
    pub a_report : (h : Option Holding) → IfSome h (λ at. GivesAll (form_of c.json c.floats c.documents) (Ok g) (AreChecked c.floats at c.documents)) → IfSome h (λ at. IsCheckReport at c (Ok r))
    unfolding IsCheckReport
    a_report None gives = tt
    a_report (Some at) gives =
        let same : r ≡ record { text = g.text.items; status = check_status c.strict g.is_wrong; is_told = g.is_wrong } = is in
        (Ok gives.0, gives.1, rw (same, gives.2.text, gives.2.wrong) refl)

  pub a_remark : (g : Gathered) (h : Option Holding) (o : Option Remark) → IfSome o (Speaks g.told) → IfSome h (λ at. GivesAll (form_of c.json c.floats c.documents) (Ok g) (AreChecked c.floats at c.documents))
      → IfSome h (λ at. IfSome o (Says (TellsChecked at c)))
  unfolding TellsChecked
  a_remark g None o says gives = tt
  a_remark g (Some at) None says gives = tt
  a_remark g (Some at) (Some Short) says gives = tt
  a_remark g (Some at) (Some (Lines lines)) says gives =
      (gives.0, gives.1, subst (λ (s : String Global). TellsAll (form_of c.json c.floats c.documents) gives.0 (string_bytes s)) (sym says.1) (gives.2.told says.0))

-- ---- what the command shows of it

-- of a report what is told of the documents, and of a refusal the name of the first that is refused
pub remarks : (files : Option Holding) (c : Checking) (r : Result Outcome Refused) → IfSome files (λ at. TellsOfFirst (check_attempts c.floats at c.documents) r) → IfSome files (λ at. IfOk r (λ o. IfSome o.remark (Says (TellsChecked at c))))
    → IfSome files (λ at. Remarks is_want (remark_of at c) r)
remarks None c r names notes = tt
remarks (Some at) c (Ok o) names notes = λ remark is. subst (λ (m : Option Remark). IfSome m (Says (TellsChecked at c))) is notes
remarks (Some at) c (Err e) names notes = names

-- a call of the command ran out of memory
pub wants : (r : Result Outcome Refused) → ComesFrom check_calls r → IfErr r (λ e. IsCallOf call_name check_calls (call_name (call_of e.refusal)))
wants (Ok o) comes = tt
wants (Err e) comes = (call_of e.refusal, comes, refl)

pub stays : {E : Type 0} (old new : Option Holding) (r : Result Outcome E) → new ≡ old → KeepsUnlessDone old new r
stays old new r same = inl same
