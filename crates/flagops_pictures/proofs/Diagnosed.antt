-- What a person is told of what a command that draws comes to.
use Rattle.std.proofs.Common.{◌≡◌, ℕ, Bool, List, Option, Some, None, Result, Ok, Err, IfErr, IfOk, IfSome, inl, refl, sym, subst, option_map, unwrap_or}
use Rattle.flagops_rollouts.specs.Attempts.{TellsOfFirst}
use Rattle.flagops_rollouts.specs.Refusal.{ComesFrom, Refused, call_name, call_of, is_want}
use Rattle.flagops_shell.specs.Outcomes.{IsCallOf}
use Rattle.flagops_rollouts.specs.declared.refusal.RolloutCall.{RolloutCall}
use Rattle.flagops_rollouts.specs.declared.refusal.Doubt.{Doubt}
use Rattle.flagops_rollouts.specs.Doubts.{NamesDoubt, NamesDoubted}
use Rattle.flagops_rollouts.specs.declared.doubts.NotedDoubt.{NotedDoubt}
use Rattle.flagops_rollouts.specs.Remarks.{TellsDoubtsAt, TellsPlanAt}
use Rattle.flagops_shell.specs.Diagnostic.{Says}
use Rattle.flagops_shell.specs.Ending.{KeepsUnlessDone, Remarks}
use Rattle.flagops_shell.specs.Files.{Holding}
use Rattle.flagops_shell.specs.declared.outcome.Outcome.{Outcome}
use Rattle.flagops_shell.specs.declared.refused.Remark.{Remark}
use Rattle.flagops_shell.specs.declared.refused.Remark.TheVariants.{Short, Lines}
use Rattle.flagops_pictures.specs.Diagnostics.{picture_attempts, picture_told, plan_attempts, plan_told}
use Rattle.flagops_pictures.specs.Words.{Picturing, Planning}

-- of a report its note, and of a refusal the name of what is refused
pub picture_remarks : (a : Picturing) (files : Option Holding) (r : Result Outcome Refused) → IfSome files (λ at. TellsOfFirst (picture_attempts at a) r) → IfOk r (λ o. IfSome o.remark (Says (NamesDoubted a.request a.book)))
    → IfSome files (λ at. IfOk r (λ o. TellsDoubtsAt a.floats at a.document a.request a.book o.remark)) → IfSome files (λ at. Remarks is_want (picture_told at a) r)
picture_remarks a None r names notes parts = tt
picture_remarks a (Some at) (Ok o) names notes parts = λ remark is. (
  subst (λ (m : Option Remark). IfSome m (Says (NamesDoubted a.request a.book))) is notes,
  subst (λ (m : Option Remark). TellsDoubtsAt a.floats at a.document a.request a.book m) is parts,
)
picture_remarks a (Some at) (Err e) names notes parts = names

pub plan_remarks : (p : Planning) (files : Option Holding) (r : Result Outcome Refused) → IfSome files (λ at. TellsOfFirst (plan_attempts at p) r) → IfOk r (λ o. IfSome o.remark (Says (NamesDoubted p.request p.book)))
    → IfSome files (λ at. IfOk r (λ o. TellsPlanAt p.floats at p.document p.request p.book (unwrap_or p.refine 1) p.explain o.text.items o.remark)) → IfSome files (λ at. Remarks is_want (plan_told at p) r)
plan_remarks p None r names notes parts = tt
plan_remarks p (Some at) (Ok o) names notes parts = λ remark is. (
  subst (λ (m : Option Remark). IfSome m (Says (NamesDoubted p.request p.book))) is notes,
  subst (λ (m : Option Remark). TellsPlanAt p.floats at p.document p.request p.book (unwrap_or p.refine 1) p.explain o.text.items m) is parts,
)
plan_remarks p (Some at) (Err e) names notes parts = names

-- a call of the command ran out of memory
pub wants : (calls : RolloutCall → Bool) (r : Result Outcome Refused) → ComesFrom calls r → IfErr r (λ e. IsCallOf call_name calls (call_name (call_of e.refusal)))
wants calls (Ok o) comes = tt
wants calls (Err e) comes = (call_of e.refusal, comes, refl)

-- files that stay
pub all_kept : {E : Type 0} (old new : Option Holding) (r : Result Outcome E) → new ≡ old → KeepsUnlessDone old new r
all_kept old new r same = inl same

-- ---- doubts

-- what is told of a doubt beside each request is told beside this one
pub for_request : (request book : List ℕ) (o : Option NotedDoubt) → IfSome o (λ d. (r : List ℕ) → Says (NamesDoubt r book d.doubt) d.remark) → IfSome o (λ d. Says (NamesDoubt request book d.doubt) d.remark)
for_request request book None told = tt
for_request request book (Some d) told = told request

said : (request book : List ℕ) (d : Doubt) (remark : Remark) → Says (NamesDoubt request book d) remark → Says (NamesDoubted request book) remark
said request book d Short told = tt
said request book d (Lines lines) told = (d, told)

-- what is told of the first of two doubts is of one of the two
pub noted : (request book : List ℕ) (o : Option NotedDoubt) (r : Option Remark) → r ≡ option_map (λ d. d.remark) o → IfSome o (λ d. Says (NamesDoubt request book d.doubt) d.remark) → IfSome r (Says (NamesDoubted request book))
noted request book None r is told = subst (λ (m : Option Remark). IfSome m (Says (NamesDoubted request book))) (sym is) tt
noted request book (Some d) r is told = subst (λ (m : Option Remark). IfSome m (Says (NamesDoubted request book))) (sym is) (said request book d.doubt d.remark told)
