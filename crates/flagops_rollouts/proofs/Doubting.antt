-- What is told of a doubt, and what becomes of an answer that is doubted.
use Rattle.std.proofs.Common.{◌≡◌, ◌||◌, ◌++◌, List, [], ◌∷◌, ℕ, Bool, false, Option, Some, None, IfSome, inl, inr, refl, ap, subst, sym, ◌∙◌}
use Rattle.std.specs.Prelude.{IfOk, Result, Ok, Err, unwrap_or}
use Rattle.std.proofs.lemmas.List.{append_assoc}
use Rattle.plan_text.specs.Answer.{Answer, planned_view}
use Rattle.plan_text.specs.declared.planned.Planned.{Planned}
use Rattle.flagops_rollouts.specs.declared.doubts.NotedDoubt.{NotedDoubt}
use Rattle.flagops_rollouts.specs.Doubts.{NamesDoubt, NamesDoubted, doubt_of, doubt_subjects, settle}
use Rattle.flagops_rollouts.specs.Finer.{is_finer}
use Rattle.flagops_rollouts.specs.Plan.{Holds, IsPlanOf, MayBePlanned, plan_report}
use Rattle.flagops_rollouts.specs.Verify.{IsVerdict, MayBeTold, valid_as}
use Rattle.flagops_rollouts.proofs.Telling.{told_among}
use Rattle.flagops_files.proofs.Told.{told_left, told_right}
use Rattle.flagops_files.specs.Question.{Question}
use Rattle.flagops_rollouts.specs.Refusal.{GivesOne, GivesUnlessWant, is_want, Subjects, TellsOfOne, Refused}
use Rattle.flagops_shell.specs.Outcomes.{beside, done}
use Rattle.flagops_shell.specs.Report.{outcome_view}
use Rattle.flagops_files.specs.Told.{NamesOne, Subject}
use Rattle.flagops_shell.specs.Diagnostic.{Says}
use Rattle.flagops_shell.specs.declared.outcome.Outcome.{Outcome}
use Rattle.flagops_rollouts.specs.declared.refusal.RolloutCall.{RolloutCall}
use Rattle.flagops_rollouts.specs.declared.refusal.RolloutCall.TheVariants as call
use Rattle.flagops_rollouts.specs.declared.refusal.Doubt.{Doubt}
use Rattle.flagops_rollouts.specs.declared.refusal.Doubt.TheVariants as doubt
use Rattle.flagops_rollouts.specs.declared.refusal.RolloutRefusal.{RolloutRefusal}
use Rattle.flagops_rollouts.specs.declared.refusal.RolloutRefusal.TheVariants.{Doubted}
use Rattle.flagops_shell.specs.declared.refused.Remark.{Remark}
use Rattle.flagops_shell.specs.declared.refused.Remark.TheVariants.{Short, Lines}
use Rattle.file_diagnostics.specs.Named.{Names, opening_words, quoted}

-- a remark on a doubt is one of the two
pub said : (request book : List ℕ) (d : Doubt) (remark : Remark) → Says (NamesDoubt request book d) remark → Says (NamesDoubted request book) remark
said request book d Short told = tt
said request book d (Lines lines) told = (d, told)

-- what begins with the path of the request
pub of_request : (request book : List ℕ) (remark : Remark) → Says (Names request) remark → Says (NamesDoubted request book) remark
of_request request book Short told = tt
of_request request book (Lines lines) told = (doubt.Unread, told)

-- a doubt that is refused is told by what it is of
pub named : (request book : List ℕ) (c : RolloutCall) (d : Doubt) (remark : Remark) → Says (NamesDoubt request book d) remark → NamesOne (doubt_subjects request book) (Doubted c d) remark
named request book c doubt.Unread Short told = inl (refl, tt)
named request book c doubt.Unread (Lines lines) told = inl (refl, told)
named request book c doubt.Unrecorded Short told = inr (inl (refl, tt))
named request book c doubt.Unrecorded (Lines lines) told = inr (inl (refl, told))
named request book c doubt.Foreign Short told = inr (inl (refl, tt))
named request book c doubt.Foreign (Lines lines) told = inr (inl (refl, told))

-- what is told of a doubt beside each request is told beside this one
pub for_request : (request book : List ℕ) (o : Option NotedDoubt) → IfSome o (λ d. (r : List ℕ) → Says (NamesDoubt r book d.doubt) d.remark) → IfSome o (λ d. Says (NamesDoubt request book d.doubt) d.remark)
for_request request book None told = tt
for_request request book (Some d) told = told request

-- lines that begin with a name do so with more behind them
pub named_still : (name lines more whole : List ℕ) → Names name lines → whole ≡ lines ++ more → Names name whole
unfolding Names
named_still name lines more whole (opening, rest, is) behind = (
  opening,
  rest ++ more,
  behind ∙ ap (λ (l : List ℕ). l ++ more) is ∙ append_assoc (opening_words opening) (quoted name ++ rest) more
      ∙ ap (λ (l : List ℕ). opening_words opening ++ l) (append_assoc (quoted name) rest more),
)

-- ---- answers that are doubted, or told of

module _ (strict : Bool) (refine : Option ℕ) (q : Question) where
  module _ (explain : Bool) (p : Planned) where
    pub plan_doubted : (e : Refused) → MayBePlanned refine q (Ok p) → (is_want e.refusal ≡ false → settle call.Plan strict (doubt_of q) ≡ Err e.refusal) → GivesOne outcome_view (Err e) (IsPlanOf strict explain refine (Ok q))
    plan_doubted e may refused = λ wanted. (Ok p, may, rw (refused wanted) refl, tt)

    -- a person is told of the doubt that was noted, of the plan in words, or of finer points
    pub plan_told : (noted told shown : Bool) (r : Result Outcome Refused) → MayBePlanned refine q (Ok p) → settle call.Plan strict (doubt_of q) ≡ Ok noted → told ≡ (explain || noted) → shown ≡ (told || is_finer (unwrap_or refine 1) (planned_view p))
        → GivesUnlessWant outcome_view r (beside shown (plan_report (planned_view p))) → IfOk r (λ o. Holds (planned_view p) o.text.items) → GivesOne outcome_view r (IsPlanOf strict explain refine (Ok q))
    plan_told noted told shown r may is first same given back =
        let whole : shown ≡ ((explain || noted) || is_finer (unwrap_or refine 1) (planned_view p)) = same ∙ ap (λ (b : Bool). b || is_finer (unwrap_or refine 1) (planned_view p)) first in
        go r (subst (λ (b : Bool). GivesUnlessWant outcome_view r (beside b (plan_report (planned_view p)))) whole given) back
      where
        go : (s : Result Outcome Refused) → GivesUnlessWant outcome_view s (beside ((explain || noted) || is_finer (unwrap_or refine 1) (planned_view p)) (plan_report (planned_view p))) → IfOk s (λ o. Holds (planned_view p) o.text.items) → GivesOne outcome_view s (IsPlanOf strict explain refine (Ok q))
        go (Ok o) given back = (Ok p, may, rw is (sym given), back)
        go (Err e) given back = λ wanted. (Ok p, may, rw is (sym (given wanted)), tt)

  module _ (json : Bool) (answer : Answer) where
    pub verdict_doubted : (e : Refused) → MayBeTold refine q answer (Ok tt) → (is_want e.refusal ≡ false → settle call.Verify strict (doubt_of q) ≡ Err e.refusal)
        → GivesOne outcome_view (Err e) (IsVerdict strict json refine (Ok q) (Ok answer))
    verdict_doubted e may refused = λ wanted. (Ok tt, may, rw (refused wanted) refl)

    pub verdict_told : (noted : Bool) (r : Result Outcome Refused) → MayBeTold refine q answer (Ok tt) → settle call.Verify strict (doubt_of q) ≡ Ok noted
        → GivesUnlessWant outcome_view r (beside noted (done (valid_as json answer))) → GivesOne outcome_view r (IsVerdict strict json refine (Ok q) (Ok answer))
    verdict_told noted (Ok o) may is given = (Ok tt, may, rw is (sym given))
    verdict_told noted (Err e) may is given = λ wanted. (Ok tt, may, rw is (sym (given wanted)))

-- ---- what is told of one of some is told of one of more

pub tells_left : {X : Type 0} (xs ys : Subjects) (e : Refused) (r : Result X Refused) → r ≡ Err e → (is_want e.refusal ≡ false → NamesOne xs e.refusal e.remark) → TellsOfOne (xs ++ ys) r
tells_left {X} xs ys e r is told = subst (λ (s : Result X Refused). TellsOfOne (xs ++ ys) s) (sym is) (λ wanted. told_left xs ys e.refusal e.remark (told wanted))

pub tells_among : {X : Type 0} (xs : Subjects) (s : Subject × (RolloutRefusal → Bool)) (ys : Subjects) (r : Result X Refused) → TellsOfOne (s ∷ []) r → TellsOfOne (xs ++ (s ∷ ys)) r
tells_among xs s ys (Ok x) told = tt
tells_among xs s ys (Err e) told = λ wanted. told_among xs s ys e.refusal e.remark (told wanted)

pub tells_right : {X : Type 0} (xs ys : Subjects) (r : Result X Refused) → TellsOfOne ys r → TellsOfOne (xs ++ ys) r
tells_right xs ys (Ok x) told = tt
tells_right xs ys (Err e) told = λ wanted. told_right xs ys e.refusal e.remark (told wanted)
