-- What is answered on the tally of a page of a book is answered on the book.
use Rattle.std.proofs.Common.{◌≡◌, ◌≢◌, ◌||◌, ◌∙◌, ℕ, List, [], ◌∷◌, length, Bool, false, Option, Some, None, unwrap_or, refl, sym, ap, ap₂, subst}
use Rattle.std.proofs.Math.Dec.{eqb-suc-zero}
use Rattle.std.specs.Prelude.{Result, Ok, Err, OnOk, nat_eq, option_and_then, is_some}
use Rattle.std.specs.Map.{lookup}
use Rattle.std.specs.Result.{result_ok}
use Rattle.std.specs.Str.{bytes_eq}
use Rattle.bucket_core.specs.Rule.{Entries}
use Rattle.book_core.specs.Book.{Contents, Inputs, inputs_on}
use Rattle.book_core.specs.Listing.{has_none}
use Rattle.book_core.specs.Page.{PageName}
use Rattle.book_core.specs.Site.{page_at}
use Rattle.flag_defs.specs.Definition.{Definition}
use Rattle.flag_defs.specs.Document.{Definitions}
use Rattle.flag_defs.specs.Flag.{targeting_in}
use Rattle.logic_ast.specs.Expression.{Expression}
use Rattle.logic_ast.specs.Sites.{parts_at}
use Rattle.logic_ast.specs.declared.fault.LogicFault.{LogicFault}
use Rattle.page_tally.specs.Foreign.{has_foreign}
use Rattle.plan_text.specs.Answer.{Answer, planned_view}
use Rattle.plan_text.specs.declared.planned.Planned.{Planned}
use Rattle.price_core.specs.Request.{Asked, asked_of}
use Rattle.price_core.specs.declared.fault.PriceFault.{PriceFault}
use Rattle.rollout.specs.Tallied.{PlansAreByCounts, TalliesAskAsBooks}
use Rattle.rollout.specs.Lawful.{Place, Problem, and_then, by_logic, by_price, or_refuse, place_in, problem_of}
use Rattle.rollout.specs.Plan.{IsPlanned, IsTallyPlanned}
use Rattle.rollout.specs.CheckedTally.{AreTallied, IsTallyOutcome, IsTallyShown, TallyProblem, tally_problem_of, with_inputs}
use Rattle.rollout.specs.Verified.{IsOutcome, IsShown, refining_for}
use Rattle.rollout.specs.declared.fault.RolloutFault.{RolloutFault}
use Rattle.rollout.specs.declared.fault.RolloutFault.TheVariants.{UnknownFlag, NoSite, OtherTally}
use Rattle.rollout.specs.declared.refining.Refining.{Refining}
use Rattle.rollout.specs.declared.refining.Refining.TheVariants.{Times}
use Rattle.rollout.specs.declared.verify_fault.VerifyFault.{VerifyFault}
use Rattle.rollout.specs.declared.verify_fault.VerifyFault.TheVariants.{Request, Check}
use Rattle.note_tallies.proofs.Pages.{same_page}
use Rattle.note_tallies.specs.JoinLaw.{IsTallyOf}
use Rattle.note_tallies.specs.Tally.{PageTally}
use Rattle.flagops_rollouts.proofs.Asked.{asked_is, placed, refused_alike}
use Rattle.flagops_rollouts.proofs.Valid.{outcome_over}
use Rattle.flagops_rollouts.specs.Doubts.{doubt_of, first_doubt, is_unread, recorded_doubt, settle}
use Rattle.flagops_rollouts.specs.Foreign.{is_foreign, is_mixed}
use Rattle.flagops_rollouts.specs.Finer.{is_finer}
use Rattle.flagops_rollouts.specs.Plan.{IsPlanOf, ReadsBack, plan_report, report_planned}
use Rattle.flagops_rollouts.specs.Tallies.{TalliesPlanAsAnyBooks, TalliesPlanAsBooks, TalliesTellAsAnyBooks, TalliesTellAsBooks, over}
use Rattle.flagops_rollouts.specs.Unrecorded.{is_bare, is_unrecorded, page_asked, page_in}
use Rattle.flagops_rollouts.specs.Verify.{told}
use Rattle.flagops_shell.specs.Outcomes.{beside}
use Rattle.flagops_shell.specs.Report.{Report}
use Rattle.flagops_rollouts.specs.declared.refusal.RolloutCall.TheVariants as call
use Rattle.flagops_rollouts.specs.declared.refusal.Doubt.{Doubt}
use Rattle.flagops_rollouts.specs.declared.refusal.RolloutRefusal.{RolloutRefusal}
use Rattle.flagops_files.specs.declared.evidence.Evidence.TheVariants.{Book, Tally}

refused : {X E : Type 0} {e : E} {x : X} → Err e ≡ Ok x → ⊥
refused h = cc

-- ---- the page of a request

module _ (key : List ℕ) (site : ℕ) (place : Place) where
  in_parts : {P : Type 0} (flag : Definition) (parts : Result (P × Entries) LogicFault) (page : Result PageName LogicFault)
      → and_then (by_logic parts) (λ it. and_then (by_logic page) (λ at. Ok (record { flag = flag; entries = it.1; page = at }))) ≡ Ok place → result_ok page ≡ Some place.page
  in_parts flag (Err e) page h = absurd (refused h)
  in_parts flag (Ok it) (Err e) h = absurd (refused h)
  in_parts flag (Ok it) (Ok at) h =
      let made : Place = record { flag = flag; entries = it.1; page = at } in
      let same : made ≡ place = cc in
      ap (λ (x : Place). Some x.page) same

  in_targeting : (flag : Definition) (o : Option Expression) → and_then (or_refuse NoSite o) (λ targeting. place_in key site flag targeting) ≡ Ok place
      → option_and_then (λ targeting. result_ok (page_at key site targeting)) o ≡ Some place.page
  in_targeting flag None h = absurd (refused h)
  in_targeting flag (Some targeting) h = in_parts flag (parts_at site targeting) (page_at key site targeting) h

  in_flag : (o : Option Definition) → and_then (or_refuse UnknownFlag o) (λ flag. and_then (or_refuse NoSite (targeting_in flag)) (λ targeting. place_in key site flag targeting)) ≡ Ok place
      → page_in key site o ≡ Some place.page
  in_flag None h = absurd (refused h)
  in_flag (Some flag) h = in_targeting flag (targeting_in flag) h

read_so : (r : Result Asked PriceFault) (asked : Asked) → by_price r ≡ Ok asked → result_ok r ≡ Some asked
read_so (Ok x) asked h = let same : x ≡ asked = cc in ap (λ (y : Asked). Some y) same
read_so (Err e) asked h = absurd (refused h)

page_is : (refining : Refining) (flags : Definitions) (request : List ℕ) (t : PageTally) (p : TallyProblem) → tally_problem_of refining flags request t ≡ Ok p → page_asked flags (result_ok (asked_of request)) ≡ Some t.page
page_is refining flags request t p h =
    let is = placed refining flags request t p h in
    let asks = asked_is t is.asked is.place refining p is.asks in
    ap (page_asked flags) (read_so (asked_of request) is.asked is.reads)
    ∙ (in_flag is.asked.flag is.asked.site is.place (lookup (bytes_eq is.asked.flag) flags) is.stands ∙ ap (λ (page : PageName). Some page) (same_page is.place.page t.page asks.page))

none_or_some : (inputs : Inputs) → nat_eq (length inputs) 0 ≡ has_none inputs
none_or_some [] = refl
none_or_some (input ∷ inputs) = eqb-suc-zero (length inputs)

unrecorded_alike : (refining : Refining) (flags : Definitions) (request : List ℕ) (book : Contents) (t : PageTally) (p : TallyProblem) → IsTallyOf (inputs_on book t.page) t → tally_problem_of refining flags request t ≡ Ok p
    → is_unrecorded (over flags request (Tally t)) ≡ is_unrecorded (over flags request (Book book))
unrecorded_alike refining flags request book t p of h =
    let page = page_is refining flags request t p h in
    ap (is_bare (Tally t)) page ∙ (ap (λ n. nat_eq n 0) of.inputs ∙ (none_or_some (inputs_on book t.page) ∙ sym (ap (is_bare (Book book)) page)))

foreign_alike : (refining : Refining) (flags : Definitions) (request : List ℕ) (book : Contents) (t : PageTally) (p : TallyProblem) → has_foreign t.page (inputs_on book t.page) ≡ false → tally_problem_of refining flags request t ≡ Ok p
    → is_foreign (over flags request (Tally t)) ≡ is_foreign (over flags request (Book book))
foreign_alike refining flags request book t p own h =
    let page = page_is refining flags request t p h in
    ap (is_mixed (Tally t)) page ∙ (sym own ∙ sym (ap (is_mixed (Book book)) page))

doubted_alike : (refining : Refining) (flags : Definitions) (request : List ℕ) (book : Contents) (t : PageTally) (p : TallyProblem) → IsTallyOf (inputs_on book t.page) t → has_foreign t.page (inputs_on book t.page) ≡ false
    → tally_problem_of refining flags request t ≡ Ok p → doubt_of (over flags request (Tally t)) ≡ doubt_of (over flags request (Book book))
doubted_alike refining flags request book t p of own h =
    ap (first_doubt (is_unread request)) (ap₂ recorded_doubt (unrecorded_alike refining flags request book t p of h) (foreign_alike refining flags request book t p own h))

-- ---- answers

refused_planned : (f : RolloutFault) (it : Result Planned RolloutFault) → IsTallyPlanned (Err f) it → IsPlanned (Err f) it
refused_planned f (Ok a) plan = plan
refused_planned f (Err e) plan = plan

refused_back : (f : RolloutFault) (it : Result Planned RolloutFault) → IsPlanned (Err f) it → IsTallyPlanned (Err f) it
refused_back f (Ok a) plan = plan
refused_back f (Err e) plan = plan

plan_over : (p : TallyProblem) (inputs : Inputs) (it : Result Planned RolloutFault) → AreTallied p inputs → IsTallyPlanned (Ok p) it → IsPlanned (Ok (with_inputs p inputs)) it
plan_over p inputs (Ok a) tallied plan = plan inputs tallied
plan_over p inputs (Err e) tallied plan = plan

plan_back : PlansAreByCounts → (p : TallyProblem) (inputs : Inputs) (it : Result Planned RolloutFault) → AreTallied p inputs → IsPlanned (Ok (with_inputs p inputs)) it → IsTallyPlanned (Ok p) it
plan_back counts p inputs (Ok a) tallied plan = λ others of_others. counts p inputs others (planned_view a) tallied of_others plan
plan_back counts p inputs (Err e) tallied plan = plan

refused_told : (f : RolloutFault) (answer : Answer) (verdict : Result (Unit {0}) VerifyFault) → IsTallyOutcome (Err f) answer verdict → IsOutcome (Err f) answer verdict
refused_told f answer (Ok u) outcome = outcome
refused_told f answer (Err (Request e)) outcome = outcome
refused_told f answer (Err (Check e)) outcome = outcome

on_ok : {P Q : Type 0} (verdict : Result (Unit {0}) VerifyFault) → (P → Q) → OnOk verdict P → OnOk verdict Q
on_ok (Ok u) f p = f p
on_ok (Err e) f p = p

module _ (asks : TalliesAskAsBooks) (refining : Refining) (flags : Definitions) (request : List ℕ) (book : Contents) (t : PageTally) (of : IsTallyOf (inputs_on book t.page) t) (apart : tally_problem_of refining flags request t ≢ Err OtherTally) where
  refused_so : (f : RolloutFault) → tally_problem_of refining flags request t ≡ Err f → problem_of refining flags request book ≡ Err f
  refused_so f is = refused_alike refining flags request book t f (λ other. apart (is ∙ ap (λ (e : RolloutFault). Err e) other)) is

  planned_to : (r : Result TallyProblem RolloutFault) (it : Result Planned RolloutFault) → tally_problem_of refining flags request t ≡ r → IsTallyPlanned r it → IsPlanned (problem_of refining flags request book) it
  planned_to (Err f) it is plan = subst (λ (b : Result Problem RolloutFault). IsPlanned b it) (sym (refused_so f is)) (refused_planned f it plan)
  planned_to (Ok p) it is plan =
      let alike = asks refining flags request book t p of is in
      subst (λ (b : Result Problem RolloutFault). IsPlanned b it) (sym alike.0) (plan_over p (inputs_on book t.page) it alike.1 plan)

  planned_back : PlansAreByCounts → (r : Result TallyProblem RolloutFault) (it : Result Planned RolloutFault) → tally_problem_of refining flags request t ≡ r → IsPlanned (problem_of refining flags request book) it → IsTallyPlanned r it
  planned_back counts (Err f) it is plan = refused_back f it (subst (λ (b : Result Problem RolloutFault). IsPlanned b it) (refused_so f is) plan)
  planned_back counts (Ok p) it is plan =
      let alike = asks refining flags request book t p of is in
      plan_back counts p (inputs_on book t.page) it alike.1 (subst (λ (b : Result Problem RolloutFault). IsPlanned b it) alike.0 plan)

  planned_beside : has_foreign t.page (inputs_on book t.page) ≡ false → (m : ℕ) (strict explain : Bool) (r : Result TallyProblem RolloutFault) (it : Result Planned RolloutFault) → tally_problem_of refining flags request t ≡ r → IsTallyPlanned r it
      → report_planned m explain (settle call.Plan strict (doubt_of (over flags request (Tally t)))) it ≡ report_planned m explain (settle call.Plan strict (doubt_of (over flags request (Book book)))) it
  planned_beside own m strict explain r (Err e) is plan = refl
  planned_beside own m strict explain (Err f) (Ok a) is plan = absurd plan
  planned_beside own m strict explain (Ok p) (Ok a) is plan = ap (λ (d : Option Doubt). report_planned m explain (settle call.Plan strict d) (Ok a)) (doubted_alike refining flags request book t p of own is)

  module _ (answer : Answer) (verdict : Result (Unit {0}) VerifyFault) where
    told_to : (r : Result TallyProblem RolloutFault) → tally_problem_of refining flags request t ≡ r → IsTallyOutcome r answer verdict → IsOutcome (problem_of refining flags request book) answer verdict
    told_to (Err f) is outcome = subst (λ (b : Result Problem RolloutFault). IsOutcome b answer verdict) (sym (refused_so f is)) (refused_told f answer verdict outcome)
    told_to (Ok p) is outcome =
        let alike = asks refining flags request book t p of is in
        subst (λ (b : Result Problem RolloutFault). IsOutcome b answer verdict) (sym alike.0) (outcome_over p (inputs_on book t.page) answer verdict alike.1 outcome)

    shown_to : (r : Result TallyProblem RolloutFault) → tally_problem_of refining flags request t ≡ r → IsTallyShown r answer → IsShown (problem_of refining flags request book) answer
    shown_to (Err f) is shown = absurd shown
    shown_to (Ok p) is shown =
        let alike = asks refining flags request book t p of is in
        subst (λ (b : Result Problem RolloutFault). IsShown b answer) (sym alike.0) (shown (inputs_on book t.page) alike.1)

  told_beside : has_foreign t.page (inputs_on book t.page) ≡ false → (strict json : Bool) (answer : Answer) (verdict : Result (Unit {0}) VerifyFault) (r : Result TallyProblem RolloutFault) → tally_problem_of refining flags request t ≡ r → IsTallyOutcome r answer verdict
      → told json (settle call.Verify strict (doubt_of (over flags request (Tally t)))) answer verdict ≡ told json (settle call.Verify strict (doubt_of (over flags request (Book book)))) answer verdict
  told_beside own strict json answer (Err e) r is outcome = refl
  told_beside own strict json answer (Ok u) (Err f) is outcome = absurd outcome
  told_beside own strict json answer (Ok u) (Ok p) is outcome = ap (λ (d : Option Doubt). told json (settle call.Verify strict d) answer (Ok u)) (doubted_alike refining flags request book t p of own is)

-- ---- the laws

pub plans_alike : PlansAreByCounts → TalliesAskAsBooks → TalliesPlanAsBooks
plans_alike counts asks strict explain refine flags request book t r of apart own = (to, from)
  where
    refining : Refining
    refining = Times (unwrap_or refine 1)

    to : IsPlanOf strict explain refine (Ok (over flags request (Tally t))) r → IsPlanOf strict explain refine (Ok (over flags request (Book book))) r
    to (it, may, is, back) = (
      it,
      record { answers = planned_to asks refining flags request book t of apart (tally_problem_of refining flags request t) it refl may.answers; ordered = may.ordered; whole = may.whole },
      is ∙ planned_beside asks refining flags request book t of apart own (unwrap_or refine 1) strict explain (tally_problem_of refining flags request t) it refl may.answers,
      back,
    )

    from : IsPlanOf strict explain refine (Ok (over flags request (Book book))) r → IsPlanOf strict explain refine (Ok (over flags request (Tally t))) r
    from (it, may, is, back) =
        let plan = planned_back asks refining flags request book t of apart counts (tally_problem_of refining flags request t) it refl may.answers in (
          it,
          record { answers = plan; ordered = may.ordered; whole = may.whole },
          is ∙ sym (planned_beside asks refining flags request book t of apart own (unwrap_or refine 1) strict explain (tally_problem_of refining flags request t) it refl plan),
          back,
        )

pub tells_alike : TalliesAskAsBooks → TalliesTellAsBooks
tells_alike asks strict json None flags request book t answer r of apart own (verdict, may, is) =
    let refining = refining_for answer in (
      verdict,
      record {
        told = told_to asks refining flags request book t of apart answer verdict (tally_problem_of refining flags request t) refl may.told;
        shown = on_ok verdict (shown_to asks refining flags request book t of apart answer verdict (tally_problem_of refining flags request t) refl) may.shown;
      },
      is ∙ told_beside asks refining flags request book t of apart own strict json answer verdict (tally_problem_of refining flags request t) refl may.told,
    )
tells_alike asks strict json (Some m) flags request book t answer r of apart own (verdict, may, is) =
    let refining = Times m in (
      verdict,
      record {
        told = told_to asks refining flags request book t of apart answer verdict (tally_problem_of refining flags request t) refl may.told;
        shown = on_ok verdict (shown_to asks refining flags request book t of apart answer verdict (tally_problem_of refining flags request t) refl) may.shown;
      },
      is ∙ told_beside asks refining flags request book t of apart own strict json answer verdict (tally_problem_of refining flags request t) refl may.told,
    )

-- ---- where no doubt is refused they differ in what is told

told_again : (b c : Bool) (r : Result Report RolloutRefusal) → beside b r ≡ beside b (beside c r)
told_again b c (Ok report) = refl
told_again b c (Err e) = refl

-- that what was planned has finer points is told on both
abbrev finer_in : ℕ → Result Planned RolloutFault → Bool
finer_in m (Ok p) = is_finer m (planned_view p)
finer_in m (Err f) = false

noted_planned : (m : ℕ) (explain : Bool) (d e : Option Doubt) (it : Result Planned RolloutFault)
    → beside ((explain || is_some e) || finer_in m it) (report_planned m explain (settle call.Plan false d) it) ≡ report_planned m explain (settle call.Plan false e) it
noted_planned m explain d e (Err f) = refl
noted_planned m explain d e (Ok p) = sym (told_again ((explain || is_some e) || is_finer m (planned_view p)) ((explain || is_some d) || is_finer m (planned_view p)) (plan_report (planned_view p)))

noted_told : (json : Bool) (d e : Option Doubt) (answer : Answer) (verdict : Result (Unit {0}) VerifyFault) → beside (is_some e) (told json (settle call.Verify false d) answer verdict) ≡ told json (settle call.Verify false e) answer verdict
noted_told json d e answer (Err f) = refl
noted_told json d e answer (Ok u) = refl

reads_beside : (it : Result Planned RolloutFault) (b : Bool) (r : Result Report RolloutRefusal) → ReadsBack it r → ReadsBack it (beside b r)
reads_beside (Err e) b r back = tt
reads_beside (Ok p) b (Err e) back = tt
reads_beside (Ok p) b (Ok report) back = back

pub plans_as_any : PlansAreByCounts → TalliesAskAsBooks → TalliesPlanAsAnyBooks
plans_as_any counts asks explain refine flags request book t r of apart = (to, from)
  where
    refining : Refining
    refining = Times (unwrap_or refine 1)

    on_tally : Option Doubt
    on_tally = doubt_of (over flags request (Tally t))

    on_book : Option Doubt
    on_book = doubt_of (over flags request (Book book))

    to : IsPlanOf false explain refine (Ok (over flags request (Tally t))) r → (noted : Bool) × IsPlanOf false explain refine (Ok (over flags request (Book book))) (beside noted r)
    to (it, may, is, back) = (
      (explain || is_some on_book) || finer_in (unwrap_or refine 1) it,
      (
        it,
        record { answers = planned_to asks refining flags request book t of apart (tally_problem_of refining flags request t) it refl may.answers; ordered = may.ordered; whole = may.whole },
        ap (beside ((explain || is_some on_book) || finer_in (unwrap_or refine 1) it)) is ∙ noted_planned (unwrap_or refine 1) explain on_tally on_book it,
        reads_beside it ((explain || is_some on_book) || finer_in (unwrap_or refine 1) it) r back,
      ),
    )

    from : IsPlanOf false explain refine (Ok (over flags request (Book book))) r → (noted : Bool) × IsPlanOf false explain refine (Ok (over flags request (Tally t))) (beside noted r)
    from (it, may, is, back) = (
      (explain || is_some on_tally) || finer_in (unwrap_or refine 1) it,
      (
        it,
        record { answers = planned_back asks refining flags request book t of apart counts (tally_problem_of refining flags request t) it refl may.answers; ordered = may.ordered; whole = may.whole },
        ap (beside ((explain || is_some on_tally) || finer_in (unwrap_or refine 1) it)) is ∙ noted_planned (unwrap_or refine 1) explain on_book on_tally it,
        reads_beside it ((explain || is_some on_tally) || finer_in (unwrap_or refine 1) it) r back,
      ),
    )

pub tells_as_any : TalliesAskAsBooks → TalliesTellAsAnyBooks
tells_as_any asks json None flags request book t answer r of apart (verdict, may, is) =
    let refining = refining_for answer in
    let on_tally = doubt_of (over flags request (Tally t)) in
    let on_book = doubt_of (over flags request (Book book)) in (
      is_some on_book,
      (
        verdict,
        record {
          told = told_to asks refining flags request book t of apart answer verdict (tally_problem_of refining flags request t) refl may.told;
          shown = on_ok verdict (shown_to asks refining flags request book t of apart answer verdict (tally_problem_of refining flags request t) refl) may.shown;
        },
        ap (beside (is_some on_book)) is ∙ noted_told json on_tally on_book answer verdict,
      ),
    )
tells_as_any asks json (Some m) flags request book t answer r of apart (verdict, may, is) =
    let refining = Times m in
    let on_tally = doubt_of (over flags request (Tally t)) in
    let on_book = doubt_of (over flags request (Book book)) in (
      is_some on_book,
      (
        verdict,
        record {
          told = told_to asks refining flags request book t of apart answer verdict (tally_problem_of refining flags request t) refl may.told;
          shown = on_ok verdict (shown_to asks refining flags request book t of apart answer verdict (tally_problem_of refining flags request t) refl) may.shown;
        },
        ap (beside (is_some on_book)) is ∙ noted_told json on_tally on_book answer verdict,
      ),
    )
