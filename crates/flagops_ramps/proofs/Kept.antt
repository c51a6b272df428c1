-- What comes of a step that is put into a document.
use Rattle.std.proofs.Common.{◌≡◌, ◌≢◌, ◌∙◌, ◌||◌, ap, ℕ, zero, suc, ◌-◌, Bool, true, false, List, [], ◌∷◌, drop, map, Option, Some, None, IfSome, refl, sym, subst, Vec, Global}
use Rattle.std.specs.Prelude.{Result, Ok, Err, is_ok, slice_get}
use Rattle.flagops_files.specs.Loading.{max_text}
use Rattle.flagops_files.specs.Question.{Question, IsQuestionAt, question_view}
use Rattle.flagops_files.specs.Refusal as files
use Rattle.flagops_files.specs.declared.evidence.Evidence.{Evidence}
use Rattle.flagops_files.specs.declared.evidence.Evidence.TheVariants.{Book, Tally}
use Rattle.bucket_core.specs.Rule.{Entries}
use Rattle.flag_defs.specs.Document.{Definitions}
use Rattle.flagops_rollouts.proofs.Edited.{asked_there, left_after}
use Rattle.flagops_rollouts.specs.Keep.{IsKeptAt, IsKeptPut, Kept, LeavesDocument, kept_view}
use Rattle.flagops_rollouts.specs.Refusal as rolling
use Rattle.flagops_rollouts.specs.Verify.{MayBeTold}
use Rattle.flagops_rollouts.specs.declared.refusal.RolloutRefusal.{RolloutRefusal}
use Rattle.flagops_shell.proofs.Kept.{kept_after}
use Rattle.flagops_shell.proofs.Lifted.{given_one, refused_one, not_want as not_rolled}
use Rattle.flagops_shell.specs.Ending.{KeepsUnlessDone}
use Rattle.flagops_shell.specs.Files.{Holding, load_of}
use Rattle.flagops_shell.specs.Outcomes.{Lifts}
use Rattle.flagops_shell.specs.Report.{Report, outcome_view}
use Rattle.flagops_shell.specs.declared.outcome.Outcome.{Outcome}
use Rattle.plan_text.specs.Answer.{Answer, emit, planned_view}
use Rattle.plan_text.specs.declared.planned.Planned.{Planned}
use Rattle.price_core.specs.Request.{Asked, asked_of}
use Rattle.transport_core.specs.Certificate.{DualPrices}
use Rattle.ramp.specs.Right.{AreRight, IsRight, IsTold}
use Rattle.ramp.specs.declared.fault.RampFault.{RampFault}
use Rattle.ramp.specs.Steps.{requests_view, steps_of}
use Rattle.ramp.specs.declared.file_fault.StepsFault.{StepsFault}
use Rattle.ramp.specs.declared.file_fault.StepsFault.TheVariants as steps
use Rattle.rollout.specs.declared.verify_fault.VerifyFault.TheVariants.{Request}
use Rattle.flagops_ramps.specs.Doubts.{first_question, first_request}
use Rattle.flagops_ramps.specs.Judging.{answers_at, refused_as}
use Rattle.flagops_ramps.specs.Apply.{answer_to}
use Rattle.flagops_ramps.specs.Keep as keeping
use Rattle.flagops_ramps.specs.Keep.{IsKeepOf, IsKeepOver, IsKeepReport, IsKeptFrom, IsKeptOnto, IsKeptWith, IsPut, from_step, is_left}
use Rattle.flagops_ramps.specs.Ramp.{of_steps, recorded}
use Rattle.flagops_ramps.specs.Refusal.{is_want}
use Rattle.flagops_ramps.specs.Report.{GivesOne, Told}
use Rattle.flagops_ramps.specs.Words.{Keeping}
use Rattle.flagops_ramps.specs.declared.refusal.RampRefusal.{RampRefusal}
use Rattle.flagops_ramps.specs.declared.refusal.RampRefusal.TheVariants.{Load, NoStep, OtherRule, Rollout, Verify}
use Rattle.flagops_ramps.proofs.Loaded.{not_want}
use Rattle.flagops_ramps.proofs.Stepped.{other_steps, other_verify}

-- ---- a right answer is to a request that is read

-- what is told of it as of an answer to one request
told_first : (refine : Option ℕ) (flags : Definitions) (request : List ℕ) (answer : Answer) (evidence : Evidence) → IsRight (Ok flags) refine request (recorded evidence) answer
    → MayBeTold refine (record { flags = flags; request = request; evidence = evidence }) answer (Ok tt)
told_first refine flags request answer (Book book) right = record { told = right.told; shown = right.shown }
told_first refine flags request answer (Tally tally) right = record { told = right.told; shown = right.shown }

pub asked_first : (refine : Option ℕ) (q : Question) (requests : List (List ℕ)) (answer : Answer) (answers : List Answer) → AreRight (Ok q.flags) refine requests (recorded q.evidence) (answer ∷ answers) → is_ok (asked_of (first_request requests)) ≡ true
asked_first refine q [] answer answers right = absurd right
asked_first refine q (request ∷ requests) answer answers right = asked_there refine (first_question q (request ∷ requests)) answer (told_first refine q.flags request answer q.evidence right.0)

-- ---- the document

-- what was made by right answers, or why there is none
module _ (floats : Bool) (refine : Option ℕ) (document : List ℕ) (q : Question) (requests : List (List ℕ)) (before : Option Answer) where
  pub kept_right : (answer : Answer) (answers : List Answer) (r : Result (Option (Vec ℕ Global)) Told) → AreRight (Ok q.flags) refine requests (recorded q.evidence) (answer ∷ answers)
      → GivesOne kept_view r (IsKeptWith floats document q.flags (first_request requests) before answer) → GivesOne kept_view r (IsKeptFrom floats refine document q requests before (answer ∷ answers))
  kept_right answer answers (Ok o) right gives = (Ok tt, right, gives)
  kept_right answer answers (Err t) right gives = λ no_want. (Ok tt, right, gives no_want)

  pub kept_wrong : (answer : Answer) (answers : List Answer) (e : RampFault) (t : Told) → IsTold (Ok q.flags) refine requests (recorded q.evidence) (answer ∷ answers) (Err e) → t.refusal ≡ refused_as e
      → GivesOne kept_view (Err t) (IsKeptFrom floats refine document q requests before (answer ∷ answers))
  kept_wrong answer answers e t told is = λ no_want. (Err e, told, ap Err is)

  -- of the answers that were read there is none, or the first is put
  pub from_none : (planned : List Planned) → None ≡ slice_get planned 0 → IsKeptFrom floats refine document q requests before (map planned_view planned) (Err NoStep)
  from_none [] is = refl
  from_none (p ∷ ps) is = cc

  pub from_asked : (planned : List Planned) (first : Planned) (factor : Option ℕ) (request : List ℕ) → Some first ≡ slice_get planned 0 → factor ≡ refine → request ≡ first_request requests
      → IsTold (Ok q.flags) factor requests (recorded q.evidence) (map planned_view planned) (Ok tt) → is_ok (asked_of request) ≡ true
  from_asked [] first factor request is same_factor same_request told = cc
  from_asked (p ∷ ps) first factor request is same_factor same_request told =
      ap (λ (s : List ℕ). is_ok (asked_of s)) same_request
      ∙ asked_first refine q requests (planned_view p) (map planned_view ps) (subst (λ (f : Option ℕ). IsTold (Ok q.flags) f requests (recorded q.evidence) (map planned_view (p ∷ ps)) (Ok tt)) same_factor told)

  pub from_right : (planned : List Planned) (first : Planned) (factor : Option ℕ) (request : List ℕ) (r : Result (Option (Vec ℕ Global)) Told) → Some first ≡ slice_get planned 0 → factor ≡ refine → request ≡ first_request requests
      → IsTold (Ok q.flags) factor requests (recorded q.evidence) (map planned_view planned) (Ok tt) → GivesOne kept_view r (IsKeptWith floats document q.flags request before (planned_view first))
      → GivesOne kept_view r (IsKeptFrom floats refine document q requests before (map planned_view planned))
  from_right [] first factor request r is same_factor same_request told gives = cc
  from_right (p ∷ ps) first factor request r is same_factor same_request told gives =
      let same : first ≡ p = cc in
      kept_right (planned_view p) (map planned_view ps) r (subst (λ (f : Option ℕ). IsTold (Ok q.flags) f requests (recorded q.evidence) (map planned_view (p ∷ ps)) (Ok tt)) same_factor told)
      (subst (λ (s : List ℕ). GivesOne kept_view r (IsKeptWith floats document q.flags s before (planned_view p))) same_request
      (subst (λ (x : Planned). GivesOne kept_view r (IsKeptWith floats document q.flags request before (planned_view x))) same gives))

  pub from_wrong : (planned : List Planned) (first : Planned) (factor : Option ℕ) (e : RampFault) (t : Told) → Some first ≡ slice_get planned 0 → factor ≡ refine
      → IsTold (Ok q.flags) factor requests (recorded q.evidence) (map planned_view planned) (Err e) → t.refusal ≡ refused_as e → GivesOne kept_view (Err t) (IsKeptFrom floats refine document q requests before (map planned_view planned))
  from_wrong [] first factor e t is same_factor told refusal = cc
  from_wrong (p ∷ ps) first factor e t is same_factor told refusal =
      kept_wrong (planned_view p) (map planned_view ps) e t (subst (λ (f : Option ℕ). IsTold (Ok q.flags) f requests (recorded q.evidence) (map planned_view (p ∷ ps)) (Err e)) same_factor told) refusal

-- the rule of an answer, at the site of a request that was read
module _ (floats : Bool) (document : List ℕ) (flags : Definitions) (request : List ℕ) (asked : Asked) (there : asked_of request ≡ Ok asked) (before : Option Answer) (rule : Entries) (c : DualPrices) where
  pub onto : (r : Result (Option (Vec ℕ Global)) Told) → GivesOne kept_view r (IsKeptOnto floats document flags asked rule (is_left flags asked before)) → GivesOne kept_view r (IsKeptWith floats document flags request before (emit rule c))
  onto (Ok o) gives = (asked, there, gives)
  onto (Err t) gives = λ no_want. (asked, there, gives no_want)

-- the bytes are those that were loaded, and the place is the one that is asked for
pub at_place : (floats : Bool) (document bytes key : List ℕ) (flags : Definitions) (site : ℕ) (asked : Asked) (rule : Entries) (r : Result Kept RolloutRefusal) → bytes ≡ document → key ≡ asked.flag → site ≡ asked.site
    → IsKeptAt floats bytes flags key site rule r → IsKeptAt floats document flags asked.flag asked.site rule r
at_place floats document bytes key flags site asked rule r same_bytes same_key same_site kept =
    subst (λ (b : List ℕ). IsKeptAt floats b flags asked.flag asked.site rule r) same_bytes
    (subst (λ (k : List ℕ). IsKeptAt floats bytes flags k asked.site rule r) same_key
    (subst (λ (s : ℕ). IsKeptAt floats bytes flags key s rule r) same_site kept))

-- the step before left another rule, or the one that stands there
module _ (floats : Bool) (document : List ℕ) (flags : Definitions) (asked : Asked) (rule : Entries) where
  pub onto_other : (b : Bool) → false ≡ b → IsKeptOnto floats document flags asked rule b (Err OtherRule)
  onto_other b is = subst (λ (x : Bool). IsKeptOnto floats document flags asked rule x (Err OtherRule)) is refl

  pub onto_left : (b : Bool) (v : Vec ℕ Global) → true ≡ b → IsKeptAt floats document flags asked.flag asked.site rule (Ok (Some v.items)) → IsKeptOnto floats document flags asked rule b (Ok (Some v.items))
  onto_left b v is kept = subst (λ (x : Bool). IsKeptOnto floats document flags asked rule x (Ok (Some v.items))) is (Ok (Some v.items), kept, refl)

  pub onto_refused : (b : Bool) (e : rolling.Refused) (t : Told) → t.refusal ≡ Rollout e.refusal → true ≡ b → (rolling.is_want e.refusal ≡ false → IsKeptAt floats document flags asked.flag asked.site rule (Err e.refusal)) → is_want t.refusal ≡ false
      → IsKeptOnto floats document flags asked rule b (Err t.refusal)
  onto_refused b e t same is kept no_want =
      let wanted = not_rolled rolling.is_want is_want Rollout (λ x. refl) e t same no_want in
      subst (λ (x : Bool). IsKeptOnto floats document flags asked rule x (Err t.refusal)) is (Err e.refusal, kept wanted, ap Err same)

-- ---- the report

module _ (k : Keeping) (document : List ℕ) (q : Question) where
  module _ (answers : List Answer) (requests : List (List ℕ)) where
    abbrev settled : Result Bool RampRefusal
    settled = keeping.settled k q requests answers

    abbrev IsKept : Result Kept RampRefusal → Type 0
    IsKept kept = IsKeptFrom k.answered.rollout.floats k.answered.rollout.refine document q (from_step k.step requests) (answer_to answers (k.step - 1)) (from_step k.step answers) kept

    abbrev IsOver : Option Holding → Option Holding → Result Outcome Told → Type 0
    IsOver old after r = IfSome old (λ at. GivesOne outcome_view r (IsKeepOver at after k document q answers (Ok requests)))

    -- memory that ran out
    pub over_want : (old after : Option Holding) (t : Told) → is_want t.refusal ≡ true → IsOver old after (Err t)
    over_want None after t want = tt
    over_want (Some at) after t want = λ no_want. absurd (let both : true ≡ false = sym want ∙ no_want in cc)

    -- of a question whose book was made to count
    pub over_counted : (old after : Option Holding) (counted : List ℕ) (made : Question) (r : Result Outcome Told) → counted ≡ document → made ≡ q
        → IfSome old (λ at. GivesOne outcome_view r (IsKeepOver at after k counted made answers (Ok requests))) → IsOver old after r
    over_counted old after counted made r same_document same_question over =
        subst (λ (d : List ℕ). IfSome old (λ at. GivesOne outcome_view r (IsKeepOver at after k d q answers (Ok requests)))) same_document
        (subst (λ (it : Question). IfSome old (λ at. GivesOne outcome_view r (IsKeepOver at after k counted it answers (Ok requests)))) same_question over)

    -- no document
    pub over_unkept : (old after : Option Holding) (t : Told) (r : Result Outcome Told) → r ≡ Err t → after ≡ old → (is_want t.refusal ≡ false → IsKept (Err t.refusal)) → IsOver old after r
    over_unkept old after t r is same kept = subst (IsOver old after) (sym is) (go old same)
      where
        go : (h : Option Holding) → after ≡ h → IsOver h after (Err t)
        go None same = tt
        go (Some at) same = λ no_want. (Err t.refusal, kept no_want, (refl, same))

    -- a doubt that is refused
    pub over_doubted : (old after : Option Holding) (kept : Kept) (t : Told) (r : Result Outcome Told) → r ≡ Err t → after ≡ old → IsKept (Ok kept) → (is_want t.refusal ≡ false → settled ≡ Err t.refusal) → IsOver old after r
    over_doubted old after kept t r is same made refused = subst (IsOver old after) (sym is) (go old same)
      where
        go : (h : Option Holding) → after ≡ h → IsOver h after (Err t)
        go None same = tt
        go (Some at) same = λ no_want. (Ok kept, made, subst (λ (s : Result Bool RampRefusal). IsPut at after k s (Ok kept) (Err t.refusal)) (sym (refused no_want)) (refl, same))

    -- and what is put
    pub over_put : (old after : Option Holding) (kept : Kept) (told : Bool) (r : Result Outcome Told) → settled ≡ Ok told → IsKept (Ok kept)
        → IfSome old (λ at. GivesOne outcome_view r (Lifts Rollout (IsKeptPut at after k.answered.rollout.document k.write told kept))) → IsOver old after r
    over_put old after kept told r is made put = go old put
      where
        ends : (at : Holding) (s : Result Outcome Told) → GivesOne outcome_view s (IsPut at after k settled (Ok kept)) → GivesOne outcome_view s (IsKeepOver at after k document q answers (Ok requests))
        ends at (Ok o) put = (Ok kept, made, put)
        ends at (Err t) put = λ no_want. (Ok kept, made, put no_want)

        go : (h : Option Holding) → IfSome h (λ at. GivesOne outcome_view r (Lifts Rollout (IsKeptPut at after k.answered.rollout.document k.write told kept))) → IsOver h after r
        go None put = tt
        go (Some at) put = ends at r (subst (λ (s : Result Bool RampRefusal). GivesOne outcome_view r (IsPut at after k s (Ok kept))) (sym is) put)

  abbrev IsOf : Option Holding → Option Holding → Result Outcome Told → Type 0
  IsOf old after r = IfSome old (λ at. GivesOne outcome_view r (IsKeepOf at after k document q (answers_at at k.answered.ramp)))

  abbrev AreAnswers : List Answer → Option Holding → Type 0
  AreAnswers answers old = IfSome old (λ at. answers_at at k.answered.ramp ≡ Ok answers)

  -- answers that were not read
  pub of_none : (old after : Option Holding) (t : Told) (r : Result Outcome Told) → r ≡ Err t → after ≡ old → IfSome old (λ at. is_want t.refusal ≡ false → answers_at at k.answered.ramp ≡ Err t.refusal) → IsOf old after r
  of_none old after t r is same none = subst (IsOf old after) (sym is) (go old same none)
    where
      go : (h : Option Holding) → after ≡ h → IfSome h (λ at. is_want t.refusal ≡ false → answers_at at k.answered.ramp ≡ Err t.refusal) → IsOf h after (Err t)
      go None same none = tt
      go (Some at) same none = λ no_want. subst (λ (a : Result (List Answer) RampRefusal). IsKeepOf at after k document q a (Err t.refusal)) (sym (none no_want)) (refl, same)

  -- steps that are refused
  pub of_no_steps : (old after : Option Holding) (answers : List Answer) (e : StepsFault) (t : Told) → after ≡ old → AreAnswers answers old → t.refusal ≡ Verify (Request (of_steps e)) → (e ≢ steps.WantOfMemory → steps_of q.request ≡ Err e) → IsOf old after (Err t)
  of_no_steps None after answers e t same there is refused = tt
  of_no_steps (Some at) after answers e t same there is refused = λ no_want.
      let none = refused (other_steps e (other_verify t.refusal (of_steps e) is no_want)) in
      subst (λ (a : Result (List Answer) RampRefusal). IsKeepOf at after k document q a (Err t.refusal)) (sym there)
      (subst (λ (s : Result (List (List ℕ)) StepsFault). IsKeepOver at after k document q answers s (Err t.refusal)) (sym none) (ap Err is, same))

  -- and both that were read
  pub of_both : (old mid after : Option Holding) (answers : List Answer) (requests : List (List ℕ)) (r : Result Outcome Told) → mid ≡ old → AreAnswers answers old → steps_of q.request ≡ Ok requests → IsOver answers requests mid after r → IsOf old after r
  of_both old mid after answers requests r same there read over = go old there (subst (λ (h : Option Holding). IsOver answers requests h after r) same over)
    where
      go : (h : Option Holding) → AreAnswers answers h → IsOver answers requests h after r → IsOf h after r
      go None there over = tt
      go (Some at) there over =
          subst (λ (a : Result (List Answer) RampRefusal). GivesOne outcome_view r (IsKeepOf at after k document q a)) (sym there)
          (subst (λ (s : Result (List (List ℕ)) StepsFault). GivesOne outcome_view r (IsKeepOver at after k document q answers s)) (sym read) over)

module _ (k : Keeping) where
  abbrev Is : Option Holding → Option Holding → Result Outcome Told → Type 0
  Is old after r = IfSome old (λ at. GivesOne outcome_view r (IsKeepReport at after k))

  pub no_question : (old after : Option Holding) (e : files.Refused) (t : Told) → t.refusal ≡ Load e.refusal → after ≡ old
      → IfSome old (λ at. files.GivesOne question_view (Err e) (IsQuestionAt k.answered.rollout.floats at k.answered.rollout.document k.answered.rollout.steps k.answered.rollout.book)) → Is old after (Err t)
  unfolding IsKeepReport
  no_question None after e t is same asked = tt
  no_question (Some at) after e t is same asked = λ no_want. (Err e.refusal, asked (not_want t e is no_want), (ap Err is, same))

  pub kept_whole : (old mid after : Option Holding) (document : List ℕ) (q : Question) (r : Result Outcome Told) → mid ≡ old
      → IfSome old (λ at. IsQuestionAt k.answered.rollout.floats at k.answered.rollout.document k.answered.rollout.steps k.answered.rollout.book (Ok q)) → IfSome old (λ at. load_of at k.answered.rollout.document max_text ≡ Ok document) → IsOf k document q mid after r → Is old after r
  unfolding IsKeepReport
  kept_whole old mid after document q r same asked loaded of = go old asked loaded (subst (λ (h : Option Holding). IsOf k document q h after r) same of)
    where
      ends : (at : Holding) (s : Result Outcome Told) → IsQuestionAt k.answered.rollout.floats at k.answered.rollout.document k.answered.rollout.steps k.answered.rollout.book (Ok q) → load_of at k.answered.rollout.document max_text ≡ Ok document
          → GivesOne outcome_view s (IsKeepOf at after k document q (answers_at at k.answered.ramp)) → GivesOne outcome_view s (IsKeepReport at after k)
      ends at (Ok o) asked loaded of = (Ok q, asked, (document, loaded, of))
      ends at (Err t) asked loaded of = λ no_want. (Ok q, asked, (document, loaded, of no_want))

      go : (h : Option Holding) → IfSome h (λ at. IsQuestionAt k.answered.rollout.floats at k.answered.rollout.document k.answered.rollout.steps k.answered.rollout.book (Ok q)) → IfSome h (λ at. load_of at k.answered.rollout.document max_text ≡ Ok document) → IsOf k document q h after r → Is h after r
      go None asked loaded of = tt
      go (Some at) asked loaded of = ends at r asked loaded of

-- ---- files that stayed until the document was put

pub left_once : (old mid new : Option Holding) (path : List ℕ) (write : Bool) → mid ≡ old → LeavesDocument mid new path write → LeavesDocument old new path write
left_once old mid new path write same left = left_after old mid mid new path write same refl left

pub kept_once : (old mid new : Option Holding) (r : Result Outcome Told) → mid ≡ old → KeepsUnlessDone mid new r → KeepsUnlessDone old new r
kept_once old mid new r same kept = kept_after old mid mid new r same refl kept

-- no file failed until then
or_false : (b : Bool) → (b || false) ≡ b
or_false true = refl
or_false false = refl

pub failed_once : (start first last fault : Bool) → first ≡ (start || false) → last ≡ (first || fault) → last ≡ (start || fault)
failed_once start first last fault a b = b ∙ ap (λ (x : Bool). x || fault) (a ∙ or_false start)

-- ---- what is put is put as `apply --keep` puts it

module _ (P : Holding → Result Report RolloutRefusal → Type 0) (old : Option Holding) where
  pub put_there : (o : Outcome) → IfSome old (λ at. P at (Ok (outcome_view o))) → IfSome old (λ at. Lifts Rollout (P at) (Ok (outcome_view o)))
  put_there o gives = given_one rolling.is_want is_want Rollout (λ e. refl) P old (outcome_view o) gives

  pub not_put : (e : rolling.Refused) (t : Told) → t.refusal ≡ Rollout e.refusal → IfSome old (λ at. rolling.is_want e.refusal ≡ false → P at (Err e.refusal)) → IfSome old (λ at. is_want t.refusal ≡ false → Lifts Rollout (P at) (Err t.refusal))
  not_put e t is gives = refused_one rolling.is_want is_want Rollout (λ e. refl) P old e t is gives

-- ---- the steps from one on

pub mapped : {X Y : Type 0} (f : X → Y) (n : ℕ) (xs : List X) → map f (drop n xs) ≡ drop n (map f xs)
mapped f zero xs = refl
mapped f (suc n) [] = refl
mapped f (suc n) (x ∷ xs) = mapped f n xs

pub requests_from : (step : ℕ) (steps rest : List (Vec ℕ Global)) → rest ≡ drop (step - 1) steps → requests_view rest ≡ from_step step (requests_view steps)
requests_from step steps rest is = ap requests_view is ∙ mapped (λ (v : Vec ℕ Global). v.items) (step - 1) steps

pub answers_from : (step : ℕ) (answers others : List Planned) → others ≡ drop (step - 1) answers → map planned_view others ≡ from_step step (map planned_view answers)
answers_from step answers others is = ap (map planned_view) is ∙ mapped planned_view (step - 1) answers

pub from_steps : (floats : Bool) (refine : Option ℕ) (document : List ℕ) (q : Question) (step : ℕ) (before : Option Answer) (steps rest : List (Vec ℕ Global)) (answers others : List Planned) (r : Result (Option (Vec ℕ Global)) Told) → before ≡ answer_to (map planned_view answers) (step - 1)
    → rest ≡ drop (step - 1) steps → others ≡ drop (step - 1) answers → GivesOne kept_view r (IsKeptFrom floats refine document q (requests_view rest) before (map planned_view others))
    → GivesOne kept_view r (IsKeptFrom floats refine document q (from_step step (requests_view steps)) (answer_to (map planned_view answers) (step - 1)) (from_step step (map planned_view answers)))
from_steps floats refine document q step before steps rest answers others r prior first second gives =
    let requests : requests_view rest ≡ from_step step (requests_view steps) = requests_from step steps rest first in
    let planned : map planned_view others ≡ from_step step (map planned_view answers) = answers_from step answers others second in
    subst (λ (b : Option Answer). GivesOne kept_view r (IsKeptFrom floats refine document q (from_step step (requests_view steps)) b (from_step step (map planned_view answers)))) prior
    (subst (λ (a : List Answer). GivesOne kept_view r (IsKeptFrom floats refine document q (from_step step (requests_view steps)) before a)) planned
    (subst (λ (s : List (List ℕ)). GivesOne kept_view r (IsKeptFrom floats refine document q s before (map planned_view others))) requests gives))
