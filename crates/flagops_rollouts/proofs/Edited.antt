-- What was loaded in turn, put into a document and then printed or stored, as the report of `apply --keep`.
use Rattle.std.proofs.Common.{◌≡◌, ◌∙◌, ◌||◌, ap, ℕ, Bool, true, false, List, Option, Some, None, IfSome, inl, inr, refl, sym, subst, Vec, Global}
use Rattle.std.specs.Prelude.{Result, Ok, Err, is_ok, length, nat_lt, option_and_then}
use Rattle.std.specs.Map.{lookup}
use Rattle.std.specs.Str.{IsUtf8, bytes_eq, is_utf8}
use Rattle.std.proofs.lemmas.Bool.{ltb-false}
use Rattle.std.proofs.lemmas.Str.{IsUtf8-from_is_utf8}
use Rattle.bucket_core.specs.Rule.{Entries}
use Rattle.book_core.specs.Book.{Contents}
use Rattle.flag_defs.specs.Document.{Definitions, max_bytes}
use Rattle.flag_defs.specs.Flag.{targeting_in}
use Rattle.flag_text.specs.Shape.{Shape}
use Rattle.flag_text.specs.declared.fault.TextFault.{TextFault}
use Rattle.flag_text.specs.declared.fault.TextFault.TheVariants.{NotJson, TooLarge}
use Rattle.flag_text.proofs.Readings.{doc_of-none}
use Rattle.kept_document.specs.Kept.{IsRefused, in_tree, place_in, tree_as}
use Rattle.kept_document.specs.declared.fault.KeepFault.TheVariants.{Differs}
use Rattle.plan_text.specs.Answer.{Answer, emit, none_exists}
use Rattle.price_core.specs.Request.{Asked, asked_of}
use Rattle.price_core.specs.declared.fault.PriceFault.{PriceFault}
use Rattle.rollout.specs.Lawful.{and_then, by_price, place_of, problem_at}
use Rattle.rollout.specs.CheckedTally.{IsTallyOutcome, tally_problem_at}
use Rattle.rollout.specs.Verified.{IsOutcome, refining_for}
use Rattle.rollout.specs.declared.fault.RolloutFault.{RolloutFault}
use Rattle.rollout.specs.declared.refining.Refining.{Refining}
use Rattle.rollout.specs.declared.refining.Refining.TheVariants.{Times}
use Rattle.kept_document.specs.Place.{SitePlace}
use Rattle.note_tallies.specs.Tally.{PageTally}
use Rattle.transport_core.specs.Certificate.{DualPrices}
use Rattle.transport_core.specs.declared.certificate.CutKind.{CutKind}
use Rattle.flagops_shell.specs.Files.{Holding, load_of}
use Rattle.flagops_files.specs.Loading.{max_text}
use Rattle.flagops_rollouts.specs.Loaded.{plan_at, IsQuestionAt}
use Rattle.flagops_files.specs.Question.{Question}
use Rattle.flagops_rollouts.specs.Refusal.{ComesFrom, GivesOne, Refused, call_of, is_want}
use Rattle.flagops_files.specs.Refusal as files
use Rattle.flagops_files.specs.declared.refusal.Call.{Call}
use Rattle.flagops_files.specs.declared.refusal.Call.TheVariants as file
use Rattle.flagops_rollouts.specs.declared.refusal.RolloutCall.{RolloutCall}
use Rattle.flagops_rollouts.specs.Calls.{keep_calls, loads_kept, puts_document}
use Rattle.flagops_shell.specs.Report.{outcome_view}
use Rattle.flagops_files.specs.declared.evidence.Evidence.{Evidence}
use Rattle.flagops_files.specs.declared.evidence.Evidence.TheVariants.{Book, Tally}
use Rattle.flagops_shell.specs.declared.outcome.Outcome.{Outcome}
use Rattle.flagops_rollouts.specs.declared.refusal.RolloutRefusal.{RolloutRefusal}
use Rattle.flagops_rollouts.specs.Keep.{IsEdited, IsEditedTo, IsKeepReport, IsKeepWith, IsKeptAt, IsKeptFor, IsKeptPut, IsKeptWith, IsPut, Kept, LeavesDocument, MayBeKept, is_finer_there, some_view}
use Rattle.flagops_rollouts.specs.Beside.{noted_with}
use Rattle.flagops_rollouts.specs.Doubts.{doubt_of, settle}
use Rattle.flagops_rollouts.specs.declared.refusal.RolloutCall.TheVariants as call
use Rattle.flagops_rollouts.specs.Verify.{IsToldOn, MayBeTold}
use Rattle.flagops_shell.proofs.Kept.{others_after}

-- ---- a right answer is to a request that is read

module _ (flags : Definitions) (request : List ℕ) (answer : Answer) where
  read_by : (refining : Refining) (book : Contents) (a : Result Asked PriceFault)
      → IsOutcome (and_then (by_price a) (λ asked. and_then (place_of flags asked.flag asked.site) (λ place. problem_at refining book asked place))) answer (Ok tt) → is_ok a ≡ true
  read_by refining book (Ok asked) right = refl
  read_by refining book (Err e) right = absurd right

  tally_by : (refining : Refining) (tally : PageTally) (a : Result Asked PriceFault)
      → IsTallyOutcome (and_then (by_price a) (λ asked. and_then (place_of flags asked.flag asked.site) (λ place. tally_problem_at refining tally asked place))) answer (Ok tt) → is_ok a ≡ true
  tally_by refining tally (Ok asked) right = refl
  tally_by refining tally (Err e) right = absurd right

  read_checked : (refine : Option ℕ) (evidence : Evidence) → IsToldOn refine answer flags request evidence (Ok tt) → is_ok (asked_of request) ≡ true
  read_checked None (Book book) right = read_by (refining_for answer) book (asked_of request) right
  read_checked (Some m) (Book book) right = read_by (Times m) book (asked_of request) right
  read_checked None (Tally tally) right = tally_by (refining_for answer) tally (asked_of request) right
  read_checked (Some m) (Tally tally) right = tally_by (Times m) tally (asked_of request) right

pub asked_there : (refine : Option ℕ) (q : Question) (answer : Answer) → MayBeTold refine q answer (Ok tt) → is_ok (asked_of q.request) ≡ true
asked_there refine q answer may = read_checked q.flags q.request answer refine q.evidence may.told

-- ---- the document

-- bytes that are no text are no document
no_utf8 : (bytes : List ℕ) → (IsUtf8 bytes → ⊥) → (b : Bool) → is_utf8 bytes ≡ b → is_utf8 bytes ≡ false
no_utf8 bytes other true e = absurd (other (IsUtf8-from_is_utf8 bytes e))
no_utf8 bytes other false e = e

no_document : (floats : Bool) (bytes : List ℕ) → (IsUtf8 bytes → ⊥) → (b : Bool) → nat_lt max_bytes (length bytes) ≡ b → (e : TextFault) × (tree_as floats bytes ≡ Err e)
no_document floats bytes other true e = (TooLarge, too_large floats)
  where
    too_large : (f : Bool) → tree_as f bytes ≡ Err TooLarge
    too_large true = rw e refl
    too_large false = rw e refl
no_document true bytes other false e = (NotJson, rw (e, no_utf8 bytes other (is_utf8 bytes) refl) refl)
no_document false bytes other false e = (NotJson, doc_of-none bytes max_bytes (ltb-false max_bytes (length bytes) e) (λ u. absurd (other u)))

pub not_text : (floats : Bool) (bytes : List ℕ) (flags : Definitions) (key : List ℕ) (site : ℕ) (rule : Entries) (wanted : Definitions) → (IsUtf8 bytes → ⊥) → IsRefused floats bytes (place_in floats bytes flags key site) rule wanted Differs
not_text floats bytes flags key site rule wanted other =
    let none = no_document floats bytes other (nat_lt max_bytes (length bytes)) refl in
    subst (λ (r : Result Shape TextFault). IsRefused floats bytes (in_tree r key (option_and_then targeting_in (lookup (bytes_eq key) flags)) site) rule wanted Differs) (sym none.1) (λ s. s, λ text kept. absurd kept)

module _ (floats : Bool) (document : List ℕ) (place : SitePlace) (rule : Entries) (applied : Result Definitions RolloutFault) where
  pub edited_to : (wanted : Definitions) (r : Result (Vec ℕ Global) Refused) → applied ≡ Ok wanted → GivesOne some_view r (IsEdited floats document place rule wanted) → GivesOne some_view r (IsEditedTo floats document place rule applied)
  edited_to wanted r is given = subst (λ (a : Result Definitions RolloutFault). GivesOne some_view r (IsEditedTo floats document place rule a)) (sym is) given

pub kept_for : (floats : Bool) (document : List ℕ) (q : Question) (rule : Entries) (asked : Asked) (r : Result (Vec ℕ Global) Refused) → asked_of q.request ≡ Ok asked
    → GivesOne some_view r (IsKeptAt floats document q.flags asked.flag asked.site rule) → GivesOne some_view r (IsKeptFor floats document q rule)
kept_for floats document q rule asked (Ok text) is given = (asked, is, given)
kept_for floats document q rule asked (Err e) is given = λ wanted. (asked, is, given wanted)

pub not_unread : (asked : Result Asked PriceFault) (e : PriceFault) → is_ok asked ≡ true → asked ≡ Err e → ⊥
not_unread (Ok x) e there is = cc
not_unread (Err f) e there is = cc

-- what a right answer makes of the document
module _ (floats : Bool) (refine : Option ℕ) (document : List ℕ) (q : Question) (answer : Answer) where
  pub kept_rule : (rule : Entries) (c : DualPrices) (kept : Result Kept RolloutRefusal) → answer ≡ emit rule c → MayBeTold refine q answer (Ok tt) → IsKeptFor floats document q rule kept → MayBeKept floats refine document q answer kept
  kept_rule rule c kept is told made = (Ok tt, told, subst (λ (a : Answer). IsKeptWith floats document q a kept) (sym is) made)

  pub kept_none : (kind : CutKind) (names : List (List ℕ)) → answer ≡ none_exists kind names → MayBeTold refine q answer (Ok tt) → MayBeKept floats refine document q answer (Ok None)
  kept_none kind names is told = (Ok tt, told, subst (λ (a : Answer). IsKeptWith floats document q a (Ok None)) (sym is) refl)

-- ---- the report

module _ (floats : Bool) (path : List ℕ) (write strict : Bool) (refine : Option ℕ) (document : List ℕ) (q : Question) (answer : Answer) where
  none_kept : (old after : Option Holding) (e : Refused) → after ≡ old → (is_want e.refusal ≡ false → MayBeKept floats refine document q answer (Err e.refusal))
      → IfSome old (λ at. GivesOne outcome_view (Err e) (IsKeepWith floats at after path write strict refine document q answer))
  none_kept None after e same kept = tt
  none_kept (Some at) after e same kept = λ wanted. (Err e.refusal, kept wanted, (refl, same))

  pub not_kept : (old after : Option Holding) (e : Refused) (r : Result Outcome Refused) → r ≡ Err e → after ≡ old → (is_want e.refusal ≡ false → MayBeKept floats refine document q answer (Err e.refusal))
      → IfSome old (λ at. GivesOne outcome_view r (IsKeepWith floats at after path write strict refine document q answer))
  not_kept old after e r is same kept = subst (λ (x : Result Outcome Refused). IfSome old (λ at. GivesOne outcome_view x (IsKeepWith floats at after path write strict refine document q answer))) (sym is) (none_kept old after e same kept)

  abbrev settled : Result Bool RolloutRefusal
  settled = noted_with (is_finer_there q answer) (settle call.Apply strict (doubt_of q))

  -- a doubt that is refused puts nothing
  pub not_settled : (old after : Option Holding) (kept : Kept) (e : Refused) → after ≡ old → (is_want e.refusal ≡ false → settled ≡ Err e.refusal) → MayBeKept floats refine document q answer (Ok kept)
      → IfSome old (λ at. GivesOne outcome_view (Err e) (IsKeepWith floats at after path write strict refine document q answer))
  not_settled None after kept e same refused may = tt
  not_settled (Some at) after kept e same refused may = λ wanted.
      (Ok kept, may, subst (λ (s : Result Bool RolloutRefusal). IsPut at after path write s (Ok kept) (Err e.refusal)) (sym (refused wanted)) (refl, same))

  pub kept_put : (old after : Option Holding) (kept : Kept) (told : Bool) (r : Result Outcome Refused) → settled ≡ Ok told → MayBeKept floats refine document q answer (Ok kept)
      → IfSome old (λ at. GivesOne outcome_view r (IsKeptPut at after path write told kept)) → IfSome old (λ at. GivesOne outcome_view r (IsKeepWith floats at after path write strict refine document q answer))
  kept_put old after kept told r is may put = go old (subst (λ (s : Result Bool RolloutRefusal). IfSome old (λ at. GivesOne outcome_view r (IsPut at after path write s (Ok kept)))) (sym is) put)
    where
      ends : (at : Holding) (s : Result Outcome Refused) → GivesOne outcome_view s (IsPut at after path write settled (Ok kept)) → GivesOne outcome_view s (IsKeepWith floats at after path write strict refine document q answer)
      ends at (Ok o) put = (Ok kept, may, put)
      ends at (Err e) put = λ wanted. (Ok kept, may, put wanted)

      go : (h : Option Holding) → IfSome h (λ at. GivesOne outcome_view r (IsPut at after path write settled (Ok kept))) → IfSome h (λ at. GivesOne outcome_view r (IsKeepWith floats at after path write strict refine document q answer))
      go None put = tt
      go (Some at) put = ends at r put

module _ (floats : Bool) (path plan request book : List ℕ) (write strict : Bool) (refine : Option ℕ) where
  abbrev Is : Option Holding → Option Holding → Result Outcome Refused → Type 0
  Is old after r = IfSome old (λ at. GivesOne outcome_view r (IsKeepReport floats at after path plan request book write refine strict))

  pub no_question : (old after : Option Holding) (e : Refused) → after ≡ old → IfSome old (λ at. is_want e.refusal ≡ false → IsQuestionAt floats at path request book (Err e.refusal)) → Is old after (Err e)
  unfolding IsKeepReport
  no_question None after e same asked = tt
  no_question (Some at) after e same asked = λ wanted. (Err e.refusal, asked wanted, (refl, same))

  module _ (q : Question) where
    pub no_plan : (old mid after : Option Holding) (e : Refused) → mid ≡ old → after ≡ mid → IfSome old (λ at. IsQuestionAt floats at path request book (Ok q))
        → IfSome mid (λ at. is_want e.refusal ≡ false → plan_at at plan ≡ Err e.refusal) → Is old after (Err e)
    unfolding IsKeepReport
    no_plan old mid after e first second asked planned = go old asked (subst (λ (h : Option Holding). IfSome h (λ at. is_want e.refusal ≡ false → plan_at at plan ≡ Err e.refusal)) first planned) (second ∙ first)
      where
        go : (h : Option Holding) → IfSome h (λ at. IsQuestionAt floats at path request book (Ok q)) → IfSome h (λ at. is_want e.refusal ≡ false → plan_at at plan ≡ Err e.refusal) → after ≡ h → Is h after (Err e)
        go None asked planned same = tt
        go (Some at) asked planned same = λ wanted. (Ok q, asked, rw (planned wanted) (refl, same))

    pub no_plan_so : (old mid after : Option Holding) (e : Refused) (r : Result Outcome Refused) → r ≡ Err e → mid ≡ old → after ≡ mid → IfSome old (λ at. IsQuestionAt floats at path request book (Ok q))
        → IfSome mid (λ at. is_want e.refusal ≡ false → plan_at at plan ≡ Err e.refusal) → Is old after r
    no_plan_so old mid after e r is first second asked planned = subst (Is old after) (sym is) (no_plan old mid after e first second asked planned)

    module _ (document : List ℕ) (answer : Answer) where
      pub kept_whole : (old mid last after : Option Holding) (r : Result Outcome Refused) → mid ≡ old → last ≡ mid → IfSome old (λ at. IsQuestionAt floats at path request book (Ok q)) → IfSome old (λ at. load_of at path max_text ≡ Ok document)
          → IfSome mid (λ at. plan_at at plan ≡ Ok answer) → IfSome last (λ at. GivesOne outcome_view r (IsKeepWith floats at after path write strict refine document q answer)) → Is old after r
      unfolding IsKeepReport
      kept_whole old mid last after r first second asked loaded planned put =
          go old asked loaded (subst (λ (h : Option Holding). IfSome h (λ at. plan_at at plan ≡ Ok answer)) first planned)
          (subst (λ (h : Option Holding). IfSome h (λ at. GivesOne outcome_view r (IsKeepWith floats at after path write strict refine document q answer))) (second ∙ first) put)
        where
          ends : (at : Holding) (s : Result Outcome Refused) → IsQuestionAt floats at path request book (Ok q) → load_of at path max_text ≡ Ok document → plan_at at plan ≡ Ok answer
              → GivesOne outcome_view s (IsKeepWith floats at after path write strict refine document q answer) → GivesOne outcome_view s (IsKeepReport floats at after path plan request book write refine strict)
          ends at (Ok o) asked loaded planned put = (Ok q, asked, rw planned (document, loaded, put))
          ends at (Err e) asked loaded planned put = λ wanted. (Ok q, asked, rw planned (document, loaded, put wanted))

          go : (h : Option Holding) → IfSome h (λ at. IsQuestionAt floats at path request book (Ok q)) → IfSome h (λ at. load_of at path max_text ≡ Ok document) → IfSome h (λ at. plan_at at plan ≡ Ok answer)
              → IfSome h (λ at. GivesOne outcome_view r (IsKeepWith floats at after path write strict refine document q answer)) → Is h after r
          go None asked loaded planned put = tt
          go (Some at) asked loaded planned put = ends at r asked loaded planned put

-- ---- what failed

or_false : (b : Bool) → (b || false) ≡ b
or_false true = refl
or_false false = refl

-- no file failed until the last of three steps
pub failed_after : (start first second last fault : Bool) → first ≡ (start || false) → second ≡ (first || false) → last ≡ (second || fault) → last ≡ (start || fault)
failed_after start first second last fault a b c = c ∙ ap (λ (x : Bool). x || fault) (b ∙ (or_false first ∙ (a ∙ or_false start)))

-- ---- what is refused

-- what is refused where the document is put is refused by the command
stored : (c : Call) → files.stores_file c ≡ true → loads_kept c ≡ true
stored file.Store is = refl
stored file.Load is = cc
stored file.ReadTree is = cc
stored file.ReadRule is = cc
stored file.ReadFlags is = cc
stored file.ReadBook is = cc
stored file.ReadTally is = cc
stored file.ReadPlanned is = cc

put_by : (c : RolloutCall) → puts_document c ≡ true → keep_calls c ≡ true
put_by call.Apply is = refl
put_by (call.Load c) is = stored c is
put_by call.Verify is = cc
put_by call.Plan is = cc
put_by call.PrintPlanned is = cc

pub comes_so : {X : Type 0} (r : Result X Refused) → ComesFrom puts_document r → ComesFrom keep_calls r
comes_so (Ok x) comes = tt
comes_so (Err e) comes = put_by (call_of e.refusal) comes

-- ---- what is left

pub left_after : (old mid last new : Option Holding) (path : List ℕ) (write : Bool) → mid ≡ old → last ≡ mid → LeavesDocument last new path write → LeavesDocument old new path write
left_after old mid last new path write first second (inl same) = inl (same ∙ second ∙ first)
left_after old mid last new path write first second (inr changed) = inr (changed.0, others_after old last new path (second ∙ first) changed.1)
