-- All that the commands of one list come to.
use Rattle.std.proofs.Common.{◌≡◌, ◌∙◌, inl, inr, ℕ, Bool, true, List, [], ◌∷◌, ◌++◌, codes, map, unwrap_or, Option, Some, None, Result, Ok, Err, refl, sym, ap₂, subst}
use Rattle.std.specs.Prelude.{IfSome}
use Rattle.book_core.specs.Book.{Contents}
use Rattle.flag_defs.specs.Document.{Definitions}
use Rattle.flag_defs.specs.Floats.{are_unmarked}
use Rattle.flag_resolve.specs.Floats.{Marked}
use Rattle.flag_resolve.specs.Resolved.{Resolved}
use Rattle.flag_text.specs.Reading.{tree_of}
use Rattle.flagops_commands.specs.Attempts.{attempts_of}
use Rattle.flagops_commands.specs.Drive.{AreRead, LeavesBook, before_at}
use Rattle.flagops_commands.specs.DriveSummary.{TellsPrinted}
use Rattle.flagops_commands.specs.Loaded.{AreFlagsAt, tree_at}
use Rattle.flagops_commands.specs.Refusal.{no_tree}
use Rattle.flagops_commands.specs.Subjects.{driven_subjects, written_subjects}
use Rattle.flagops_commands.specs.declared.refusal.ListedRefusal.{ListedRefusal}
use Rattle.flagops_commands.specs.declared.refusal.ListedRefusal.TheVariants.{Rollout}
use Rattle.flagops_drive.specs.Asks.{Ask, asks_of}
use Rattle.flagops_drive.specs.Floats.{answered, answered_spelled}
use Rattle.flagops_drive.specs.FloatsLaw as driving
use Rattle.flagops_drive.specs.Tally.{IsTallyOf, TalliesAsks}
use Rattle.flagops_drive.specs.declared.tally.Tally.{Tally}
use Rattle.flagops_files.specs.Loading.{max_text}
use Rattle.flagops_files.specs.Told.{attempt, attempt_of, by_kind, file, word}
use Rattle.flagops_rollouts.specs.Attempts as rollouts
use Rattle.flagops_rollouts.specs.Doubts.{doubt_subjects}
use Rattle.flagops_rollouts.specs.Loaded as rolling
use Rattle.flagops_rollouts.specs.Subjects.{applied_subjects, is_of_answer, is_of_kept_answer, is_of_kept_document, is_of_kept_request, is_of_request, is_of_size, the_plan}
use Rattle.flagops_shell.specs.Files.{Holding}
use Rattle.flagops_shell.specs.Outcomes.{refused_by}
use Rattle.flagops_words.specs.Asked.{Asked, bucket, price, resolve, verify, plan, apply, keep, drive, completions}
use Rattle.product_laws.specs.Documents.{MeaningsStay, NoneIsMarked, TreesStay}
use Rattle.product_laws.specs.FloatKept.{WholeNumbersStay}
use Rattle.flag_resolve.specs.Floats as resolving
use Rattle.product_laws.specs.Commands.{FilesStay, IsWholeFor, OutcomesStay, RemarksStay, asked_as}
use Rattle.product_laws.specs.Whole.{IsWholeAt}
use Rattle.product_laws.proofs.Attempted.{AreLike, IsLike, all_within, attempt_so, first_so, rolled_like, says_so, themselves, with_more}
use Rattle.product_laws.proofs.Evaluated.{AreAlike, driven_stay, listed_so, resolved_stay}
use Rattle.product_laws.proofs.Kept.{kept_stay}
use Rattle.product_laws.proofs.Read.{rolled_document}
use Rattle.product_laws.proofs.Rollouts.{applied_stay, plans_stay, verdicts_stay}
use Rattle.product_laws.proofs.Told.{applied_told, doubts_told, kept_told, plan_told}

-- ---- reports

module _ (meanings : MeaningsStay) (trees : TreesStay) (none : NoneIsMarked) (stay : WholeNumbersStay) (same : resolving.FloatsChangeNothing) (plain : resolving.NothingIsSpelled) (drives : driving.FloatsChangeNothing) where
  pub outcomes_stay : OutcomesStay
  outcomes_stay other at after (bucket rule key json) r whole h = h
  outcomes_stay other at after (price old new request keys json) r whole h = h
  outcomes_stay other at after (completions shell) r whole h = h
  outcomes_stay other at after (resolve document key kind default context moment floats) r whole h = resolved_stay meanings none same plain floats other at document key kind default context moment r whole h
  outcomes_stay other at after (verify document request book answer refine strict json floats) r whole h = (h.0, verdicts_stay meanings floats other at document request book answer refine strict json h.0 whole h.1, h.2)
  outcomes_stay other at after (plan document request book refine strict explain floats) r whole h = (h.0, plans_stay meanings floats other at document request book refine strict explain h.0 whole h.1, h.2)
  outcomes_stay other at after (apply document answer key site strict floats) r whole h = (h.0, applied_stay meanings trees none floats other at document answer key site strict h.0 whole h.1, h.2)
  outcomes_stay other at after (keep document answer request book write refine strict floats) r whole h =
      (h.0, kept_stay meanings trees stay floats other at after document answer request book write refine strict h.0 whole h.1, h.2)
  outcomes_stay other at after (drive document asks workers book add replace strict json floats) r whole h = driven_stay meanings none drives floats other at after document asks workers book add replace strict json r whole h

-- ---- files

module _ (meanings : MeaningsStay) (none : NoneIsMarked) where
  -- flags that are read one way are read the other way
  some_flags : {E : Type 0} (f : Marked) (s : Result Marked E) → AreAlike (Ok f) s → (g : Marked) × (s ≡ Ok g) × (f.0 ≡ g.0) × (are_unmarked f.1 ≡ true) × (are_unmarked g.1 ≡ true)
  some_flags f (Ok g) h = (g, refl, h.0, h.1, h.2)
  some_flags f (Err e) h = absurd h

  read_so : (floats other : Bool) (at : Holding) (path : List ℕ) (f : Marked) → IsWholeAt at path → AreFlagsAt floats at path (Ok f)
      → (g : Marked) × AreFlagsAt other at path (Ok g) × (f.0 ≡ g.0) × (are_unmarked f.1 ≡ true) × (are_unmarked g.1 ≡ true)
  read_so floats other at path f whole h =
      let found = listed_so meanings none floats other at path (Ok f) whole h in
      let g = some_flags f found.0 found.2 in
      (g.0, subst (λ (s : Result Marked ListedRefusal). AreFlagsAt other at path s) g.1 found.1, g.2, g.3, g.4)

  refused_so : (floats other : Bool) (at : Holding) (path : List ℕ) (e : ListedRefusal) → IsWholeAt at path → AreFlagsAt floats at path (Err e) → AreFlagsAt other at path (Err e)
  refused_so floats other at path e whole h = let found = listed_so meanings none floats other at path (Err e) whole h in by found.0 found.1 found.2
    where
      by : (s : Result Marked ListedRefusal) → AreFlagsAt other at path s → AreAlike (Err e) s → AreFlagsAt other at path (Err e)
      by (Ok g) is like = absurd like
      by (Err d) is like = subst (λ (x : ListedRefusal). AreFlagsAt other at path (Err x)) (sym like) is

  are_read : (floats other : Bool) (at : Holding) (path asks book : List ℕ) (add strict : Bool) → IsWholeAt at path → AreRead floats at path asks book add strict → AreRead other at path asks book add strict
  are_read floats other at path asks book add strict whole h = let g = read_so floats other at path h.0 whole h.1 in (g.0, g.1, h.2, h.3, h.4, h.5, h.6, h.7)

  book_left : (floats other : Bool) (old new : Option Holding) (path asks : List ℕ) (workers : ℕ) (book : List ℕ) (add strict : Bool) → IfSome old (λ at. IsWholeAt at path)
      → LeavesBook floats old new path asks workers book add strict → LeavesBook other old new path asks workers book add strict
  book_left floats other old new path asks workers book add strict whole (inl h) = inl h
  book_left floats other None new path asks workers book add strict whole (inr h) = inr h
  book_left floats other (Some at) new path asks workers book add strict whole (inr h) = inr (h.0, are_read floats other at path asks book add strict whole h.1, h.2)

  pub files_stay : FilesStay
  files_stay other old new (bucket rule key json) whole h = h
  files_stay other old new (price o n request keys json) whole h = h
  files_stay other old new (completions shell) whole h = h
  files_stay other old new (resolve document key kind default context moment floats) whole h = h
  files_stay other old new (verify document request book answer refine strict json floats) whole h = h
  files_stay other old new (plan document request book refine strict explain floats) whole h = h
  files_stay other old new (apply document answer key site strict floats) whole h = h
  files_stay other old new (keep document answer request book write refine strict floats) whole h = h
  files_stay other old new (drive document asks workers book add replace strict json floats) whole h = book_left floats other old new document asks workers book add strict whole h

  -- ---- remarks

  flags_like : (floats other : Bool) (at : Holding) (path : List ℕ) → IsWholeAt at path → IsLike (attempt (file path) (AreFlagsAt floats at path)) (attempt (file path) (AreFlagsAt other at path))
  flags_like floats other at path whole = record {
    subject = refl;
    refuses = λ e. refused_so floats other at path e whole;
    succeeds = λ h. let g = read_so floats other at path h.0 whole h.1 in (g.0, g.1);
  }

  listed_like : (other : Bool) (at : Holding) (a : Asked) → IsWholeFor at a → AreLike (attempts_of a at) (attempts_of (asked_as other a) at)
  listed_like other at (bucket rule key json) whole = themselves (attempts_of (bucket rule key json) at)
  listed_like other at (price old new request keys json) whole = themselves (attempts_of (price old new request keys json) at)
  listed_like other at (completions shell) whole = tt
  listed_like other at (resolve document key kind default context moment floats) whole =
      (flags_like floats other at document whole, themselves (attempt_of (word (codes "DEFAULT")) (refused_by no_tree (tree_of default max_text)) ∷ attempt_of (file context) (tree_at at context max_text) ∷ []))
  listed_like other at (drive document asks workers book add replace strict json floats) whole = (
    flags_like floats other at document whole,
    themselves (attempt_of (file asks) (tree_at at asks max_text) ∷ attempt_of (file book) (before_at at book add) ∷ by_kind (driven_subjects asks book ++ written_subjects book)),
  )
  listed_like other at (verify document request book answer refine strict json floats) whole =
      all_within Rollout (rollouts.verify_attempts floats at document request book answer) (rollouts.verify_attempts other at document request book answer)
      (with_more (rollouts.question_attempts floats at document request book) (rollouts.question_attempts other at document request book)
      (rollouts.plan_read at answer ((file request, is_of_request) ∷ (file answer, is_of_answer) ∷ doubt_subjects request book)) (rolled_like meanings floats other at document whole request book))
  listed_like other at (plan document request book refine strict explain floats) whole =
      all_within Rollout (rollouts.plan_attempts floats at document request book) (rollouts.plan_attempts other at document request book)
      (with_more (rollouts.question_attempts floats at document request book) (rollouts.question_attempts other at document request book)
      (by_kind ((file request, is_of_request) ∷ (word the_plan, is_of_size) ∷ doubt_subjects request book)) (rolled_like meanings floats other at document whole request book))
  listed_like other at (keep document answer request book write refine strict floats) whole =
      all_within Rollout (rollouts.keep_attempts floats at document answer request book) (rollouts.keep_attempts other at document answer request book)
      (with_more (rollouts.question_attempts floats at document request book) (rollouts.question_attempts other at document request book)
      (rollouts.plan_read at answer ((file request, is_of_kept_request) ∷ (file answer, is_of_kept_answer) ∷ (file document, is_of_kept_document) ∷ doubt_subjects request book)) (rolled_like meanings floats other at document whole request book))
  listed_like other at (apply document answer key site strict floats) whole =
      all_within Rollout (rollouts.apply_attempts floats at document answer) (rollouts.apply_attempts other at document answer) (
        attempt_so (file document) (rolling.IsDocumentAt floats at document) (rolling.IsDocumentAt other at document) (λ r. rolled_document meanings floats other at document r whole),
        themselves (rollouts.plan_read at answer (applied_subjects document answer)),
      )

  module _ (answers : driving.AnswersStay) (plain : driving.NothingIsSpelled) where
    mapped : (f g : Marked) → f.0 ≡ g.0 → are_unmarked f.1 ≡ true → are_unmarked g.1 ≡ true → (asks : List Ask) → (map (answered f) asks ≡ map (answered g) asks) × (map (answered_spelled f) asks ≡ map (answered_spelled g) asks)
    mapped f g e one two [] = (refl, refl)
    mapped f g e one two (a ∷ asks) =
        let more = mapped f g e one two asks in
        let here : answered f a ≡ answered g a = subst (λ (fs : Definitions). answered f a ≡ answered (fs, g.1) a) e (answers f.0 f.1 a one ∙ sym (answers f.0 g.1 a two)) in
        let spelled : answered_spelled f a ≡ answered_spelled g a = plain f.0 f.1 a one ∙ sym (plain g.0 g.1 a two) in
        (ap₂ (λ (x : Resolved) (xs : List Resolved). x ∷ xs) here more.0, ap₂ (λ (x : Bool) (xs : List Bool). x ∷ xs) spelled more.1)

    tallied : (f g : Marked) → f.0 ≡ g.0 → are_unmarked f.1 ≡ true → are_unmarked g.1 ≡ true → (asks : Option (List Ask)) (before : Option Contents) (json : Bool) (text : List ℕ) (t : Tally)
        → TalliesAsks f asks before json text t → TalliesAsks g asks before json text t
    tallied f g e one two None before json text t h = h
    tallied f g e one two (Some asks) before json text t h =
        let m = mapped f g e one two asks in
        subst (λ (rs : List Resolved). IsTallyOf rs (map (answered_spelled g) asks) before json text t) m.0 (subst (λ (bs : List Bool). IsTallyOf (map (answered f) asks) bs before json text t) m.1 h)

    printed_so : (floats other : Bool) (at : Holding) (document asks book : List ℕ) (add json : Bool) (text lines : List ℕ) → IsWholeAt at document → TellsPrinted floats at document asks book add json text lines
        → TellsPrinted other at document asks book add json text lines
    printed_so floats other at document asks book add json text lines whole h =
        let g = read_so floats other at document h.0 whole h.1 in
        (g.0, g.1, h.2, h.3, h.4, h.5, h.6, tallied h.0 g.0 g.2 g.3 g.4 (asks_of h.2) h.4 json text h.6 h.7, h.8)

    module _ (trees : TreesStay) where
      pub remarks_stay : RemarksStay
      remarks_stay other at a (Err e) remark whole h = first_so (attempts_of a at) (attempts_of (asked_as other a) at) (listed_like other at a whole) e remark h
      remarks_stay other at (bucket rule key json) (Ok report) remark whole h = h
      remarks_stay other at (price old new request keys json) (Ok report) remark whole h = h
      remarks_stay other at (completions shell) (Ok report) remark whole h = h
      remarks_stay other at (resolve document key kind default context moment floats) (Ok report) remark whole h = h
      remarks_stay other at (verify document request book answer refine strict json floats) (Ok report) remark whole h = (h.0, h.1, doubts_told meanings floats other at document whole request book (Some remark) h.2)
      remarks_stay other at (plan document request book refine strict explain floats) (Ok report) remark whole h =
          (h.0, h.1, plan_told meanings floats other at document whole request book (unwrap_or refine 1) explain report.text (Some remark) h.2)
      remarks_stay other at (apply document answer key site strict floats) (Ok report) remark whole h = (h.0, h.1, applied_told meanings floats other at document whole trees answer key site (Some remark) h.2)
      remarks_stay other at (keep document answer request book write refine strict floats) (Ok report) remark whole h = (h.0, h.1, kept_told meanings floats other at document whole answer request book (Some remark) h.2)
      remarks_stay other at (drive document asks workers book add replace strict json floats) (Ok report) remark whole h =
          (h.0, says_so (TellsPrinted floats at document asks book add json report.text) (TellsPrinted other at document asks book add json report.text) (λ lines. printed_so floats other at document asks book add json report.text lines whole) remark h.1, h.2)
