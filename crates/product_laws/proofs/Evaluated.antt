-- What `resolve` and `drive` come to.
use Rattle.std.proofs.Common.{◌≡◌, ◌∙◌, ◌++◌, ℕ, Bool, true, List, Option, Some, Result, Ok, Err, codes, refl, sym, ap, ap₂, subst}
use Rattle.book_core.specs.Book.{Contents}
use Rattle.flag_defs.specs.Document.{Definitions}
use Rattle.flag_defs.specs.Floats.{Marks, are_unmarked}
use Rattle.flag_defs.specs.declared.kind.Kind.{Kind}
use Rattle.flag_resolve.specs.Floats as resolving
use Rattle.flag_resolve.specs.Floats.{Marked, resolved_with_floats}
use Rattle.flag_resolve.specs.Printing.{resolution_spelled}
use Rattle.flag_resolve.specs.Resolved.{Resolved}
use Rattle.flag_text.specs.Reading.{tree_of}
use Rattle.flag_text.specs.Shape.{Shape}
use Rattle.product_laws.specs.Documents.{MeaningsStay, NoneIsMarked}
use Rattle.flagops_commands.specs.Drive.{IsAnswered, IsDriveOutputOf, IsDriveReport, admitted}
use Rattle.flagops_commands.specs.Loaded.{AreFlagsAt, tree_at}
use Rattle.flagops_commands.specs.Refusal.{no_tree}
use Rattle.flagops_commands.specs.Resolve.{IsResolveReport, is_told, resolve_report, resolve_with}
use Rattle.flagops_commands.specs.declared.refusal.ListedRefusal.{ListedRefusal}
use Rattle.flagops_commands.specs.declared.refusal.ListedRefusal.TheVariants.{Load}
use Rattle.flagops_drive.specs.Asks.{asks_of}
use Rattle.flagops_drive.specs.Driven.{DriveOutput, IsDriveOf, refusal_of}
use Rattle.flagops_drive.specs.FloatsLaw as driving
use Rattle.flagops_files.specs.Documents as documents
use Rattle.flagops_files.specs.Loading.{max_text}
use Rattle.flagops_files.specs.declared.refusal.Refusal.{Refusal}
use Rattle.flagops_files.specs.declared.refusal.Refusal.TheVariants as file
use Rattle.flagops_shell.specs.Files.{Holding, load_of}
use Rattle.flagops_shell.specs.Outcomes.{◌>>=◌, refused_by}
use Rattle.flagops_shell.specs.Report.{Report}
use Rattle.flagops_shell.specs.declared.files.LoadFault.{LoadFault}
use Rattle.product_laws.specs.Evaluated.{DrivenStay, ResolvedStay}
use Rattle.product_laws.specs.Whole.{IsWholeAt}
use Rattle.product_laws.specs.FloatWhole.{IsWholeText}
use Rattle.product_laws.proofs.Applied.{some_marks}
use Rattle.product_laws.proofs.Read.{bind-same}

-- flags of which none has floats, either way; or one refusal
abbrev pub AreAlike : {E : Type 0} → Result Marked E → Result Marked E → Type 0
AreAlike (Ok f) (Ok g) = (f.0 ≡ g.0) × (are_unmarked f.1 ≡ true) × (are_unmarked g.1 ≡ true)
AreAlike (Ok f) (Err e) = ⊥
AreAlike (Err e) (Ok g) = ⊥
AreAlike (Err e) (Err d) = e ≡ d

module _ (meanings : MeaningsStay) (none : NoneIsMarked) where
  in_so : (floats other : Bool) (bytes : List ℕ) (r : Result Marked Refusal) → IsWholeText bytes → documents.AreFlagsIn floats bytes r → (s : Result Marked Refusal) × documents.AreFlagsIn other bytes s × AreAlike r s
  in_so floats other bytes (Ok f) whole h =
      let others = some_marks other bytes f.0 in
      (Ok (f.0, others.0), (meanings floats other bytes (Ok f.0) whole h.0, others.1), (refl, none floats bytes f.0 f.1 whole h.1, none other bytes f.0 others.0 whole others.1))
  in_so floats other bytes (Err e) whole h = (Err e, (h.0, meanings floats other bytes (Err h.0) whole h.1, h.2), refl)

  flags_so : (floats other : Bool) (at : Holding) (path : List ℕ) (r : Result Marked Refusal) → IsWholeAt at path → documents.AreFlagsAt floats at path r → (s : Result Marked Refusal) × documents.AreFlagsAt other at path s × AreAlike r s
  unfolding documents.AreFlagsAt
  flags_so floats other at path r whole h = by (load_of at path max_text) refl h
    where
      by : (l : Result (List ℕ) LoadFault) → load_of at path max_text ≡ l → documents.AreFlagsOf floats (refused_by file.Load l) r → (s : Result Marked Refusal) × documents.AreFlagsOf other (refused_by file.Load l) s × AreAlike r s
      by (Ok bytes) is h = in_so floats other bytes r (whole bytes is) h
      by (Err e) is h = (Err (file.Load e), refl, subst (λ (x : Result Marked Refusal). AreAlike x (Err (file.Load e))) (sym h) refl)

  lifted : (r s : Result Marked Refusal) → AreAlike r s → AreAlike (refused_by Load r) (refused_by Load s)
  lifted (Ok f) (Ok g) h = h
  lifted (Ok f) (Err e) h = h
  lifted (Err e) (Ok g) h = h
  lifted (Err e) (Err d) h = ap Load h

  pub listed_so : (floats other : Bool) (at : Holding) (path : List ℕ) (r : Result Marked ListedRefusal) → IsWholeAt at path → AreFlagsAt floats at path r → (s : Result Marked ListedRefusal) × AreFlagsAt other at path s × AreAlike r s
  unfolding AreFlagsAt
  listed_so floats other at path r whole h =
      let found = flags_so floats other at path h.0 whole h.1 in
      (refused_by Load found.0, (found.0, found.1, refl), subst (λ (x : Result Marked ListedRefusal). AreAlike x (refused_by Load found.0)) (sym h.2) (lifted h.0 found.0 found.2))

  -- ---- resolve

  spelled_report : Bool → Resolved → Report
  spelled_report b r = record { text = resolution_spelled b r ++ codes "\n"; status = 0; is_told = is_told r.code }

  report_of : Marked → List ℕ → Kind → ℕ → Shape → Shape → Report
  report_of f key kind moment d c = resolve_report f key (resolved_with_floats (Some f) kind d c key moment)

  module _ (same : resolving.FloatsChangeNothing) (plain : resolving.NothingIsSpelled) (key : List ℕ) (kind : Kind) (moment : ℕ) where
    report_same : (fs : Definitions) (ms ns : Marks) (d c : Shape) → are_unmarked ms ≡ true → are_unmarked ns ≡ true → report_of (fs, ms) key kind moment d c ≡ report_of (fs, ns) key kind moment d c
    unfolding report_of spelled_report
    report_same fs ms ns d c one two =
        ap₂ (λ (b : Bool) (r : Resolved). spelled_report b r)
        (plain fs ms key (resolved_with_floats (Some (fs, ms)) kind d c key moment) one ∙ sym (plain fs ns key (resolved_with_floats (Some (fs, ns)) kind d c key moment) two))
        (same fs ms kind d c key moment one ∙ sym (same fs ns kind d c key moment two))

    resolved_so : (at : Holding) (default context : List ℕ) (r s : Result Marked ListedRefusal) → AreAlike r s → resolve_with at r key kind default context moment ≡ resolve_with at s key kind default context moment
    unfolding report_of
    resolved_so at default context (Ok f) (Ok g) h =
        bind-same (λ d. tree_at at context max_text >>= λ c. Ok (report_of f key kind moment d c)) (λ d. tree_at at context max_text >>= λ c. Ok (report_of g key kind moment d c))
        (λ d. bind-same (λ c. Ok (report_of f key kind moment d c)) (λ c. Ok (report_of g key kind moment d c))
        (λ c. ap (λ (report : Report). let r : Result Report ListedRefusal = Ok report in r) (subst (λ (fs : Definitions). report_of f key kind moment d c ≡ report_of (fs, g.1) key kind moment d c) h.0 (report_same f.0 f.1 g.1 d c h.1 h.2)))
        (tree_at at context max_text))
        (refused_by no_tree (tree_of default max_text))
    resolved_so at default context (Ok f) (Err e) h = absurd h
    resolved_so at default context (Err e) (Ok g) h = absurd h
    resolved_so at default context (Err e) (Err d) h = ap Err h

  pub resolved_stay : resolving.FloatsChangeNothing → resolving.NothingIsSpelled → ResolvedStay
  unfolding IsResolveReport
  resolved_stay same plain floats other at document key kind default context moment r whole h =
      let found = listed_so floats other at document h.0 whole h.1 in
      (found.0, found.1, h.2 ∙ resolved_so same plain key kind moment at default context h.0 found.0 found.2)

  -- ---- drive

  module _ (drives : driving.FloatsChangeNothing) (workers : ℕ) (strict json : Bool) where
    answered_so : (a : Result Bool ListedRefusal) (f g : Marked) (t : Shape) (before : Option Contents) (r : Result DriveOutput ListedRefusal) → AreAlike {E = ListedRefusal} (Ok f) (Ok g)
        → IsAnswered a f t before workers strict json r → IsAnswered a g t before workers strict json r
    answered_so (Err e) f g t before r alike h = h
    answered_so (Ok noted) f g t before r alike h =
        (h.0, subst (λ (fs : Definitions). IsDriveOf (fs, g.1) (asks_of t) workers before json h.0) alike.0 (drives f.0 f.1 g.1 (asks_of t) workers before json h.0 alike.1 alike.2 h.1), h.2)

    output_so : (document other : Result Marked ListedRefusal) (asks : Result Shape ListedRefusal) (before : Result (Option Contents) ListedRefusal) (r : Result DriveOutput ListedRefusal) → AreAlike document other
        → IsDriveOutputOf document asks before workers strict json r → IsDriveOutputOf other asks before workers strict json r
    output_so (Ok f) (Err e) asks before r alike h = absurd alike
    output_so (Err e) (Ok g) asks before r alike h = absurd alike
    output_so (Err e) (Err d) asks before r alike h = h ∙ ap Err alike
    output_so (Ok f) (Ok g) (Err e) before r alike h = h
    output_so (Ok f) (Ok g) (Ok t) (Err e) r alike h = h
    output_so (Ok f) (Ok g) (Ok t) (Ok before) r alike h = answered_so (admitted strict (refusal_of (asks_of t) workers) t) f g t before r alike h

  pub driven_stay : driving.FloatsChangeNothing → DrivenStay
  unfolding IsDriveReport
  driven_stay drives floats other at after document asks workers book add replace strict json r whole h =
      let found = listed_so floats other at document h.0 whole h.1 in
      (found.0, found.1, h.2, output_so drives workers strict json h.0 found.0 _ _ h.2 found.2 h.3, h.4)
