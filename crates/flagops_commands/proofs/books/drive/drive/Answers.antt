use Rattle.flag_defs.specs.Floats.{marked_view}
use Rattle.flagops_drive.specs.Driven.{drive_output_view}
use Rattle.flagops_drive.specs.File.{file_view}
use Rattle.flagops_commands.specs.Refusal.{GivesOne, Refused, Subjects, TellsOfOne, loads_book, loads_flags, loads_tree}
use Rattle.flagops_commands.specs.Drive.{HasNoAsks, HasUnreadAsk, IsWritten, before_at}
use Rattle.flagops_shell.specs.Report.{outcome_view}
use Rattle.flagops_commands.proofs.Driving.{at_first, driven, left_by_storing, no_asks, no_book, no_document, not_driven}
use Rattle.flagops_commands.proofs.Firsts.{among_first, among_last, behind_three, first_refused, second_refused, third_refused}
use Rattle.flagops_commands.proofs.Losing.{driven_by}
use Rattle.flagops_commands.proofs.Summary.{told_numbers}
use Rattle.flagops_shell.proofs.Kept.{kept_after, others_after}
use Rattle.flagops_commands.proofs.Refusing.{by_another, by_name, failed_last, for_no_asks, for_unread, in_any_case, in_any_mode, none_driven, wrong_workers}
use Rattle.std.proofs.Common.{◌≡◌, ◌∙◌, ◌++◌, ℕ, Bool, List, Option, IfSome, ap, inl, refl, rules, subst, sym}
use Rattle.std.specs.Prelude.{Result, Ok, Err}
use Rattle.std.proofs.lemmas.Result.{err_from_is_err_and}
use Rattle.book_core.specs.Book.{Contents}
use Rattle.flag_text.specs.Shape.{Shape}
use Rattle.flagops_files.specs.Loading.{max_text}
use Rattle.flagops_files.specs.Told.{file}
use Rattle.flagops_shell.specs.Files.{Holding}
use Rattle.flagops_shell.specs.declared.outcome.Outcome.{Outcome}
use Rattle.flagops_commands.specs.Loaded.{AreFlagsAt, tree_at}
use Rattle.flagops_commands.specs.Subjects.{driven_subjects, written_subjects}
use Rattle.flagops_commands.specs.declared.refusal.ListedRefusal.{ListedRefusal}
use Rattle.flagops_commands.proofs.books.drive.drive.Goals as goal

-- what is attempted after the document
abbrev AreAsks : List ℕ → Holding → Result Shape ListedRefusal → Type 0
AreAsks asks at t = tree_at at asks max_text ≡ t

abbrev IsBefore : List ℕ → Bool → Holding → Result (Option Contents) ListedRefusal → Type 0
IsBefore book add at before = before_at at book add ≡ before

abbrev made : List ℕ → List ℕ → Subjects
made asks book = driven_subjects asks book ++ written_subjects book

pub returns-in_err-flags-clause-exact : goal.returns-in_err-flags-clause-exact
returns-in_err-flags-clause-exact g c =
    let told = no_document c.args.floats c.args.document.now c.args.asks.now c.args.workers c.args.book.now c.args.add c.args.replace c.args.strict c.args.json _ _ c.in_err-flags.field-0.0 c.load_marked.ensures.kept c.in_err-flags.ensures.exact in search rules

pub returns-in_err-flags-clause-left : goal.returns-in_err-flags-clause-left
returns-in_err-flags-clause-left g c = inl c.load_marked.ensures.kept

pub returns-in_err-flags-clause-kept : goal.returns-in_err-flags-clause-kept
returns-in_err-flags-clause-kept g c = inl c.load_marked.ensures.kept

pub returns-in_err-flags-clause-bad_workers : goal.returns-in_err-flags-clause-bad_workers
returns-in_err-flags-clause-bad_workers g c = λ e wrong.
    let told = by_another loads_flags c.in_err-flags.field-0.0.refusal refl c.in_err-flags.ensures.calls in search rules

pub returns-in_err-flags-clause-bad_asks : goal.returns-in_err-flags-clause-bad_asks
returns-in_err-flags-clause-bad_asks g c =
    in_any_case (λ at. HasNoAsks at c.args.asks.now) _ _ (let told = by_another loads_flags c.in_err-flags.field-0.0.refusal refl c.in_err-flags.ensures.calls in search rules)

pub returns-in_err-flags-clause-unread : goal.returns-in_err-flags-clause-unread
returns-in_err-flags-clause-unread g c =
    in_any_mode (λ at. HasUnreadAsk at c.args.asks.now) _ c.args.strict _ (let told = by_another loads_flags c.in_err-flags.field-0.0.refusal refl c.in_err-flags.ensures.calls in search rules)

pub returns-in_err-loaded-clause-exact : goal.returns-in_err-loaded-clause-exact
returns-in_err-loaded-clause-exact g c =
    let told =
    no_asks c.args.floats c.args.document.now c.args.asks.now c.args.workers c.args.book.now c.args.add c.args.replace c.args.strict c.args.json (marked_view c.in_ok-flags.flags) _ _ c.in_err-loaded.field-0.0 (c.load_asks.ensures.kept ∙ c.load_marked.ensures.kept) c.in_ok-flags.ensures.exact
    (at_first _ _ _ c.load_marked.ensures.kept c.in_err-loaded.ensures.exact) in
    search rules

pub returns-in_err-loaded-clause-left : goal.returns-in_err-loaded-clause-left
returns-in_err-loaded-clause-left g c = inl (c.load_asks.ensures.kept ∙ c.load_marked.ensures.kept)

pub returns-in_err-loaded-clause-kept : goal.returns-in_err-loaded-clause-kept
returns-in_err-loaded-clause-kept g c = inl (c.load_asks.ensures.kept ∙ c.load_marked.ensures.kept)

pub returns-in_err-loaded-clause-bad_workers : goal.returns-in_err-loaded-clause-bad_workers
returns-in_err-loaded-clause-bad_workers g c = λ e wrong.
    let told = by_another loads_tree c.in_err-loaded.field-0.0.refusal refl c.in_err-loaded.ensures.calls in search rules

pub returns-in_err-loaded-clause-bad_asks : goal.returns-in_err-loaded-clause-bad_asks
returns-in_err-loaded-clause-bad_asks g c =
    in_any_case (λ at. HasNoAsks at c.args.asks.now) _ _ (let told = by_another loads_tree c.in_err-loaded.field-0.0.refusal refl c.in_err-loaded.ensures.calls in search rules)

pub returns-in_err-loaded-clause-unread : goal.returns-in_err-loaded-clause-unread
returns-in_err-loaded-clause-unread g c =
    in_any_mode (λ at. HasUnreadAsk at c.args.asks.now) _ c.args.strict _ (let told = by_another loads_tree c.in_err-loaded.field-0.0.refusal refl c.in_err-loaded.ensures.calls in search rules)

pub returns-in_err-before-clause-exact : goal.returns-in_err-before-clause-exact
returns-in_err-before-clause-exact g c =
    let told =
    no_book c.args.floats c.args.document.now c.args.asks.now c.args.workers c.args.book.now c.args.add c.args.replace c.args.strict c.args.json (marked_view c.in_ok-flags.flags) (file_view c.in_ok-loaded.loaded) _ _ c.in_err-before.field-0.0 (c.book_before.ensures.kept ∙ (c.load_asks.ensures.kept ∙ c.load_marked.ensures.kept))
    c.in_ok-flags.ensures.exact (at_first _ _ _ c.load_marked.ensures.kept c.in_ok-loaded.ensures.exact) (at_first _ _ _ (c.load_asks.ensures.kept ∙ c.load_marked.ensures.kept) c.in_err-before.ensures.exact) in
    search rules

pub returns-in_err-before-clause-left : goal.returns-in_err-before-clause-left
returns-in_err-before-clause-left g c = inl (c.book_before.ensures.kept ∙ (c.load_asks.ensures.kept ∙ c.load_marked.ensures.kept))

pub returns-in_err-before-clause-kept : goal.returns-in_err-before-clause-kept
returns-in_err-before-clause-kept g c = inl (c.book_before.ensures.kept ∙ (c.load_asks.ensures.kept ∙ c.load_marked.ensures.kept))

pub returns-in_err-before-clause-bad_workers : goal.returns-in_err-before-clause-bad_workers
returns-in_err-before-clause-bad_workers g c = λ e wrong.
    let told = by_another loads_book c.in_err-before.field-0.0.refusal refl c.in_err-before.ensures.calls in search rules

pub returns-in_err-before-clause-bad_asks : goal.returns-in_err-before-clause-bad_asks
returns-in_err-before-clause-bad_asks g c =
    in_any_case (λ at. HasNoAsks at c.args.asks.now) _ _ (let told = by_another loads_book c.in_err-before.field-0.0.refusal refl c.in_err-before.ensures.calls in search rules)

pub returns-in_err-before-clause-unread : goal.returns-in_err-before-clause-unread
returns-in_err-before-clause-unread g c =
    in_any_mode (λ at. HasUnreadAsk at c.args.asks.now) _ c.args.strict _ (let told = by_another loads_book c.in_err-before.field-0.0.refusal refl c.in_err-before.ensures.calls in search rules)

pub returns-in_err-drive_output-clause-exact : goal.returns-in_err-drive_output-clause-exact
returns-in_err-drive_output-clause-exact g c =
    let told =
    not_driven c.args.floats c.args.document.now c.args.asks.now c.args.workers c.args.book.now c.args.add c.args.replace c.args.strict c.args.json (marked_view c.in_ok-flags.flags) (file_view c.in_ok-loaded.loaded) c.in_ok-before.before _ _ c.in_err-drive_output.field-0.0 (c.book_before.ensures.kept ∙ (c.load_asks.ensures.kept ∙ c.load_marked.ensures.kept))
    c.in_ok-flags.ensures.exact (at_first _ _ _ c.load_marked.ensures.kept c.in_ok-loaded.ensures.exact) (at_first _ _ _ (c.load_asks.ensures.kept ∙ c.load_marked.ensures.kept) c.in_ok-before.ensures.exact) c.in_err-drive_output.ensures.exact in
    search rules

pub returns-in_err-drive_output-clause-left : goal.returns-in_err-drive_output-clause-left
returns-in_err-drive_output-clause-left g c = inl (c.book_before.ensures.kept ∙ (c.load_asks.ensures.kept ∙ c.load_marked.ensures.kept))

pub returns-in_err-drive_output-clause-kept : goal.returns-in_err-drive_output-clause-kept
returns-in_err-drive_output-clause-kept g c = inl (c.book_before.ensures.kept ∙ (c.load_asks.ensures.kept ∙ c.load_marked.ensures.kept))

pub returns-in_err-drive_output-clause-bad_workers : goal.returns-in_err-drive_output-clause-bad_workers
returns-in_err-drive_output-clause-bad_workers g c = λ e wrong.
    let told = by_name c.args.strict (file_view c.in_ok-loaded.loaded) c.args.workers c.in_err-drive_output.field-0.0.refusal (wrong_workers c.args.strict (file_view c.in_ok-loaded.loaded) c.args.workers e wrong) c.in_err-drive_output.ensures.refused in search rules

pub returns-in_err-drive_output-clause-bad_asks : goal.returns-in_err-drive_output-clause-bad_asks
returns-in_err-drive_output-clause-bad_asks g c =
    for_no_asks c.args.asks.now (file_view c.in_ok-loaded.loaded) c.args.strict c.args.workers _ _ _ c.load_marked.ensures.kept c.in_ok-loaded.ensures.exact
    (λ are. let told = by_name c.args.strict (file_view c.in_ok-loaded.loaded) c.args.workers c.in_err-drive_output.field-0.0.refusal are c.in_err-drive_output.ensures.refused in search rules)

pub returns-in_err-drive_output-clause-unread : goal.returns-in_err-drive_output-clause-unread
returns-in_err-drive_output-clause-unread g c =
    for_unread c.args.asks.now (file_view c.in_ok-loaded.loaded) c.args.strict c.args.workers _ _ _ c.load_marked.ensures.kept c.in_ok-loaded.ensures.exact
    (λ are. let told = by_name c.args.strict (file_view c.in_ok-loaded.loaded) c.args.workers c.in_err-drive_output.field-0.0.refusal are c.in_err-drive_output.ensures.refused in search rules)

pub returns-clause-exact : goal.returns-clause-exact
returns-clause-exact g c =
    driven c.args.floats c.args.document.now c.args.asks.now c.args.workers c.args.book.now c.args.add c.args.replace c.args.strict c.args.json (marked_view c.in_ok-flags.flags) (file_view c.in_ok-loaded.loaded) c.in_ok-before.before _ _ (drive_output_view c.in_ok-drive_output.drive_output) _
    c.in_ok-flags.ensures.exact (at_first _ _ _ c.load_marked.ensures.kept c.in_ok-loaded.ensures.exact) (at_first _ _ _ (c.load_asks.ensures.kept ∙ c.load_marked.ensures.kept) c.in_ok-before.ensures.exact) c.in_ok-drive_output.ensures.exact (at_first _ _ _ (c.book_before.ensures.kept ∙ (c.load_asks.ensures.kept ∙ c.load_marked.ensures.kept))
    (subst (λ (b : Bool). IfSome (g.F.FileSet.holding c.book_before.new.files) (λ at. GivesOne outcome_view c.written.result (IsWritten at (g.F.FileSet.holding c.written.new.files) c.args.book.now b (Ok (drive_output_view c.in_ok-drive_output.drive_output))))) c.may_lose-lossy.ensures c.written.ensures.exact))

pub returns-clause-left : goal.returns-clause-left
returns-clause-left g c =
    left_by_storing c.args.floats c.args.document.now c.args.asks.now c.args.workers c.args.book.now c.args.add c.args.strict c.args.json (marked_view c.in_ok-flags.flags) (file_view c.in_ok-loaded.loaded) c.in_ok-before.before _ _ (drive_output_view c.in_ok-drive_output.drive_output)
    c.in_ok-flags.ensures.exact (at_first _ _ _ c.load_marked.ensures.kept c.in_ok-loaded.ensures.exact) (at_first _ _ _ (c.load_asks.ensures.kept ∙ c.load_marked.ensures.kept) c.in_ok-before.ensures.exact) c.in_ok-drive_output.ensures.exact (others_after _ _ _ _ (c.book_before.ensures.kept ∙ (c.load_asks.ensures.kept ∙ c.load_marked.ensures.kept)) c.written.ensures.others)

pub returns-clause-kept : goal.returns-clause-kept
returns-clause-kept g c = kept_after _ _ _ _ _ (c.load_asks.ensures.kept ∙ c.load_marked.ensures.kept) c.book_before.ensures.kept c.written.ensures.kept

pub returns-clause-bad_workers : goal.returns-clause-bad_workers
returns-clause-bad_workers g c = λ e wrong.
    absurd (none_driven c.args.strict (file_view c.in_ok-loaded.loaded) c.args.workers (wrong_workers c.args.strict (file_view c.in_ok-loaded.loaded) c.args.workers e wrong) c.in_ok-drive_output.ensures.refused)

pub returns-clause-bad_asks : goal.returns-clause-bad_asks
returns-clause-bad_asks g c =
    for_no_asks c.args.asks.now (file_view c.in_ok-loaded.loaded) c.args.strict c.args.workers _ _ _ c.load_marked.ensures.kept c.in_ok-loaded.ensures.exact
    (λ are. absurd (none_driven c.args.strict (file_view c.in_ok-loaded.loaded) c.args.workers are c.in_ok-drive_output.ensures.refused))

pub returns-clause-unread : goal.returns-clause-unread
returns-clause-unread g c =
    for_unread c.args.asks.now (file_view c.in_ok-loaded.loaded) c.args.strict c.args.workers _ _ _ c.load_marked.ensures.kept c.in_ok-loaded.ensures.exact
    (λ are. absurd (none_driven c.args.strict (file_view c.in_ok-loaded.loaded) c.args.workers are c.in_ok-drive_output.ensures.refused))

pub returns-clause-failed : goal.returns-clause-failed
returns-clause-failed g c = failed_last _ _ _ _ _ _ c.in_ok-flags.ensures.failed c.in_ok-loaded.ensures.failed c.in_ok-before.ensures.failed c.written.ensures.failed

pub returns-clause-numbers : goal.returns-clause-numbers
returns-clause-numbers g c =
    told_numbers c.args.floats c.args.document.now c.args.asks.now c.args.book.now c.args.add c.args.json (marked_view c.in_ok-flags.flags) (file_view c.in_ok-loaded.loaded) c.in_ok-before.before c.in_ok-drive_output.drive_output.text.items c.in_ok-drive_output.drive_output.tally c.remark_on-remark.result _ _
    c.in_ok-flags.ensures.exact (at_first _ _ _ c.load_marked.ensures.kept c.in_ok-loaded.ensures.exact) (at_first _ _ _ (c.load_asks.ensures.kept ∙ c.load_marked.ensures.kept) c.in_ok-before.ensures.exact) c.in_ok-drive_output.ensures.tally c.remark_on-remark.ensures.numbers c.written.ensures.remark

pub returns-clause-calls : goal.returns-clause-calls
returns-clause-calls g c = driven_by c.written.result c.written.ensures.calls

pub returns-in_err-flags-clause-names : goal.returns-in_err-flags-clause-names
returns-in_err-flags-clause-names g c =
    let p = err_from_is_err_and c.from_residual.result c.from_residual.ensures.1 in
    let is : c.from_residual.result ≡ Err c.in_err-flags.field-0.0 = p.1 ∙ ap Err p.2 in
    first_refused (file c.args.document.now) (file c.args.asks.now) (file c.args.book.now) (λ at. AreFlagsAt c.args.floats at c.args.document.now) (AreAsks c.args.asks.now) (IsBefore c.args.book.now c.args.add) (made c.args.asks.now c.args.book.now) (g.F.FileSet.holding c.args.files.now) c.from_residual.result
    c.in_err-flags.field-0.0 is c.in_err-flags.ensures.exact c.in_err-flags.ensures.names

pub returns-in_err-loaded-clause-names : goal.returns-in_err-loaded-clause-names
returns-in_err-loaded-clause-names g c =
    let p = err_from_is_err_and c.from_residual-in_err-loaded.result c.from_residual-in_err-loaded.ensures.1 in
    let is : c.from_residual-in_err-loaded.result ≡ Err c.in_err-loaded.field-0.0 = p.1 ∙ ap Err p.2 in
    second_refused (file c.args.document.now) (file c.args.asks.now) (file c.args.book.now) (λ at. AreFlagsAt c.args.floats at c.args.document.now) (AreAsks c.args.asks.now) (IsBefore c.args.book.now c.args.add) (made c.args.asks.now c.args.book.now) (g.F.FileSet.holding c.args.files.now) c.from_residual-in_err-loaded.result
    (marked_view c.in_ok-flags.flags) c.in_ok-flags.ensures.exact c.in_err-loaded.field-0.0 is (at_first _ _ _ c.load_marked.ensures.kept c.in_err-loaded.ensures.exact) c.in_err-loaded.ensures.names

pub returns-in_err-before-clause-names : goal.returns-in_err-before-clause-names
returns-in_err-before-clause-names g c =
    let p = err_from_is_err_and c.from_residual-in_err-before.result c.from_residual-in_err-before.ensures.1 in
    let is : c.from_residual-in_err-before.result ≡ Err c.in_err-before.field-0.0 = p.1 ∙ ap Err p.2 in
    third_refused (file c.args.document.now) (file c.args.asks.now) (file c.args.book.now) (λ at. AreFlagsAt c.args.floats at c.args.document.now) (AreAsks c.args.asks.now) (IsBefore c.args.book.now c.args.add) (made c.args.asks.now c.args.book.now) (g.F.FileSet.holding c.args.files.now) c.from_residual-in_err-before.result
    (marked_view c.in_ok-flags.flags) c.in_ok-flags.ensures.exact (file_view c.in_ok-loaded.loaded) (at_first _ _ _ c.load_marked.ensures.kept c.in_ok-loaded.ensures.exact) c.in_err-before.field-0.0 is (at_first _ _ _ (c.load_asks.ensures.kept ∙ c.load_marked.ensures.kept) c.in_err-before.ensures.exact) c.in_err-before.ensures.names

pub returns-in_err-drive_output-clause-names : goal.returns-in_err-drive_output-clause-names
returns-in_err-drive_output-clause-names g c =
    let p = err_from_is_err_and c.from_residual-in_err-drive_output.result c.from_residual-in_err-drive_output.ensures.1 in
    let is : c.from_residual-in_err-drive_output.result ≡ Err c.in_err-drive_output.field-0.0 = p.1 ∙ ap Err p.2 in
    let driven : TellsOfOne (driven_subjects c.args.asks.now c.args.book.now) c.from_residual-in_err-drive_output.result = subst (λ (s : Result Outcome Refused). TellsOfOne (driven_subjects c.args.asks.now c.args.book.now) s) (sym is) c.in_err-drive_output.ensures.names in
    behind_three (file c.args.document.now) (file c.args.asks.now) (file c.args.book.now) (λ at. AreFlagsAt c.args.floats at c.args.document.now) (AreAsks c.args.asks.now) (IsBefore c.args.book.now c.args.add) (made c.args.asks.now c.args.book.now) (g.F.FileSet.holding c.args.files.now) c.from_residual-in_err-drive_output.result
    (marked_view c.in_ok-flags.flags) c.in_ok-flags.ensures.exact (file_view c.in_ok-loaded.loaded) (at_first _ _ _ c.load_marked.ensures.kept c.in_ok-loaded.ensures.exact) c.in_ok-before.before (at_first _ _ _ (c.load_asks.ensures.kept ∙ c.load_marked.ensures.kept) c.in_ok-before.ensures.exact)
    (among_first (driven_subjects c.args.asks.now c.args.book.now) (written_subjects c.args.book.now) c.from_residual-in_err-drive_output.result driven)

pub returns-clause-names : goal.returns-clause-names
returns-clause-names g c =
    behind_three (file c.args.document.now) (file c.args.asks.now) (file c.args.book.now) (λ at. AreFlagsAt c.args.floats at c.args.document.now) (AreAsks c.args.asks.now) (IsBefore c.args.book.now c.args.add) (made c.args.asks.now c.args.book.now) (g.F.FileSet.holding c.args.files.now) c.written.result
    (marked_view c.in_ok-flags.flags) c.in_ok-flags.ensures.exact (file_view c.in_ok-loaded.loaded) (at_first _ _ _ c.load_marked.ensures.kept c.in_ok-loaded.ensures.exact) c.in_ok-before.before (at_first _ _ _ (c.load_asks.ensures.kept ∙ c.load_marked.ensures.kept) c.in_ok-before.ensures.exact)
    (among_last (driven_subjects c.args.asks.now c.args.book.now) (written_subjects c.args.book.now) c.written.result c.written.ensures.names)
