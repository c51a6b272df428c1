use Rattle.std.proofs.Common.{◌≡◌, ◌∙◌, ℕ, List, [], ap}
use Rattle.std.proofs.lemmas.Result.{err_from_is_err_and}
use Rattle.std.specs.Prelude.{Result, Err, codes}
use Rattle.flag_defs.specs.Floats.{marked_view}
use Rattle.flag_text.specs.Reading.{tree_of}
use Rattle.flag_text.specs.Shape.{Shape}
use Rattle.flag_text.specs.View.{view}
use Rattle.flagops_files.specs.Loading.{max_text}
use Rattle.flagops_files.specs.Told.{file, word}
use Rattle.flagops_shell.specs.Files.{Holding}
use Rattle.flagops_shell.specs.Outcomes.{refused_by}
use Rattle.flagops_commands.proofs.Driving.{at_first}
use Rattle.flagops_commands.proofs.Firsts.{first_refused, second_refused, third_refused, whatever}
use Rattle.flagops_commands.specs.Loaded.{AreFlagsAt, tree_at}
use Rattle.flagops_commands.specs.Refusal.{no_tree}
use Rattle.flagops_commands.specs.declared.refusal.ListedRefusal.{ListedRefusal}
use Rattle.flagops_commands.proofs.flags.resolve.resolve.Goals as goal

-- what is attempted after the document
abbrev IsDefault : List ℕ → Result Shape ListedRefusal → Type 0
IsDefault text t = refused_by no_tree (tree_of text max_text) ≡ t

abbrev IsContext : List ℕ → Holding → Result Shape ListedRefusal → Type 0
IsContext path at t = tree_at at path max_text ≡ t

pub returns-in_err-flags-clause-names : goal.returns-in_err-flags-clause-names
returns-in_err-flags-clause-names g c =
    let p = err_from_is_err_and c.from_residual.result c.from_residual.ensures.1 in
    let is : c.from_residual.result ≡ Err c.in_err-flags.field-0.0 = p.1 ∙ ap Err p.2 in
    first_refused (file c.args.document.now) (word (codes "DEFAULT")) (file c.args.context.now) (λ at. AreFlagsAt c.args.floats at c.args.document.now) (λ at. IsDefault c.args.default.now) (IsContext c.args.context.now) [] (g.F.FileSet.holding c.args.files.now) c.from_residual.result c.in_err-flags.field-0.0 is
    c.in_err-flags.ensures.exact c.in_err-flags.ensures.names

pub returns-in_err-default-clause-names : goal.returns-in_err-default-clause-names
returns-in_err-default-clause-names g c =
    let p = err_from_is_err_and c.from_residual-in_err-default.result c.from_residual-in_err-default.ensures.1 in
    let is : c.from_residual-in_err-default.result ≡ Err c.in_err-default.field-0.0 = p.1 ∙ ap Err p.2 in
    second_refused (file c.args.document.now) (word (codes "DEFAULT")) (file c.args.context.now) (λ at. AreFlagsAt c.args.floats at c.args.document.now) (λ at. IsDefault c.args.default.now) (IsContext c.args.context.now) [] (g.F.FileSet.holding c.args.files.now) c.from_residual-in_err-default.result (marked_view c.in_ok-flags.flags) c.in_ok-flags.ensures.exact c.in_err-default.field-0.0 is
    (whatever (g.F.FileSet.holding c.args.files.now) c.in_err-default.ensures.exact) c.in_err-default.ensures.names

pub returns-in_err-context-clause-names : goal.returns-in_err-context-clause-names
returns-in_err-context-clause-names g c =
    let p = err_from_is_err_and c.from_residual-in_err-context.result c.from_residual-in_err-context.ensures.1 in
    let is : c.from_residual-in_err-context.result ≡ Err c.in_err-context.field-0.0 = p.1 ∙ ap Err p.2 in
    third_refused (file c.args.document.now) (word (codes "DEFAULT")) (file c.args.context.now) (λ at. AreFlagsAt c.args.floats at c.args.document.now) (λ at. IsDefault c.args.default.now) (IsContext c.args.context.now) [] (g.F.FileSet.holding c.args.files.now) c.from_residual-in_err-context.result (marked_view c.in_ok-flags.flags) c.in_ok-flags.ensures.exact (view c.in_ok-default.default) (whatever (g.F.FileSet.holding c.args.files.now) c.in_ok-default.ensures.exact) c.in_err-context.field-0.0 is
    (at_first _ _ _ c.load_marked.ensures.kept c.in_err-context.ensures.exact) c.in_err-context.ensures.names
