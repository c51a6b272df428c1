-- What the command `resolve` answers.
use Rattle.std.specs.Prelude.{◌≡◌, ℕ, Bool, true, false, List, ◌++◌, codes, Option, Some, Result, Ok}
use Rattle.flag_text.specs.Reading.{tree_of}
use Rattle.flag_resolve.specs.Floats.{Marked, is_spelled, resolved_with_floats}
use Rattle.flag_resolve.specs.Printing.{resolution_spelled}
use Rattle.flag_resolve.specs.Resolved.{Resolved}
use Rattle.flag_resolve.specs.declared.code.Code.{Code}
use Rattle.flag_resolve.specs.declared.code.Code.TheVariants.{FlagNotFound, TypeMismatch}
use Rattle.flag_defs.specs.declared.kind.Kind.{Kind}
use Rattle.flagops_commands.specs.Loaded.{AreFlagsAt, tree_at}
use Rattle.flagops_shell.specs.Files.{Holding}
use Rattle.flagops_files.specs.Loading.{max_text}
use Rattle.flagops_shell.specs.Outcomes.{◌>>=◌, refused_by}
use Rattle.flagops_shell.specs.Report.{Report}
use Rattle.flagops_commands.specs.Refusal.{Outcomes, no_tree}
use Rattle.flagops_commands.specs.declared.refusal.ListedRefusal.{ListedRefusal}

-- a resolution as a line: the value of a flag with floats is printed by its spelling
abbrev pub resolution_line : Marked → List ℕ → Resolved → List ℕ
resolution_line flags key r = resolution_spelled (is_spelled (Some flags) key r) r ++ codes "\n"

-- the key has no flag, or one of another kind than is asked for: a person is told so
abbrev pub is_told : Option Code → Bool
is_told (Some FlagNotFound) = true
is_told (Some TypeMismatch) = true
is_told code = false

-- the line of a resolution, and whether something is told beside it
abbrev pub resolve_report : Marked → List ℕ → Resolved → Report
resolve_report flags key r = record { text = resolution_line flags key r; status = 0; is_told = is_told r.code }

-- the same of what was read, in the order of the words
abbrev pub resolve_with : Holding → Result Marked ListedRefusal → List ℕ → Kind → List ℕ → List ℕ → ℕ → Result Report ListedRefusal
resolve_with at document key kind default context moment = do
  flags ← document
  d ← refused_by no_tree (tree_of default max_text)
  c ← tree_at at context max_text
  Ok (resolve_report flags key (resolved_with_floats (Some flags) kind d c key moment))

unfoldable pub IsResolveReport : Holding → List ℕ → List ℕ → Kind → List ℕ → List ℕ → ℕ → Bool → Outcomes
IsResolveReport at path key kind default context moment floats r =
    (document : Result Marked ListedRefusal) × AreFlagsAt floats at path document × (r ≡ resolve_with at document key kind default context moment)
