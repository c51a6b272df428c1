-- The same of what evaluates flags: `resolve` and `drive`, with the book that it writes.
use Rattle.std.specs.Prelude.{ℕ, Bool, List, Option, Result}
use Rattle.flag_defs.specs.declared.kind.Kind.{Kind}
use Rattle.flagops_commands.specs.Drive.{IsDriveReport}
use Rattle.flagops_commands.specs.Resolve.{IsResolveReport}
use Rattle.flagops_commands.specs.declared.refusal.ListedRefusal.{ListedRefusal}
use Rattle.flagops_shell.specs.Files.{Holding}
use Rattle.flagops_shell.specs.Report.{Report}
use Rattle.product_laws.specs.Whole.{IsWholeAt}

-- of `resolve`
abbrev pub ResolvedStay : Type 0
ResolvedStay =
    (floats other : Bool) (at : Holding) (document key : List ℕ) (kind : Kind) (default context : List ℕ) (moment : ℕ) (r : Result Report ListedRefusal) → IsWholeAt at document
    → IsResolveReport at document key kind default context moment floats r → IsResolveReport at document key kind default context moment other r

-- of `drive`
abbrev pub DrivenStay : Type 0
DrivenStay =
    (floats other : Bool) (at : Holding) (after : Option Holding) (document asks : List ℕ) (workers : ℕ) (book : List ℕ) (add replace strict json : Bool) (r : Result Report ListedRefusal) → IsWholeAt at document
    → IsDriveReport floats at after document asks workers book add replace strict json r → IsDriveReport other at after document asks workers book add replace strict json r
