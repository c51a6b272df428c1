-- The same of all that `resolve`, `verify`, `apply`, `apply --keep`, `plan` and `drive` come to: the report, what a person is told beside it, and the files.
use Rattle.std.specs.Prelude.{Bool, IfSome, Option, Result}
use Rattle.flagops_commands.specs.Attempts.{remark_of}
use Rattle.flagops_commands.specs.Commands.{IsOutcome, Leaves}
use Rattle.flagops_commands.specs.declared.refusal.ListedRefusal.{ListedRefusal}
use Rattle.flagops_shell.specs.Files.{Holding}
use Rattle.flagops_shell.specs.Report.{Report}
use Rattle.flagops_shell.specs.declared.refused.Remark.{Remark}
use Rattle.flagops_words.specs.Asked.{Asked, bucket, price, resolve, verify, plan, apply, keep, drive, completions}
use Rattle.product_laws.specs.Whole.{IsWholeAt}

-- a command with the option or without it
abbrev pub asked_as : Bool → Asked → Asked
asked_as floats (bucket rule key json) = bucket rule key json
asked_as floats (price old new request keys json) = price old new request keys json
asked_as floats (resolve document key kind default context moment f) = resolve document key kind default context moment floats
asked_as floats (verify document request book file refine strict json f) = verify document request book file refine strict json floats
asked_as floats (plan document request book refine strict explain f) = plan document request book refine strict explain floats
asked_as floats (apply document file key site strict f) = apply document file key site strict floats
asked_as floats (keep document file request book write refine strict f) = keep document file request book write refine strict floats
asked_as floats (drive document asks workers book add replace strict json f) = drive document asks workers book add replace strict json floats
asked_as floats (completions shell) = completions shell

-- the numbers of its document are whole, if it has one
abbrev pub IsWholeFor : Holding → Asked → Type 0
IsWholeFor at (bucket rule key json) = Unit {0}
IsWholeFor at (price old new request keys json) = Unit {0}
IsWholeFor at (resolve document key kind default context moment f) = IsWholeAt at document
IsWholeFor at (verify document request book file refine strict json f) = IsWholeAt at document
IsWholeFor at (plan document request book refine strict explain f) = IsWholeAt at document
IsWholeFor at (apply document file key site strict f) = IsWholeAt at document
IsWholeFor at (keep document file request book write refine strict f) = IsWholeAt at document
IsWholeFor at (drive document asks workers book add replace strict json f) = IsWholeAt at document
IsWholeFor at (completions shell) = Unit {0}

-- what it may report, and how it may leave the files beside that
abbrev pub OutcomesStay : Type 0
OutcomesStay = (other : Bool) (at : Holding) (after : Option Holding) (a : Asked) (r : Result Report ListedRefusal) → IsWholeFor at a → IsOutcome at after a r → IsOutcome at after (asked_as other a) r

-- what a person may be told of that
abbrev pub RemarksStay : Type 0
RemarksStay = (other : Bool) (at : Holding) (a : Asked) (r : Result Report ListedRefusal) (remark : Remark) → IsWholeFor at a → remark_of a at r remark → remark_of (asked_as other a) at r remark

-- how it may leave the files, whatever becomes of its output
abbrev pub FilesStay : Type 0
FilesStay = (other : Bool) (old new : Option Holding) (a : Asked) → IfSome old (λ at. IsWholeFor at a) → Leaves a old new → Leaves (asked_as other a) old new
