-- What a person is told beside the output.
use Rattle.std.specs.Prelude.{◌≡◌, ℕ, Bool, true, List, [], ◌∷◌, Option, Some, None, Result, codes, string_bytes}
use Rattle.flagops_shell.specs.Report.{Puts, Report, report_by}
use Rattle.flagops_shell.specs.declared.refused.Remark.{Remark}
use Rattle.flagops_shell.specs.declared.refused.Remark.TheVariants.{Short, Lines}

-- a remark says this; where there was no memory for its lines it is a fixed sentence
abbrev pub Says : (List ℕ → Type 0) → Remark → Type 0
Says P Short = Unit {0}
Says P (Lines lines) = P (string_bytes lines)

-- a text as it is written: one that says nothing points to the documents
abbrev pub spoken : List ℕ → List ℕ
spoken [] = codes "error: docs/REFUSALS.md explains the answer\n"
spoken (x ∷ text) = x ∷ text

abbrev pub remark_text : Remark → List ℕ
remark_text Short = codes "error: out of memory\n"
remark_text (Lines lines) = string_bytes lines

-- what is told of a remark, if there is one
abbrev pub PutsRemark : Option (List ℕ) → Option (List ℕ) → Bool → Option Remark → Type 0
PutsRemark old new is_broken None = new ≡ old
PutsRemark old new is_broken (Some remark) = Puts old new is_broken (spoken (remark_text remark))

-- a remark on what a command comes to says this of it
abbrev pub RemarksOf : Type 0 → Type 1
RemarksOf R = Result Report R → Remark → Type 0
