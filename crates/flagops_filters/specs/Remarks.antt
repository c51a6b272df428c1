-- What a person is told of filters, beside the output.
use Rattle.std.specs.Prelude.{◌≡◌, ◌⊎◌, ℕ, false, List, [], ◌∷◌, Result, Ok, Err, codes}
use Rattle.flagops_files.specs.Lines.{NamesFile}
use Rattle.file_diagnostics.specs.Named.{Names, NamesWord}
use Rattle.flagops_shell.specs.Diagnostic.{Says}
use Rattle.flagops_shell.specs.Files.{Holding}
use Rattle.flagops_shell.specs.declared.refused.Remark.{Remark}
use Rattle.note_tallies.specs.Tally.{PageTally}
use Rattle.flagops_filters.specs.Beside.{IsBesideTally}
use Rattle.flagops_filters.specs.Join.{IsTallyOf}
use Rattle.flagops_filters.specs.Joined.{JoinsNext}
use Rattle.flagops_filters.specs.Refusal.{is_want}
use Rattle.flagops_filters.specs.Report.{Came, Told}
use Rattle.flagops_filters.specs.declared.refusal.FilterRefusal.{FilterRefusal}
use Rattle.flagops_filters.specs.declared.refusal.FilterRefusal.TheVariants.{Load, Flag, Record, Tally, Join}

-- ---- of a refusal the name of what is refused

-- lines begin with the path of a file, by what is shown of a long one, or as a JSON text
abbrev pub NamesPath : List ℕ → List ℕ → Type 0
NamesPath path lines = Names path lines ⊎ NamesFile path lines

-- with the words for the standard input
abbrev pub NamesInput : List ℕ → Type 0
NamesInput lines = NamesWord (codes "the standard input") lines

-- the document at a path is refused by its path, as is a flag of it, and a line of the standard input by its words
abbrev pub NamesRefused : List ℕ → FilterRefusal → List ℕ → Type 0
NamesRefused document (Load e) lines = NamesPath document lines
NamesRefused document (Flag e) lines = NamesPath document lines
NamesRefused document (Record e) lines = NamesInput lines
NamesRefused document (Tally e) lines = NamesInput lines
NamesRefused document (Join e) lines = ⊥

-- ---- of what a command comes to

-- of `tally` over a standard input of these bytes
abbrev pub tally_remark : List ℕ → List ℕ → Came → Remark → Type 0
tally_remark bytes document (Ok report) remark = Says (IsBesideTally bytes report.text) remark
tally_remark bytes document (Err e) remark = Says (NamesRefused document e) remark

-- of files that are joined to one in turn, the first that is refused so: it has no tally, or one that does not join those before it
abbrev pub NamesUnjoined : Holding → PageTally → List (List ℕ) → FilterRefusal → Remark → Type 0
NamesUnjoined at one [] e remark = ⊥
NamesUnjoined at one (path ∷ paths) e remark =
    (JoinsNext at one path (Err e) × Says (NamesPath path) remark) ⊎ ((both : PageTally) × JoinsNext at one path (Ok both) × NamesUnjoined at both paths e remark)

-- of all files
abbrev pub NamesUnjoinedOf : Holding → List (List ℕ) → FilterRefusal → Remark → Type 0
NamesUnjoinedOf at [] e remark = ⊥
NamesUnjoinedOf at (path ∷ paths) e remark =
    (IsTallyOf at path (Err e) × Says (NamesPath path) remark) ⊎ ((one : PageTally) × IsTallyOf at path (Ok one) × NamesUnjoined at one paths e remark)

-- of `join` that went well nothing is told, and of a refusal the name of the first file that is refused
abbrev pub join_remark : Holding → List (List ℕ) → Came → Remark → Type 0
join_remark at paths (Ok report) remark = ⊥
join_remark at paths (Err e) remark = NamesUnjoinedOf at paths e remark

-- ---- of what calls give, in private contracts

-- a refusal is told by such lines
abbrev pub RemarksBy : {X : Type 0} → (FilterRefusal → List ℕ → Type 0) → Result X Told → Type 0
RemarksBy MaySay (Ok x) = Unit {0}
RemarksBy MaySay (Err told) = is_want told.refusal ≡ false → Says (MaySay told.refusal) told.remark

-- by that of the file at a path
abbrev pub RemarksPath : {X : Type 0} → List ℕ → Result X Told → Type 0
RemarksPath path r = RemarksBy (λ e. NamesPath path) r

-- by that of the first file that is refused, of those that are joined to one, and of all
abbrev pub RemarksUnjoined : Holding → PageTally → List (List ℕ) → Result PageTally Told → Type 0
RemarksUnjoined at one paths (Ok both) = Unit {0}
RemarksUnjoined at one paths (Err told) = is_want told.refusal ≡ false → NamesUnjoined at one paths told.refusal told.remark

abbrev pub RemarksUnjoinedOf : {X : Type 0} → Holding → List (List ℕ) → Result X Told → Type 0
RemarksUnjoinedOf at paths (Ok x) = Unit {0}
RemarksUnjoinedOf at paths (Err told) = is_want told.refusal ≡ false → NamesUnjoinedOf at paths told.refusal told.remark
