-- What a filter tells beside an answer, by what the standard input has: a line for each cause that holds, and nothing where none does.
use Rattle.std.specs.Prelude.{◌≡◌, ◌||◌, ◌&&◌, ◌++◌, ℕ, nat_eq, nat_lt, Bool, true, false, not, List, [], Option, Some, None, codes, decimal, if◌then◌else◌, is_some}
use Rattle.flagops_shell.specs.Diagnostic.{PutsRemark, Says}
use Rattle.flagops_shell.specs.declared.refused.Remark.{Remark}
use Rattle.note_streams.specs.Rest.{is_empty, is_torn}
use Rattle.note_streams.specs.Outcomes.{Outcomes, contexts}
use Rattle.note_tallies.specs.Tally.{PageTally}
use Rattle.note_tallies.specs.File.{tally_text}
use Rattle.flagops_filters.specs.declared.start.Start.{Start}

-- lines are this text
abbrev pub Reads : List ℕ → List ℕ → Type 0
Reads text lines = lines ≡ text

-- the last line has no end
abbrev pub torn_words : List ℕ
torn_words = codes "the last line has no line feed and is skipped"

-- ---- `tally`

abbrev pub tally_line : List ℕ → List ℕ
tally_line words = codes "tally: " ++ (words ++ codes "\n")

-- no line is of the page
abbrev pub none_words : List ℕ
none_words = codes "no line is of the page of this site, and nothing is counted; 'cut -d, -f1-3' shows the pages of lines"

-- the same, where the last line is torn
abbrev pub none_torn_words : List ℕ
none_torn_words = codes "no line is of the page of this site, and nothing is counted; the last line has no line feed and is skipped"

-- where the standard input is empty, has no line of the page, or has a torn line
abbrev pub tally_lines : Bool → Bool → Bool → List ℕ
tally_lines true none torn = tally_line (codes "the standard input is empty, and nothing is counted")
tally_lines false true false = tally_line none_words
tally_lines false true true = tally_line none_torn_words
tally_lines false false true = tally_line torn_words
tally_lines false false false = []

-- the tally has no input
abbrev pub has_none : PageTally → Bool
has_none t = nat_eq t.inputs 0

-- of a standard input of these bytes, whose tally this is
abbrev pub tally_beside : List ℕ → PageTally → List ℕ
tally_beside bytes t = tally_lines (is_empty bytes) (has_none t) (is_torn bytes)

-- there is such a line
abbrev pub is_beside : Bool → Bool → Bool → Bool
is_beside empty none torn = empty || (none || torn)

-- lines are those beside a text, which is the file of the tally of a standard input of these bytes
abbrev pub IsBesideTally : List ℕ → List ℕ → List ℕ → Type 0
IsBesideTally bytes text lines = (t : PageTally) × (text ≡ tally_text t) × (lines ≡ tally_beside bytes t)

-- ---- `record`

abbrev pub record_line : List ℕ → List ℕ
record_line words = codes "record: " ++ (words ++ codes "\n")

-- a line where it is so
abbrev pub line_if : Bool → List ℕ → List ℕ
line_if is_so words = if is_so then record_line words else []

-- the inputs that were not noted, where there are any
abbrev pub long_line : ℕ → List ℕ
long_line n = if nat_lt 0 n then codes "record: " ++ (decimal n ++ codes " inputs have more than 1024 bytes and are not noted\n") else []

-- the clock's second is the moment
abbrev pub clock_line : Option ℕ → List ℕ
clock_line None = []
clock_line (Some now) = codes "record: the targeting reads $flagd.timestamp and no --moment is given: the moment is " ++ (decimal now ++ codes ", the clock's second\n")

-- the contexts of one cause, where there are any
unfoldable pub cause : ℕ → List ℕ → List ℕ
cause n words = if nat_lt 0 n then codes ", " ++ (decimal n ++ words) else []

-- those of each
abbrev pub causes : Outcomes → List ℕ
causes o =
    cause o.keyless (codes " without a targetingKey")
    ++ (cause o.unreached (codes " with no fractional reached")
    ++ (cause o.parse_error (codes " with PARSE_ERROR")
    ++ (cause o.disabled (codes " with DISABLED") ++ cause o.too_long (codes " with inputs of more than 1024 bytes"))))

-- a site could have been reached and lines were given, but no note came of one
abbrev pub is_unrecorded : Start → Bool → Outcomes → Bool
is_unrecorded start empty o = not start.is_siteless && (not empty && nat_eq o.noted 0)

-- why not: how many contexts there are, and of each cause
abbrev pub why_line : Start → Bool → Outcomes → List ℕ
why_line start empty o = if is_unrecorded start empty o then codes "record: nothing is recorded: contexts " ++ (decimal (contexts o) ++ (causes o ++ codes "\n")) else []

-- where the moment is the clock's, the targeting has no site, the standard input is empty, nothing is recorded of any context, so many inputs
-- are too long, or a line is torn
abbrev pub record_lines : Start → Bool → Outcomes → ℕ → Bool → List ℕ
record_lines start empty o long torn =
    clock_line start.clock
    ++ (line_if start.is_siteless (codes "the targeting has no fractional, and nothing is recorded")
    ++ (line_if empty (codes "the standard input is empty, and nothing is recorded") ++ (why_line start empty o ++ (long_line long ++ line_if torn torn_words))))

-- there is such a line
abbrev pub is_noted : Start → Bool → Outcomes → ℕ → Bool → Bool
is_noted start empty o long torn = is_some start.clock || (start.is_siteless || (empty || (is_unrecorded start empty o || (nat_lt 0 long || torn))))

-- nothing is told, or these lines; where there was no memory for them, the sentence in their place
abbrev pub PutsIf : Bool → List ℕ → Option (List ℕ) → Option (List ℕ) → Bool → Type 0
PutsIf false lines old new is_broken = new ≡ old
PutsIf true lines old new is_broken = (remark : Remark) × Says (Reads lines) remark × PutsRemark old new is_broken (Some remark)

-- the same of a start, of what came of the contexts, and of so many inputs that are too long, of a standard input of these bytes
abbrev pub PutsNoted : Start → List ℕ → Outcomes → ℕ → Option (List ℕ) → Option (List ℕ) → Bool → Type 0
PutsNoted start bytes o long old new is_broken = PutsIf (is_noted start (is_empty bytes) o long (is_torn bytes)) (record_lines start (is_empty bytes) o long (is_torn bytes)) old new is_broken
