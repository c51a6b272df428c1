-- What a person is told of documents, beside the output.
use Rattle.std.specs.Prelude.{◌≡◌, ℕ, Bool, true, false, List, [], ◌∷◌, ◌++◌, codes, map, if◌then◌else◌}
use Rattle.flag_doubts.specs.Doubts.{name_of}
use Rattle.flag_doubts.specs.declared.doubt.Doubt.{Doubt}
use Rattle.flag_doubts.specs.declared.doubt.Doubt.TheVariants.{Doubled, Never, Repeated, Unread, Variant, Weight}
use Rattle.flag_text.specs.Printing.{text_of}
use Rattle.flag_text.specs.Shape.{text}
use Rattle.flagops_checks.specs.Documents.{IsCheckedAt}
use Rattle.flagops_checks.specs.Judged.{Checked, Judged, has_broken}
use Rattle.flagops_checks.specs.declared.form.Form.{Form}
use Rattle.flagops_files.specs.Told.{attempt, file}
use Rattle.file_diagnostics.specs.Broken.{TellsBroken}
use Rattle.file_diagnostics.specs.Named.{Names}
use Rattle.flagops_checks.specs.Refusal.{Attempts}
use Rattle.flagops_checks.specs.Sites as site_doubts
use Rattle.flagops_checks.specs.declared.sites.SiteDoubt.TheVariants.{Total, Constant}
use Rattle.flagops_shell.specs.Files.{Holding}

-- the line of a doubt: the path of the document and the key of the flag as JSON texts, why, and the doubt by its name
abbrev pub IsDoubtLine : List ℕ → List ℕ → List ℕ → List ℕ → Type 0
IsDoubtLine path key name line =
    (why : List ℕ) × (line ≡ codes "note: " ++ (text_of (text path) ++ (codes ": flag " ++ (text_of (text key) ++ (codes " " ++ (why ++ (codes " (" ++ (name ++ codes ")\n"))))))))

-- such a line where it is doubted, and nothing else
abbrev pub LineIf : Bool → List ℕ → List ℕ → List ℕ → List ℕ → Type 0
LineIf true path key name lines = IsDoubtLine path key name lines
LineIf false path key name lines = lines ≡ []

-- such a line for each doubt that a flag has by itself, in this order, and nothing else
abbrev pub OwnLines : List ℕ → Judged → List ℕ → Type 0
OwnLines path j lines =
    (doubled repeated unread weight variant never : List ℕ) × LineIf j.is_doubled path j.key (name_of Doubled) doubled × LineIf j.is_repeated path j.key (name_of Repeated) repeated
    × LineIf j.doubts.unread path j.key (name_of Unread) unread × LineIf j.doubts.weight path j.key (name_of Weight) weight × LineIf j.doubts.variant path j.key (name_of Variant) variant
    × LineIf j.doubts.never path j.key (name_of Never) never × (lines ≡ doubled ++ (repeated ++ (unread ++ (weight ++ (variant ++ never)))))

-- and for each of its sites
abbrev pub SiteLines : List ℕ → Judged → List ℕ → Type 0
SiteLines path j lines = (total constant : List ℕ) × LineIf j.sites.total path j.key (site_doubts.name_of Total) total × LineIf j.sites.constant path j.key (site_doubts.name_of Constant) constant × (lines ≡ total ++ constant)

-- both, one behind the other
abbrev pub FlagLines : List ℕ → Judged → List ℕ → Type 0
FlagLines path j lines = (own others : List ℕ) × OwnLines path j own × SiteLines path j others × (lines ≡ own ++ others)

-- such lines for each flag, in the order of the keys, and nothing else
unfoldable pub DoubtLines : List ℕ → List Judged → List ℕ → Type 0
DoubtLines path [] lines = lines ≡ []
DoubtLines path (j ∷ js) lines = (first more : List ℕ) × FlagLines path j first × DoubtLines path js more × (lines ≡ first ++ more)

-- where a flag is broken, a line for each that is, and before them the document's where there are others
abbrev pub head_line : Form → List ℕ → List ℕ
head_line form path = if form.is_alone then [] else codes "note: " ++ (text_of (text path) ++ codes " has broken flags:\n")

abbrev pub BrokenPart : Bool → Form → List ℕ → List ℕ → List ℕ → Type 0
BrokenPart true form path bytes lines = (rest : List ℕ) × TellsBroken form.floats bytes rest × (lines ≡ head_line form path ++ rest)
BrokenPart false form path bytes lines = lines ≡ []

-- where a member of the document is not read, lines that tell it
abbrev pub UnreadPart : Bool → List ℕ → List ℕ → Type 0
UnreadPart true path lines = Names path lines
UnreadPart false path lines = lines ≡ []

-- the line of a doubt of a document itself: its path as a JSON text, why, and the doubt by its name
abbrev pub IsDocumentLine : List ℕ → Doubt → List ℕ → Type 0
IsDocumentLine path d line = (why : List ℕ) × (line ≡ codes "note: " ++ (text_of (text path) ++ (codes " " ++ (why ++ (codes " (" ++ (name_of d ++ codes ")\n"))))))

-- where a member stands twice in the document or beside its flags, such a line
abbrev pub RepeatedPart : Bool → List ℕ → List ℕ → Type 0
RepeatedPart true path line = IsDocumentLine path Repeated line
RepeatedPart false path line = line ≡ []

-- what is told of a document
unfoldable pub TellsDocument : Form → Checked → List ℕ → Type 0
TellsDocument form c lines =
    (broken unread repeated doubts : List ℕ) × BrokenPart (has_broken c) form c.path c.bytes broken × UnreadPart c.is_unread c.path unread × RepeatedPart c.is_repeated c.path repeated
    × DoubtLines c.path c.flags doubts × (lines ≡ broken ++ (unread ++ (repeated ++ doubts)))

-- of all, one behind the other
abbrev pub TellsAll : Form → List Checked → List ℕ → Type 0
TellsAll form [] lines = lines ≡ []
TellsAll form (c ∷ cs) lines = (first more : List ℕ) × TellsDocument form c first × TellsAll form cs more × (lines ≡ first ++ more)

-- the documents in the order in which they are checked, each before the next
abbrev pub check_attempts : Bool → Holding → List (List ℕ) → Attempts
check_attempts floats at paths = map (λ path. attempt (file path) (IsCheckedAt floats at path)) paths
