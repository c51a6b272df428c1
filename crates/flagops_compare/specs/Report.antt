-- What `compare` comes to.
use Rattle.std.specs.Prelude.{◌≡◌, ℕ, nat_eq, nat_lt, Bool, true, ◌&&◌, ◌||◌, List, [], ◌∷◌, ◌++◌, length, if◌then◌else◌, is_some, Option, Some, None, Result, Ok, Err}
use Rattle.clap.specs.Walk.{Text}
use Rattle.flagops_compare.specs.Compared.{IsComparedOn}
use Rattle.flagops_compare.specs.Drawn.{DrawsAt, pages_drawn}
use Rattle.flagops_compare.specs.Loaded.{Loaded, IsLoadedAt, compare_attempts}
use Rattle.flagops_compare.specs.Printed.{report_text}
use Rattle.flagops_compare.specs.Told.{told_lines}
use Rattle.flagops_compare.specs.Words.{Comparing}
use Rattle.flagops_compare.specs.declared.refusal.CompareRefusal.{CompareRefusal}
use Rattle.flagops_compare.specs.declared.refusal.CompareRefusal.TheVariants.{WantOfMemory, Load, OtherTally}
use Rattle.flagops_files.specs.Lines.{NamesFile}
use Rattle.flagops_files.specs.Refusal.{Attempts, by, stores_file, unwritable}
use Rattle.flagops_files.specs.Told.{NamesFirst, attempt_by, file}
use Rattle.flagops_files.specs.declared.refusal.Refusal.{Refusal}
use Rattle.flagops_shell.specs.Diagnostic.{Says}
use Rattle.flagops_shell.specs.Files.{Holding}
use Rattle.flagops_shell.specs.Report.{Report}
use Rattle.flagops_shell.specs.declared.refused.Remark.{Remark}
use Rattle.rule_switches.specs.Found.{PageFound, all_left}
use Rattle.rule_switches.specs.declared.fault.TallyFault.{TallyFault}
use Rattle.rule_switches.specs.declared.fault.TallyFault.TheVariants as tally
use Rattle.picture.specs.Spelling.{Pictures}

-- what the command may come to
abbrev pub Came : Type 0
Came = Result Report CompareRefusal

-- a page has no rules to compare
abbrev pub has_left : List PageFound → Bool
has_left pages = nat_lt 0 (all_left pages)

-- a flag is asked for that no page is of
abbrev pub is_unmatched : Option Text → List PageFound → Bool
is_unmatched only pages = is_some only && nat_eq (length pages) 0

abbrev pub is_doubted : Comparing → List PageFound → Bool
is_doubted a pages = has_left pages || is_unmatched a.flag pages

-- with `--strict` this is no success
abbrev pub compare_status : Bool → Bool → ℕ
compare_status strict doubted = if strict && doubted then 1 else 0

abbrev pub tally_refusal : TallyFault → CompareRefusal
tally_refusal tally.WantOfMemory = WantOfMemory
tally_refusal tally.OtherTally = OtherTally

-- what is printed of the pages; a person is told beside it where a page has no rules to compare, or the flag that is asked for has no page
abbrev pub compare_report : Comparing → List PageFound → Report
compare_report a pages = record { text = report_text a.json pages; status = compare_status a.strict (is_doubted a pages); is_told = is_doubted a pages }

-- where the picture that is asked for is written: nowhere where `--strict` refuses what is doubted
abbrev pub picture_path : Comparing → List PageFound → Option Text
picture_path a pages = if a.strict && is_doubted a pages then None else a.picture

-- The pages are reported, and their picture is written where one is asked for, or its file is refused to be. After a refusal all files are as
-- they were.
abbrev pub IsWithPages : Option Holding → Option Holding → Comparing → Pictures → List PageFound → Came → Type 0
IsWithPages old new a ps pages (Ok report) = (report ≡ compare_report a pages) × DrawsAt ps (picture_path a pages) old new
IsWithPages old new a ps pages (Err e) = (e ≡ Load unwritable) × (is_some (picture_path a pages) ≡ true) × (new ≡ old)

abbrev pub IsWithCompared : Option Holding → Option Holding → Comparing → Loaded → Result (List PageFound) TallyFault → Came → Type 0
IsWithCompared old new a l (Err e) r = (r ≡ Err (tally_refusal e)) × (new ≡ old)
IsWithCompared old new a l (Ok pages) r = IsWithPages old new a (pages_drawn l.old l.new pages) pages r

-- what was loaded is compared, or its refusal is the command's
abbrev pub IsWithLoaded : Option Holding → Option Holding → Comparing → Result Loaded Refusal → Came → Type 0
IsWithLoaded old new a (Err e) r = (r ≡ Err (Load e)) × (new ≡ old)
IsWithLoaded old new a (Ok l) r = (pages : Result (List PageFound) TallyFault) × IsComparedOn l a.flag pages × IsWithCompared old new a l pages r

unfoldable pub IsCompareReport : Holding → Option Holding → Comparing → Came → Type 0
IsCompareReport at new a r = (loaded : Result Loaded Refusal) × IsLoadedAt a.floats at a.old a.new a.book loaded × IsWithLoaded (Some at) new a loaded r

-- ---- what is told

-- the pages that have no rules to compare, or the flag without a page
abbrev pub TellsOfLoaded : Comparing → Loaded → List ℕ → Type 0
TellsOfLoaded a l lines = (pages : List PageFound) × IsComparedOn l a.flag (Ok pages) × (lines ≡ told_lines a l.old pages)

unfoldable pub TellsLeft : Holding → Comparing → List ℕ → Type 0
TellsLeft at a lines = (l : Loaded) × IsLoadedAt a.floats at a.old a.new a.book (Ok l) × TellsOfLoaded a l lines

-- the file of the picture, where one is asked for and it could not be written
abbrev pub picture_attempts : Option Text → Attempts
picture_attempts None = []
picture_attempts (Some path) = attempt_by (file path) (by stores_file) ∷ []

-- the files that are read, and then that of the picture
abbrev pub attempts_of : Holding → Comparing → Attempts
attempts_of at a = compare_attempts a.floats at a.old a.new a.book ++ picture_attempts a.picture

-- of a refusal the name of the first file that is refused
abbrev pub NamesRefused : Attempts → Comparing → CompareRefusal → Remark → Type 0
NamesRefused attempts a WantOfMemory remark = ⊥
NamesRefused attempts a (Load e) remark = NamesFirst attempts e remark
NamesRefused attempts a OtherTally remark = Says (NamesFile a.book) remark

abbrev pub remark_of : Holding → Comparing → Came → Remark → Type 0
remark_of at a (Ok report) remark = Says (TellsLeft at a) remark
remark_of at a (Err e) remark = NamesRefused (attempts_of at a) a e remark
