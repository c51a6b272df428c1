-- Which command the words ask for, by what `clap` reads of them.
use Rattle.std.specs.Prelude.{◌≡◌, ◌⊎◌, ◌&&◌, ◌||◌, ℕ, Bool, true, false, not, is_some, List, [], ◌∷◌, codes, Option, Some, None, option_and_then, option_map, if◌then◌else◌}
use Rattle.std.specs.Str.{bytes_eq}
use Rattle.clap.specs.Lexer.{usize_max}
use Rattle.clap.specs.Walk.{Row, Rule, Text, all_of, first_of}
use Rattle.clap.specs.Simple.{App, Shape, new_app, new_rule, on_top, subcommand_of, with_rule, with_subcommand}
use Rattle.clap.specs.Kinds.{Kinds, IsAmong, or_else}
use Rattle.clap.specs.declared.builder.action.ArgAction.TheVariants.{SetTrue}
use Rattle.clap.specs.declared.builder.value_parser.ValueParser.TheVariants.{Unsigned}
use Rattle.clap.specs.declared.error.kind.ErrorKind.{ErrorKind}
use Rattle.clap.specs.declared.error.kind.ErrorKind.TheVariants.{InvalidSubcommand, InvalidValue, MissingRequiredArgument, OutOfMemory, ValueValidation}
use Rattle.clap.specs.Faults.{fault_of}
use Rattle.flag_defs.specs.declared.kind.Kind.{Kind}
use Rattle.flagops_words.specs.Asked.{Asked, bucket, price, resolve, verify, apply, keep, plan, drive, completions}
use Rattle.flagops_words.specs.Kinds.{kind_spelled}
use Rattle.flagops_words.specs.Shell.{shell_named}
use Rattle.flagops_words.specs.declared.shell.Shell.{Shell}
use Rattle.flagops_words.specs.Numbers.{max_16, max_32, max_moment, moment_in, factor_in, number_in}

-- ---- what the program takes

-- a word that has to be there
abbrev pub required : Text → Rule
required id = record (new_rule id) { required = true }

-- an option without a value, by its long name
abbrev pub flag : Text → Rule
flag id = record (new_rule id) { long = Some id; action = Some SetTrue }

-- `--json`: the answer is printed as JSON
abbrev pub json_flag : Rule
json_flag = flag (codes "json")

-- `bucket RULE KEY`, with `--json`
unfoldable pub bucket_app : App
bucket_app = with_rule (with_rule (with_rule (new_app (codes "bucket")) (required (codes "RULE"))) (required (codes "KEY"))) json_flag

-- `price OLD NEW REQUEST KEYS`, with `--json`
unfoldable pub price_app : App
price_app =
    with_rule (with_rule (with_rule (with_rule (with_rule (new_app (codes "price")) (required (codes "OLD"))) (required (codes "NEW"))) (required (codes "REQUEST"))) (required (codes "KEYS"))) json_flag

-- `--strict`: what is doubted is refused
abbrev pub strict_flag : Rule
strict_flag = flag (codes "strict")

-- `--floats`: documents may have floats
abbrev pub floats_flag : Rule
floats_flag = flag (codes "floats")

-- `--doubted`: what is doubted is written all the same
abbrev pub doubted_flag : Rule
doubted_flag = flag (codes "doubted")

-- a number within bounds that has to be there
abbrev pub number_within : Text → ℕ → ℕ → Rule
number_within id least most = record (required id) { parser = Some (Unsigned least most) }

-- a number up to a bound that has to be there
abbrev pub number : Text → ℕ → Rule
number id most = number_within id 0 most

-- `resolve DOC KEY KIND ..`: the first words, which name a flag and the kind of its value
abbrev pub resolve_begun : App
resolve_begun = with_rule (with_rule (with_rule (new_app (codes "resolve")) (required (codes "DOC"))) (required (codes "KEY"))) (required (codes "KIND"))

-- `resolve DOC KEY KIND DEFAULT CONTEXT MOMENT`, with `--floats`
unfoldable pub resolve_app : App
resolve_app = with_rule (with_rule (with_rule (with_rule resolve_begun (required (codes "DEFAULT"))) (required (codes "CONTEXT"))) (number (codes "MOMENT") max_moment)) floats_flag

-- an option with a number within bounds, which may be left out
abbrev pub option_number : Text → Text → ℕ → ℕ → Rule
option_number id long least most = record (new_rule id) { long = Some long; parser = Some (Unsigned least most) }

-- `--refine M`
abbrev pub refine_option : Rule
refine_option = option_number (codes "M") (codes "refine") 1 max_32

-- `DOC REQUEST BOOK`: the words that name a rollout
abbrev pub with_rollout : App → App
with_rollout a = with_rule (with_rule (with_rule a (required (codes "DOC"))) (required (codes "REQUEST"))) (required (codes "BOOK"))

-- `verify DOC REQUEST BOOK PLAN`, with `--refine M`, `--strict`, `--json` and `--floats`
unfoldable pub verify_app : App
verify_app = with_rule (with_rule (with_rule (with_rule (with_rule (with_rollout (new_app (codes "verify"))) (required (codes "PLAN"))) refine_option) strict_flag) json_flag) floats_flag

-- `plan DOC REQUEST BOOK`, with `--refine M`, `--strict`, `--explain` and `--floats`
unfoldable pub plan_app : App
plan_app = with_rule (with_rule (with_rule (with_rule (with_rollout (new_app (codes "plan"))) refine_option) strict_flag) (flag (codes "explain"))) floats_flag

-- `apply DOC PLAN FLAG SITE` and `apply --keep DOC PLAN REQUEST BOOK`: the words of both
abbrev pub apply_begun : App
apply_begun =
    with_rule (with_rule (with_rule (with_rule (new_app (codes "apply")) (required (codes "DOC"))) (required (codes "PLAN"))) (required (codes "FLAG|REQUEST"))) (required (codes "SITE|BOOK"))

-- the same with `--keep`, `--write`, `--refine M`, `--strict`, `--doubted` and `--floats`
unfoldable pub apply_app : App
apply_app = with_rule (with_rule (with_rule (with_rule (with_rule (with_rule apply_begun (flag (codes "keep"))) (flag (codes "write"))) refine_option) strict_flag) doubted_flag) floats_flag

-- `drive DOC ASKS WORKERS BOOK`
abbrev pub drive_begun : App
drive_begun = with_rule (with_rule (with_rule (with_rule (new_app (codes "drive")) (required (codes "DOC"))) (required (codes "ASKS"))) (number (codes "WORKERS") max_16)) (required (codes "BOOK"))

-- the same with `--add`, `--replace`, `--strict`, `--json` and `--floats`
unfoldable pub drive_app : App
drive_app = with_rule (with_rule (with_rule (with_rule (with_rule drive_begun (flag (codes "add"))) (flag (codes "replace"))) strict_flag) json_flag) floats_flag

-- one word or more
abbrev pub some_words : Text → Rule
some_words id = record (required id) { range = Some (record { start_inclusive = 1; end_inclusive = usize_max }) }

-- `completions SHELL`
unfoldable pub completions_app : App
completions_app = with_rule (new_app (codes "completions")) (required (codes "SHELL"))

-- a command has to be named; there is a version, and no program's name before the words
abbrev pub takes_commands : Shape → Shape
takes_commands s = record s {
  no_binary_name = true;
  has_version = true;
  arg_required_else_help = true;
  subcommand_required = true;
}

-- a command more, whose words its own library reads: the program lists it
abbrev pub listing : Text → App → App
listing name a = with_subcommand a (new_app name).top

-- the program with its commands: those that are read here, and those that it lists
unfoldable pub flagops_app : App
flagops_app =
    listing (codes "follow") (listing (codes "serve") (listing (codes "ofrep") (listing (codes "join") (listing (codes "tally") (listing (codes "record")
    (listing (codes "picture") (listing (codes "verify-ramp") (listing (codes "ramp") (listing (codes "book") (listing (codes "compare")
    (listing (codes "check")
    (with_subcommand (with_subcommand (with_subcommand (with_subcommand (with_subcommand
    (with_subcommand (with_subcommand (with_subcommand (on_top takes_commands (new_app (codes "flagops"))) bucket_app.top) price_app.top)
    resolve_app.top) plan_app.top) verify_app.top) apply_app.top) drive_app.top) completions_app.top))))))))))))

-- ---- what the words ask for

-- what comes next, where there is something
infixl 10 ◌>>=◌
abbrev pub ◌>>=◌ : {X Y : Type 0} → Option X → (X → Option Y) → Option Y
o >>= next = option_and_then next o

abbrev pub is_true : Option Text → Bool
is_true None = false
is_true (Some word) = bytes_eq word (codes "true")

-- an option without a value is given; `clap` stores "true", and "false" where it is left out
abbrev pub flag_in : Text → List Row → Bool
flag_in id rows = is_true (first_of id rows)

abbrev pub is_strict : List Row → Bool
is_strict rows = flag_in (codes "strict") rows

-- documents may have floats
abbrev pub has_floats : List Row → Bool
has_floats rows = flag_in (codes "floats") rows

-- What is doubted is refused: where that is asked for, and where a file is written over, unless it is to be written all the same.
abbrev pub refuses_doubts : List Row → Bool
refuses_doubts rows = is_strict rows || (flag_in (codes "write") rows && not (flag_in (codes "doubted") rows))

abbrev pub is_json : List Row → Bool
is_json rows = flag_in (codes "json") rows

-- the words of `bucket`: the first value of each argument
abbrev pub bucket_in : List Row → Option Asked
bucket_in rows = do
  rule ← first_of (codes "RULE") rows
  key ← first_of (codes "KEY") rows
  Some (bucket rule key (is_json rows))

abbrev pub price_in : List Row → Option Asked
price_in rows = do
  old ← first_of (codes "OLD") rows
  new ← first_of (codes "NEW") rows
  request ← first_of (codes "REQUEST") rows
  keys ← first_of (codes "KEYS") rows
  Some (price old new request keys (is_json rows))

abbrev pub kind_in : List Row → Option Kind
kind_in rows = do
  word ← first_of (codes "KIND") rows
  kind_spelled word

abbrev pub resolve_in : List Row → Option Asked
resolve_in rows = do
  document ← first_of (codes "DOC") rows
  key ← first_of (codes "KEY") rows
  kind ← kind_in rows
  default ← first_of (codes "DEFAULT") rows
  context ← first_of (codes "CONTEXT") rows
  word ← first_of (codes "MOMENT") rows
  moment ← moment_in word
  Some (resolve document key kind default context moment (has_floats rows))

-- a factor, where one is given
abbrev pub if_given : Option Text → Option (Option ℕ)
if_given None = Some None
if_given (Some word) = option_map Some (factor_in word)

abbrev pub refine_in : List Row → Option (Option ℕ)
refine_in rows = if_given (first_of (codes "M") rows)

-- the number within bounds that is given for an argument
abbrev pub number_at : Text → ℕ → ℕ → List Row → Option ℕ
number_at id least most rows = do
  word ← first_of id rows
  number_in least most word

-- a number within bounds, or another where none is given
abbrev pub number_or : ℕ → ℕ → ℕ → Option Text → Option ℕ
number_or otherwise least most None = Some otherwise
number_or otherwise least most (Some word) = number_in least most word

abbrev pub verify_in : List Row → Option Asked
verify_in rows = do
  document ← first_of (codes "DOC") rows
  request ← first_of (codes "REQUEST") rows
  book ← first_of (codes "BOOK") rows
  file ← first_of (codes "PLAN") rows
  factor ← refine_in rows
  Some (verify document request book file factor (is_strict rows) (is_json rows) (has_floats rows))

abbrev pub plan_in : List Row → Option Asked
plan_in rows = do
  document ← first_of (codes "DOC") rows
  request ← first_of (codes "REQUEST") rows
  book ← first_of (codes "BOOK") rows
  factor ← refine_in rows
  Some (plan document request book factor (is_strict rows) (flag_in (codes "explain") rows) (has_floats rows))

-- a word is given that goes with `--keep`
abbrev pub is_stray : List Row → Bool
is_stray rows = flag_in (codes "write") rows || (flag_in (codes "doubted") rows || is_some (first_of (codes "M") rows))

abbrev pub site_in : List Row → Option ℕ
site_in rows = number_at (codes "SITE|BOOK") 0 max_32 rows

abbrev pub applied_in : List Row → Option Asked
applied_in rows = do
  site ← site_in rows
  document ← first_of (codes "DOC") rows
  file ← first_of (codes "PLAN") rows
  key ← first_of (codes "FLAG|REQUEST") rows
  Some (apply document file key site (is_strict rows) (has_floats rows))

abbrev pub keep_in : List Row → Option Asked
keep_in rows = do
  document ← first_of (codes "DOC") rows
  file ← first_of (codes "PLAN") rows
  request ← first_of (codes "FLAG|REQUEST") rows
  book ← first_of (codes "SITE|BOOK") rows
  factor ← refine_in rows
  Some (keep document file request book (flag_in (codes "write") rows) factor (refuses_doubts rows) (has_floats rows))

-- `--write`, `--refine M` and `--doubted` go with `--keep` alone
abbrev pub apply_in : List Row → Option Asked
apply_in rows = if flag_in (codes "keep") rows then keep_in rows else (if is_stray rows then None else applied_in rows)

abbrev pub drive_in : List Row → Option Asked
drive_in rows = do
  document ← first_of (codes "DOC") rows
  file ← first_of (codes "ASKS") rows
  word ← first_of (codes "WORKERS") rows
  workers ← number_in 0 max_16 word
  book ← first_of (codes "BOOK") rows
  Some (drive document file workers book (flag_in (codes "add") rows) (flag_in (codes "replace") rows) (is_strict rows) (is_json rows) (has_floats rows))

-- texts, where there are any
abbrev pub if_any : List Text → Option (List Text)
if_any [] = None
if_any (t ∷ ts) = Some (t ∷ ts)

abbrev pub texts_at : Text → List Row → Option (List Text)
texts_at id rows = do
  texts ← all_of id rows
  if_any texts

abbrev pub shell_in : List Row → Option Shell
shell_in rows = do
  word ← first_of (codes "SHELL") rows
  shell_named word

abbrev pub completions_in : List Row → Option Asked
completions_in rows = do
  shell ← shell_in rows
  Some (completions shell)

-- a command on rollouts by its name, with its words
abbrev pub rollout_in : Text × List Row → Option Asked
rollout_in (name, rows) =
    if bytes_eq name (codes "verify") then verify_in rows else
    (if bytes_eq name (codes "plan") then plan_in rows else
    (if bytes_eq name (codes "drive") then drive_in rows else None))

-- a command by its name, with its words
abbrev pub asked_in : Text × List Row → Option Asked
asked_in (name, rows) =
    if bytes_eq name (codes "resolve") then resolve_in rows else
    (if bytes_eq name (codes "completions") then completions_in rows else
    (if bytes_eq name (codes "apply") then apply_in rows else
    (if bytes_eq name (codes "price") then price_in rows else
    (if bytes_eq name (codes "bucket") then bucket_in rows else rollout_in (name, rows)))))

-- the same of the subcommand that was met, if one was
abbrev pub asked_of : Option (Text × List Row) → Option Asked
asked_of named = named >>= asked_in

abbrev pub unless : ErrorKind → Bool → Kinds
unless kind known = if known then [] else kind ∷ []

-- without `--keep`, a word of it is a mistake, and so is a site that is no number
abbrev pub apply_fault : List Row → Kinds
apply_fault rows =
    if flag_in (codes "keep") rows then [] else
    (if is_stray rows then MissingRequiredArgument ∷ [] else unless ValueValidation (is_some (site_in rows)))

-- a command other than these three whose words are read here
abbrev pub is_read : Text → Bool
is_read name =
    bytes_eq name (codes "price")
    || (bytes_eq name (codes "bucket") || (bytes_eq name (codes "verify") || (bytes_eq name (codes "plan") || bytes_eq name (codes "drive"))))

-- A kind of value that is none of the words for the four is a mistake, and so is a shell that is none of the three; and a command that is
-- listed alone is none that is read here.
abbrev pub kind_fault_in : Text × List Row → Kinds
kind_fault_in (name, rows) =
    if bytes_eq name (codes "resolve") then unless InvalidValue (is_some (kind_in rows)) else
    (if bytes_eq name (codes "completions") then unless InvalidValue (is_some (shell_in rows)) else
    (if bytes_eq name (codes "apply") then apply_fault rows else unless InvalidSubcommand (is_read name)))

abbrev pub kind_fault : Option (Text × List Row) → Kinds
kind_fault None = []
kind_fault (Some named) = kind_fault_in named

-- the mistake of words that `clap` takes and that ask for nothing
abbrev pub mistake_in : Text × List Row → ErrorKind
mistake_in (name, rows) =
    if bytes_eq name (codes "apply") then (if is_stray rows then MissingRequiredArgument else ValueValidation) else
    (if bytes_eq name (codes "completions") then InvalidValue else (if bytes_eq name (codes "resolve") then InvalidValue else InvalidSubcommand))

abbrev pub mistake_of : Option (Text × List Row) → ErrorKind
mistake_of None = InvalidValue
mistake_of (Some named) = mistake_in named

-- the kinds of mistake that the words make, or of help that they ask for
unfoldable pub faults_of : List Text → Kinds
faults_of words = or_else (fault_of flagops_app words) (kind_fault (subcommand_of flagops_app words))

-- words with a fault ask for no command
abbrev pub if_faultless : {X : Type 0} → Kinds → Option X → Option X
if_faultless [] asked = asked
if_faultless (k ∷ ks) asked = None

-- the command that the words after the program's name ask for
unfoldable pub asked_by : List Text → Option Asked
asked_by words = if_faultless (faults_of words) (asked_of (subcommand_of flagops_app words))

-- why the words ask for no command: one of their faults, unless memory ran out
abbrev pub IsToldBy : List Text → ErrorKind → Type 0
IsToldBy words kind = (kind ≡ OutOfMemory) ⊎ ((asked_by words ≡ None) × IsAmong kind (faults_of words))
