-- What the words of `ofrep` ask for, by what `clap` reads of them.
use Rattle.std.specs.Prelude.{ℕ, zero, suc, ◌+◌, ◌-◌, Bool, true, false, List, [], ◌∷◌, codes, map, Option, Some, None, option_copied, option_map, unwrap_or, if◌then◌else◌}
use Rattle.std.specs.Str.{bytes_eq}
use Rattle.clap.specs.Kinds.{Kinds}
use Rattle.clap.specs.Simple.{App, new_app, new_rule, with_rule}
use Rattle.clap.specs.Walk.{Row, Rule, Text, all_of, first_of}
use Rattle.clap.specs.declared.builder.action.ArgAction.TheVariants.{Append}
use Rattle.flagops_words.specs.Alone.{asked_in, faults_in}
use Rattle.flagops_words.specs.Numbers.{max_port, number_in}
use Rattle.flagops_words.specs.Words.{◌>>=◌, flag, flag_in, number_or, option_number, some_words, texts_at}
use Rattle.flagops_service.specs.declared.asked.Answering as code
use Rattle.flagops_service.specs.declared.asked.OnBroken.{OnBroken}
use Rattle.flagops_service.specs.declared.asked.OnBroken.TheVariants.{Keep, Refuse, Serve}
use Rattle.note_lines.specs.declared.form.NoteForm.{NoteForm}
use Rattle.note_lines.specs.declared.form.NoteForm.TheVariants.{Hash, Input}
use Rattle.ofrep_guards.specs.declared.rules.Paths.{Paths}
use Rattle.ofrep_guards.specs.declared.rules.Paths.TheVariants.{All, Evaluations}
use Rattle.ofrep_worker.specs.declared.unrecorded.WithoutRecord.{WithoutRecord}
use Rattle.ofrep_worker.specs.declared.unrecorded.WithoutRecord.TheVariants as unrecorded

-- Documents, by their paths, answered at an address, also to the web pages of these origins, to whoever shows a key of a file where one is named, operations at another address where one is given, which may be asked to stop it, and to apply plans to its document, with a line told of each request or none, by so many workers that keep notes in a folder, with the inputs or with their hashes alone, and remember so many of them together, and streamed on a port; read again after so many seconds, 0 for never; idle connections are kept for so many seconds, and bodies taken of so many bytes at most. And what becomes of answers that can't be recorded, and of flags that are broken.
pub record Answering : Type 0 where
  pub listen : Option Text
  pub cors : List Text
  pub keys : Option Text
  pub admin : Option Text
  pub allow_stop : Bool
  pub allow_apply : Bool
  pub access_log : Bool
  pub log : Option Text
  pub log_points : Bool
  pub remember : ℕ
  pub without_record : WithoutRecord
  pub stream : Option ℕ
  pub workers : ℕ
  pub poll : ℕ
  pub idle : ℕ
  pub max_body : ℕ
  pub broken : OnBroken
  pub documents : List Text

abbrev pub answering_view : code.Answering → Answering
answering_view a = record {
  listen = option_copied a.listen;
  cors = map (λ o. o.now) a.cors.items;
  keys = option_copied a.keys;
  admin = option_copied a.admin;
  allow_stop = a.allow_stop;
  allow_apply = a.allow_apply;
  access_log = a.access_log;
  log = option_copied a.log;
  log_points = a.log_points;
  remember = a.remember;
  without_record = a.without_record;
  stream = a.stream;
  workers = a.workers;
  poll = a.poll;
  idle = a.idle;
  max_body = a.max_body;
  broken = a.broken;
  documents = map (λ d. d.now) a.documents.items;
}

-- the most subscribers of the stream at once
abbrev pub max_subscribers : ℕ
max_subscribers = 32

-- the seats of operations, where they have an address of their own: two for each thread, of which there are three where logs are kept
abbrev pub operators_of : Option Text → Option Text → ℕ
operators_of None log = 0
operators_of (Some address) None = 2
operators_of (Some address) (Some folder) = 6

-- the seats of subscribers, where there is a stream: fewer where operations have some
abbrev pub subscribers_of : Option ℕ → ℕ → ℕ
subscribers_of None operators = 0
subscribers_of (Some port) operators = max_subscribers - operators

-- the seats of the workers, of operations and of the subscribers
abbrev pub seats_of : Answering → ℕ
seats_of a = a.workers + (operators_of a.admin a.log + subscribers_of a.stream (operators_of a.admin a.log))

-- what the workers serve: the evaluations alone, where operations have an address of their own
abbrev pub paths_served : Option Text → Paths
paths_served None = All
paths_served (Some address) = Evaluations

-- the document to which plans may be applied: the only one, where that is allowed, which is no stream
abbrev pub only_of : List Text → Option Text
only_of (path ∷ []) = if bytes_eq path (codes "-") then None else Some path
only_of paths = None

abbrev pub applied_to : Answering → Option Text
applied_to a = if a.allow_apply then only_of a.documents else None

-- what the lines of the logs have of the inputs
abbrev pub form_of : Bool → NoteForm
form_of true = Hash
form_of false = Input

-- a number, where it is one at least
abbrev pub some_of : ℕ → Option ℕ
some_of zero = None
some_of (suc n) = Some (suc n)

-- ---- what the command takes

abbrev pub max_workers : ℕ
max_workers = 32

-- the most notes that are remembered
abbrev pub max_remembered : ℕ
max_remembered = 16777216

-- an hour, in seconds
abbrev pub max_poll : ℕ
max_poll = 3600

-- the longest that an idle connection is kept, in seconds
abbrev pub max_idle : ℕ
max_idle = 3600

-- the most bytes of a body that may be taken
abbrev pub max_body_bytes : ℕ
max_body_bytes = 4194304

-- an option with a text, which may be left out
abbrev pub option_text : Text → Text → Rule
option_text id long = record (new_rule id) { long = Some long }

-- one that may be given more than once
abbrev pub option_texts : Text → Text → Rule
option_texts id long = record (option_text id long) { action = Some Append }

-- `ofrep DOC..` with `--listen ADDRESS:PORT` and `--log FOLDER`
unfoldable pub ofrep_begun : App
ofrep_begun =
    with_rule (with_rule (with_rule (new_app (codes "ofrep")) (some_words (codes "DOC"))) (option_text (codes "ADDRESS:PORT") (codes "listen"))) (option_text (codes "FOLDER") (codes "log"))

-- the same with `--log-points`
unfoldable pub ofrep_logged : App
ofrep_logged = with_rule ofrep_begun (flag (codes "log-points"))

-- the same with `--cors ORIGIN` and `--keys FILE`
unfoldable pub ofrep_guarded : App
ofrep_guarded = with_rule (with_rule ofrep_logged (option_texts (codes "ORIGIN") (codes "cors"))) (option_text (codes "FILE") (codes "keys"))

-- the same with `--admin ADDRESS:PORT`, `--allow-stop`, `--allow-apply` and `--access-log`
unfoldable pub ofrep_operated : App
ofrep_operated =
    with_rule (with_rule (with_rule (with_rule ofrep_guarded (option_text (codes "HOST:PORT") (codes "admin"))) (flag (codes "allow-stop"))) (flag (codes "allow-apply"))) (flag (codes "access-log"))

-- the same with `--idle SECONDS` and `--max-body BYTES`
unfoldable pub ofrep_limited : App
ofrep_limited = with_rule (with_rule ofrep_operated (option_number (codes "S") (codes "idle") 1 max_idle)) (option_number (codes "BYTES") (codes "max-body") 1 max_body_bytes)

-- the same with `--remember N`, `--without-record answer|refuse` and `--broken refuse|serve`
unfoldable pub ofrep_chosen : App
ofrep_chosen =
    with_rule (with_rule (with_rule ofrep_limited (option_number (codes "NOTES") (codes "remember") 0 max_remembered)) (option_text (codes "answer|refuse") (codes "without-record")))
    (option_text (codes "refuse|serve") (codes "broken"))

-- the same with `--stream PORT`, `--workers N` and `--poll SECONDS`
unfoldable pub ofrep_app : App
ofrep_app =
    with_rule (with_rule (with_rule ofrep_chosen (option_number (codes "PORT") (codes "stream") 1 max_port)) (option_number (codes "N") (codes "workers") 1 max_workers)) (option_number (codes "SECONDS") (codes "poll") 0 max_poll)

-- ---- what the words ask for

-- a port, where one is given
abbrev pub port_if : Option Text → Option (Option ℕ)
port_if None = Some None
port_if (Some word) = option_map Some (number_in 1 max_port word)

abbrev pub port_in : List Row → Option (Option ℕ)
port_in rows = port_if (first_of (codes "PORT") rows)

-- what becomes of answers that can't be recorded, by its name
abbrev pub without_record_named : Text → Option WithoutRecord
without_record_named word = if bytes_eq word (codes "answer") then Some unrecorded.Answer else (if bytes_eq word (codes "refuse") then Some unrecorded.Refuse else None)

-- they are not given, where nothing is said
abbrev pub without_record_of : Option Text → Option WithoutRecord
without_record_of None = Some unrecorded.Refuse
without_record_of (Some word) = without_record_named word

abbrev pub without_record_in : List Row → Option WithoutRecord
without_record_in rows = without_record_of (first_of (codes "answer|refuse") rows)

-- what becomes of flags that are broken, by its name
abbrev pub broken_named : Text → Option OnBroken
broken_named word = if bytes_eq word (codes "refuse") then Some Refuse else (if bytes_eq word (codes "serve") then Some Serve else None)

-- a text that harms a flag is refused, where nothing is said
abbrev pub broken_of : Option Text → Option OnBroken
broken_of None = Some Keep
broken_of (Some word) = broken_named word

abbrev pub broken_in : List Row → Option OnBroken
broken_in rows = broken_of (first_of (codes "refuse|serve") rows)

-- the origins that are given, none where none is
abbrev pub origins_in : List Row → List Text
origins_in rows = unwrap_or (all_of (codes "ORIGIN") rows) []

abbrev pub answering_in : List Row → Option Answering
answering_in rows = do
  remember ← number_or 1000000 0 max_remembered (first_of (codes "NOTES") rows)
  without ← without_record_in rows
  broken ← broken_in rows
  stream ← port_in rows
  workers ← number_or 4 1 max_workers (first_of (codes "N") rows)
  poll ← number_or 2 0 max_poll (first_of (codes "SECONDS") rows)
  idle ← number_or 75 1 max_idle (first_of (codes "S") rows)
  max_body ← number_or 1048576 1 max_body_bytes (first_of (codes "BYTES") rows)
  documents ← texts_at (codes "DOC") rows
  Some (record {
    listen = first_of (codes "ADDRESS:PORT") rows;
    cors = origins_in rows;
    keys = first_of (codes "FILE") rows;
    admin = first_of (codes "HOST:PORT") rows;
    allow_stop = flag_in (codes "allow-stop") rows;
    allow_apply = flag_in (codes "allow-apply") rows;
    access_log = flag_in (codes "access-log") rows;
    log = first_of (codes "FOLDER") rows;
    log_points = flag_in (codes "log-points") rows;
    remember = remember;
    without_record = without;
    stream = stream;
    workers = workers;
    poll = poll;
    idle = idle;
    max_body = max_body;
    broken = broken;
    documents = documents;
  })

unfoldable pub ofrep_faults : List Text → Kinds
ofrep_faults = faults_in ofrep_app answering_in

unfoldable pub ofrep_by : List Text → Option Answering
ofrep_by = asked_in ofrep_app answering_in
