-- What the words of `record`, `tally` and `join` ask for, by what `clap` reads of them.
use Rattle.std.specs.Prelude.{ℕ, Bool, List, ◌∷◌, codes, map, Option, Some, None, option_map}
use Rattle.clap.specs.Kinds.{Kinds}
use Rattle.clap.specs.Simple.{App, new_app, with_rule}
use Rattle.clap.specs.Walk.{Row, Text, first_of}
use Rattle.flagops_words.specs.Alone.{asked_in, faults_in}
use Rattle.flagops_words.specs.Numbers.{max_32, max_moment, moment_in}
use Rattle.flagops_words.specs.Words.{◌>>=◌, floats_flag, has_floats, number, number_at, number_or, option_number, refine_in, refine_option, required, some_words, texts_at}
use Rattle.flagops_filters.specs.declared.asked.Recording as code_record
use Rattle.flagops_filters.specs.declared.asked.Tallying as code_tally
use Rattle.flagops_filters.specs.declared.asked.Joining as code_join

-- the path of a document, the key of a flag, the moment of the evaluation, how many workers evaluate, and whether the document may have floats
pub record Recording : Type 0 where
  pub document : Text
  pub key : Text
  pub moment : Option ℕ
  pub workers : ℕ
  pub floats : Bool

-- the path of a document, the key of a flag, the number of a site, the factor of its rule, and whether the document may have floats
pub record Tallying : Type 0 where
  pub document : Text
  pub key : Text
  pub site : ℕ
  pub refine : Option ℕ
  pub floats : Bool

-- the paths of tallies, of which there is one at least
pub record Joining : Type 0 where
  pub tallies : List Text

abbrev pub recording_view : code_record.Recording → Recording
recording_view r = record { document = r.document.now; key = r.key.now; moment = option_map (λ m. m.number) r.moment; workers = r.workers; floats = r.floats }

abbrev pub tallying_view : code_tally.Tallying → Tallying
tallying_view t = record { document = t.document.now; key = t.key.now; site = t.site; refine = option_map (λ m. m.number) t.refine; floats = t.floats }

abbrev pub joining_view : code_join.Joining → Joining
joining_view j = record { tallies = j.first.now ∷ map (λ t. t.now) j.others.items }

-- the most workers
abbrev pub max_workers : ℕ
max_workers = 64

-- `record DOC KEY`, with `--moment MOMENT`, `--workers WORKERS`, on which no output depends, and `--floats`
unfoldable pub record_app : App
record_app =
    with_rule (with_rule (with_rule (with_rule (with_rule (new_app (codes "record")) (required (codes "DOC"))) (required (codes "KEY"))) (option_number (codes "MOMENT") (codes "moment") 0 max_moment)) (option_number (codes "WORKERS") (codes "workers") 1 max_workers)) floats_flag

-- `tally DOC FLAG SITE`, with `--refine M` and `--floats`
unfoldable pub tally_app : App
tally_app = with_rule (with_rule (with_rule (with_rule (with_rule (new_app (codes "tally")) (required (codes "DOC"))) (required (codes "FLAG"))) (number (codes "SITE") max_32)) refine_option) floats_flag

-- `join TALLY..`
unfoldable pub join_app : App
join_app = with_rule (new_app (codes "join")) (some_words (codes "TALLY"))

-- ---- what the words ask for

-- a moment, where one is given
abbrev pub if_moment : Option Text → Option (Option ℕ)
if_moment None = Some None
if_moment (Some word) = option_map Some (moment_in word)

abbrev pub record_in : List Row → Option Recording
record_in rows = do
  document ← first_of (codes "DOC") rows
  key ← first_of (codes "KEY") rows
  moment ← if_moment (first_of (codes "MOMENT") rows)
  workers ← number_or 4 1 max_workers (first_of (codes "WORKERS") rows)
  Some (record { document = document; key = key; moment = moment; workers = workers; floats = has_floats rows })

abbrev pub tally_in : List Row → Option Tallying
tally_in rows = do
  document ← first_of (codes "DOC") rows
  key ← first_of (codes "FLAG") rows
  site ← number_at (codes "SITE") 0 max_32 rows
  factor ← refine_in rows
  Some (record { document = document; key = key; site = site; refine = factor; floats = has_floats rows })

abbrev pub join_in : List Row → Option Joining
join_in rows = do
  tallies ← texts_at (codes "TALLY") rows
  Some (record { tallies = tallies })

unfoldable pub record_faults : List Text → Kinds
record_faults = faults_in record_app record_in

unfoldable pub record_by : List Text → Option Recording
record_by = asked_in record_app record_in

unfoldable pub tally_faults : List Text → Kinds
tally_faults = faults_in tally_app tally_in

unfoldable pub tally_by : List Text → Option Tallying
tally_by = asked_in tally_app tally_in

unfoldable pub join_faults : List Text → Kinds
join_faults = faults_in join_app join_in

unfoldable pub join_by : List Text → Option Joining
join_by = asked_in join_app join_in
