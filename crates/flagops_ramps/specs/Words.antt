-- What the words of `ramp`, `verify-ramp`, `apply --step` and `apply --step --keep` ask for, by what `clap` reads of them.
use Rattle.std.specs.Prelude.{ℕ, Bool, true, List, codes, Option, Some, option_map}
use Rattle.clap.specs.Kinds.{Kinds}
use Rattle.clap.specs.Simple.{App, new_app, with_rule}
use Rattle.clap.specs.Walk.{Row, Rule, Text, first_of}
use Rattle.flagops_words.specs.Alone.{asked_in, faults_in}
use Rattle.flagops_words.specs.Numbers.{factor_in, max_32}
use Rattle.flagops_words.specs.Words.{◌>>=◌, doubted_flag, flag, flag_in, floats_flag, has_floats, is_strict, number, number_at, option_number, refine_in, refine_option, refuses_doubts, required, strict_flag}
use Rattle.flagops_ramps.specs.declared.asked.Applying as code_apply
use Rattle.flagops_ramps.specs.declared.asked.Keeping as code_keep
use Rattle.flagops_ramps.specs.declared.asked.Ramping as code_ramp
use Rattle.flagops_ramps.specs.declared.asked.Verifying as code_verify

-- the paths of a document, steps and a book, the factor of the first step, whether what is doubted is refused, and whether the document may have floats
pub record Ramping : Type 0 where
  pub document : Text
  pub steps : Text
  pub book : Text
  pub refine : Option ℕ
  pub strict : Bool
  pub floats : Bool

-- the same, and the path of the answers
pub record Verifying : Type 0 where
  pub rollout : Ramping
  pub ramp : Text

-- a rollout with its answers, the number of a step, from 1, and whether the document is written over
pub record Keeping : Type 0 where
  pub answered : Verifying
  pub step : ℕ
  pub write : Bool

-- the paths of a document and of answers, a flag with its site, the number of a step, from 1, whether it is refused that something is left out, and whether the document may have floats
pub record Applying : Type 0 where
  pub document : Text
  pub ramp : Text
  pub key : Text
  pub site : ℕ
  pub step : ℕ
  pub strict : Bool
  pub floats : Bool

abbrev pub applying_view : code_apply.Applying → Applying
applying_view a = record { document = a.document.now; ramp = a.ramp.now; key = a.key.now; site = a.site; step = a.step; strict = a.strict; floats = a.floats }

abbrev pub ramping_view : code_ramp.Ramping → Ramping
ramping_view r = record { document = r.document.now; steps = r.steps.now; book = r.book.now; refine = option_map (λ m. m.number) r.refine; strict = r.strict; floats = r.floats }

abbrev pub verifying_view : code_verify.Verifying → Verifying
verifying_view v = record { rollout = ramping_view v.rollout; ramp = v.ramp.now }

abbrev pub keeping_view : code_keep.Keeping → Keeping
keeping_view k = record { answered = verifying_view k.answered; step = k.step; write = k.write }

-- `DOC STEPS BOOK`
abbrev pub with_steps : App → App
with_steps a = with_rule (with_rule (with_rule a (required (codes "DOC"))) (required (codes "STEPS"))) (required (codes "BOOK"))

-- `ramp DOC STEPS BOOK`, with `--refine M`, `--strict` and `--floats`
unfoldable pub ramp_app : App
ramp_app = with_rule (with_rule (with_rule (with_steps (new_app (codes "ramp"))) refine_option) strict_flag) floats_flag

-- `verify-ramp DOC STEPS BOOK RAMP`, with `--refine M`, `--strict` and `--floats`
unfoldable pub verify_app : App
verify_app = with_rule (with_rule (with_rule (with_rule (with_steps (new_app (codes "verify-ramp"))) (required (codes "RAMP"))) refine_option) strict_flag) floats_flag

-- `--step N`, which has to be there
abbrev pub step_option : Rule
step_option = record (option_number (codes "N") (codes "step") 1 max_32) { required = true }

-- `apply DOC RAMP FLAG SITE`
abbrev pub step_words : App
step_words = with_rule (with_rule (with_rule (with_rule (new_app (codes "apply")) (required (codes "DOC"))) (required (codes "RAMP"))) (required (codes "FLAG"))) (number (codes "SITE") max_32)

-- the same with `--step N`, `--strict` and `--floats`
unfoldable pub step_app : App
step_app = with_rule (with_rule (with_rule step_words step_option) strict_flag) floats_flag

-- `apply DOC RAMP STEPS BOOK`
abbrev pub kept_words : App
kept_words =
    with_rule (with_rule (with_rule (with_rule (new_app (codes "apply")) (required (codes "DOC"))) (required (codes "RAMP"))) (required (codes "STEPS"))) (required (codes "BOOK"))

-- the same with `--step N` and `--keep`
abbrev pub kept_step : App
kept_step = with_rule (with_rule kept_words step_option) (flag (codes "keep"))

-- and with `--write` and `--refine M`
abbrev pub kept_put : App
kept_put = with_rule (with_rule kept_step (flag (codes "write"))) refine_option

-- `apply --step N --keep DOC RAMP STEPS BOOK`, with `--write`, `--refine M`, `--strict`, `--doubted` and `--floats`
unfoldable pub keep_app : App
keep_app = with_rule (with_rule (with_rule kept_put strict_flag) doubted_flag) floats_flag

-- ---- what the words ask for

abbrev pub ramp_in : List Row → Option Ramping
ramp_in rows = do
  document ← first_of (codes "DOC") rows
  steps ← first_of (codes "STEPS") rows
  book ← first_of (codes "BOOK") rows
  factor ← refine_in rows
  Some (record { document = document; steps = steps; book = book; refine = factor; strict = is_strict rows; floats = has_floats rows })

abbrev pub verify_in : List Row → Option Verifying
verify_in rows = do
  rollout ← ramp_in rows
  ramp ← first_of (codes "RAMP") rows
  Some (record { rollout = rollout; ramp = ramp })

abbrev pub number_of_step : List Row → Option ℕ
number_of_step rows = do
  word ← first_of (codes "N") rows
  factor_in word

-- the same answers, of which what is doubted is refused, or not
abbrev pub refusing : Bool → Verifying → Verifying
refusing strict v = record v { rollout = record v.rollout { strict = strict } }

abbrev pub keep_in : List Row → Option Keeping
keep_in rows = do
  answered ← verify_in rows
  step ← number_of_step rows
  Some (record { answered = refusing (refuses_doubts rows) answered; step = step; write = flag_in (codes "write") rows })

abbrev pub step_in : List Row → Option Applying
step_in rows = do
  document ← first_of (codes "DOC") rows
  ramp ← first_of (codes "RAMP") rows
  key ← first_of (codes "FLAG") rows
  site ← number_at (codes "SITE") 0 max_32 rows
  step ← number_of_step rows
  Some (record { document = document; ramp = ramp; key = key; site = site; step = step; strict = is_strict rows; floats = has_floats rows })

unfoldable pub ramp_faults : List Text → Kinds
ramp_faults = faults_in ramp_app ramp_in

unfoldable pub ramp_by : List Text → Option Ramping
ramp_by = asked_in ramp_app ramp_in

unfoldable pub verify_faults : List Text → Kinds
verify_faults = faults_in verify_app verify_in

unfoldable pub verify_by : List Text → Option Verifying
verify_by = asked_in verify_app verify_in

unfoldable pub step_faults : List Text → Kinds
step_faults = faults_in step_app step_in

unfoldable pub step_by : List Text → Option Applying
step_by = asked_in step_app step_in

unfoldable pub keep_faults : List Text → Kinds
keep_faults = faults_in keep_app keep_in

unfoldable pub keep_by : List Text → Option Keeping
keep_by = asked_in keep_app keep_in
