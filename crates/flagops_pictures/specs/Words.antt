-- What the words of `picture` and of `plan --picture` ask for, by what `clap` reads of them.
use Rattle.std.specs.Prelude.{ℕ, Bool, List, codes, Option, Some, option_map}
use Rattle.clap.specs.Kinds.{Kinds}
use Rattle.clap.specs.Simple.{App, new_app, with_rule}
use Rattle.clap.specs.Walk.{Row, Rule, Text, first_of}
use Rattle.flagops_ramps.specs.Words.{Verifying, verify_in, with_steps}
use Rattle.flagops_words.specs.Alone.{asked_in, faults_in}
use Rattle.flagops_words.specs.Words.{◌>>=◌, flag, flag_in, floats_flag, has_floats, is_strict, refine_in, refine_option, required, strict_flag, with_rollout}
use Rattle.flagops_pictures.specs.declared.asked.Picturing as code
use Rattle.flagops_pictures.specs.declared.asked.Planning as code_planning

-- the files of a rollout and of its plan, the factor of a refinement if there is one, and whether the document may have floats
pub record Picturing : Type 0 where
  pub document : Text
  pub request : Text
  pub book : Text
  pub plan : Text
  pub refine : Option ℕ
  pub floats : Bool

-- the files of a rollout, the file of the picture, the factor of a refinement if there is one, whether what is doubted is refused,
-- whether the plan is told in words, and whether the document may have floats
pub record Planning : Type 0 where
  pub document : Text
  pub request : Text
  pub book : Text
  pub picture : Text
  pub refine : Option ℕ
  pub strict : Bool
  pub explain : Bool
  pub floats : Bool

abbrev pub planning_view : code_planning.Planning → Planning
planning_view p = record { document = p.document.now; request = p.request.now; book = p.book.now; picture = p.picture.now; refine = option_map (λ m. m.number) p.refine; strict = p.strict; explain = p.explain; floats = p.floats }

abbrev pub picturing_view : code.Picturing → Picturing
picturing_view a = record { document = a.document.now; request = a.request.now; book = a.book.now; plan = a.plan.now; refine = option_map (λ m. m.number) a.refine; floats = a.floats }

-- `picture DOC REQUEST BOOK PLAN`, with `--refine M` and `--floats`
unfoldable pub picture_app : App
picture_app = with_rule (with_rule (with_rule (with_rollout (new_app (codes "picture"))) (required (codes "PLAN"))) refine_option) floats_flag

-- `picture --ramp DOC STEPS BOOK RAMP`, with `--refine M` and `--floats`
unfoldable pub ramp_app : App
ramp_app = with_rule (with_rule (with_rule (with_rule (with_steps (new_app (codes "picture"))) (required (codes "RAMP"))) (flag (codes "ramp"))) refine_option) floats_flag

-- `--picture FILE`, which has to be there
abbrev pub picture_option : Rule
picture_option = record (required (codes "FILE")) { long = Some (codes "picture") }

-- `plan --picture FILE DOC REQUEST BOOK`, with `--refine M`, `--strict`, `--explain` and `--floats`
unfoldable pub plan_app : App
plan_app = with_rule (with_rule (with_rule (with_rule (with_rule (with_rollout (new_app (codes "plan"))) picture_option) refine_option) strict_flag) (flag (codes "explain"))) floats_flag

abbrev pub picture_in : List Row → Option Picturing
picture_in rows = do
  document ← first_of (codes "DOC") rows
  request ← first_of (codes "REQUEST") rows
  book ← first_of (codes "BOOK") rows
  plan ← first_of (codes "PLAN") rows
  refine ← refine_in rows
  Some (record { document = document; request = request; book = book; plan = plan; refine = refine; floats = has_floats rows })

abbrev pub planning_in : List Row → Option Planning
planning_in rows = do
  document ← first_of (codes "DOC") rows
  request ← first_of (codes "REQUEST") rows
  book ← first_of (codes "BOOK") rows
  picture ← first_of (codes "FILE") rows
  refine ← refine_in rows
  Some (record { document = document; request = request; book = book; picture = picture; refine = refine; strict = is_strict rows; explain = flag_in (codes "explain") rows; floats = has_floats rows })

unfoldable pub picture_faults : List Text → Kinds
picture_faults = faults_in picture_app picture_in

unfoldable pub picture_by : List Text → Option Picturing
picture_by = asked_in picture_app picture_in

unfoldable pub ramp_faults : List Text → Kinds
ramp_faults = faults_in ramp_app verify_in

unfoldable pub ramp_by : List Text → Option Verifying
ramp_by = asked_in ramp_app verify_in

unfoldable pub plan_faults : List Text → Kinds
plan_faults = faults_in plan_app planning_in

unfoldable pub plan_by : List Text → Option Planning
plan_by = asked_in plan_app planning_in
