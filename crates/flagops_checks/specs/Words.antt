-- What the words of `check` ask for, by what `clap` reads of them.
use Rattle.std.specs.Prelude.{Bool, List, codes, map, Option, Some}
use Rattle.clap.specs.Kinds.{Kinds}
use Rattle.clap.specs.Simple.{App, new_app, with_rule}
use Rattle.clap.specs.Walk.{Row, Text}
use Rattle.flagops_checks.specs.declared.asked.Checking as code
use Rattle.flagops_words.specs.Alone.{asked_in, faults_in}
use Rattle.flagops_words.specs.Words.{◌>>=◌, floats_flag, has_floats, is_json, is_strict, json_flag, some_words, strict_flag, texts_at}

-- the paths of the documents, whether a flag that is broken or doubted is no success, whether the answer is JSON, and whether the documents may have floats
pub record Checking : Type 0 where
  pub documents : List Text
  pub strict : Bool
  pub json : Bool
  pub floats : Bool

abbrev pub checking_view : code.Checking → Checking
checking_view c = record { documents = map (λ d. d.now) c.documents.items; strict = c.strict; json = c.json; floats = c.floats }

-- `check DOC..`, with `--strict`, `--json` and `--floats`
unfoldable pub check_app : App
check_app = with_rule (with_rule (with_rule (with_rule (new_app (codes "check")) (some_words (codes "DOC"))) strict_flag) json_flag) floats_flag

abbrev pub checking_in : List Row → Option Checking
checking_in rows = do
  documents ← texts_at (codes "DOC") rows
  Some (record { documents = documents; strict = is_strict rows; json = is_json rows; floats = has_floats rows })

unfoldable pub check_faults : List Text → Kinds
check_faults = faults_in check_app checking_in

unfoldable pub check_by : List Text → Option Checking
check_by = asked_in check_app checking_in
