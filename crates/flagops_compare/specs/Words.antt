-- What the words of `compare` ask for, by what `clap` reads of them.
use Rattle.std.specs.Prelude.{Bool, List, codes, Option, Some, option_copied}
use Rattle.clap.specs.Kinds.{Kinds}
use Rattle.clap.specs.Simple.{App, new_app, new_rule, with_rule}
use Rattle.clap.specs.Walk.{Row, Rule, Text, first_of}
use Rattle.flagops_compare.specs.declared.asked.Comparing as code
use Rattle.flagops_words.specs.Alone.{asked_in, faults_in}
use Rattle.flagops_words.specs.Words.{◌>>=◌, floats_flag, has_floats, is_json, is_strict, json_flag, required, strict_flag}

-- the paths of both documents and of the book, the key of the flag and the path of the picture where there are such, whether a page that has no rules to compare, or a flag without a page, is no
-- success, whether the answer is JSON, and whether the documents may have floats
pub record Comparing : Type 0 where
  pub old : Text
  pub new : Text
  pub book : Text
  pub flag : Option Text
  pub picture : Option Text
  pub strict : Bool
  pub json : Bool
  pub floats : Bool

abbrev pub comparing_view : code.Comparing → Comparing
comparing_view c = record { old = c.old.now; new = c.new.now; book = c.book.now; flag = option_copied c.flag; picture = option_copied c.picture; strict = c.strict; json = c.json; floats = c.floats }

-- `compare OLD NEW BOOK`
abbrev pub compare_files : App
compare_files = with_rule (with_rule (with_rule (new_app (codes "compare")) (required (codes "OLD"))) (required (codes "NEW"))) (required (codes "BOOK"))

-- `--flag KEY`, which may be left out
abbrev pub flag_option : Rule
flag_option = record (new_rule (codes "KEY")) { long = Some (codes "flag") }

-- `--picture FILE`, which may be left out
abbrev pub picture_option : Rule
picture_option = record (new_rule (codes "FILE")) { long = Some (codes "picture") }

-- the same with these
abbrev pub compare_begun : App
compare_begun = with_rule (with_rule compare_files flag_option) picture_option

-- and with `--strict`, `--json` and `--floats`
unfoldable pub compare_app : App
compare_app = with_rule (with_rule (with_rule compare_begun strict_flag) json_flag) floats_flag

abbrev pub comparing_in : List Row → Option Comparing
comparing_in rows = do
  old ← first_of (codes "OLD") rows
  new ← first_of (codes "NEW") rows
  book ← first_of (codes "BOOK") rows
  Some (record { old = old; new = new; book = book; flag = first_of (codes "KEY") rows; picture = first_of (codes "FILE") rows; strict = is_strict rows; json = is_json rows; floats = has_floats rows })

unfoldable pub compare_faults : List Text → Kinds
compare_faults = faults_in compare_app comparing_in

unfoldable pub compare_by : List Text → Option Comparing
compare_by = asked_in compare_app comparing_in
