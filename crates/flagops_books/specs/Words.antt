-- What the words of `book` ask for, by what `clap` reads of them.
use Rattle.std.specs.Prelude.{Bool, List, codes, map, Option, Some}
use Rattle.clap.specs.Kinds.{Kinds}
use Rattle.clap.specs.Simple.{App, new_app, with_rule}
use Rattle.clap.specs.Walk.{Row, Text, first_of}
use Rattle.flagops_books.specs.declared.asked.Uniting as code
use Rattle.flagops_words.specs.Alone.{asked_in, faults_in}
use Rattle.flagops_words.specs.Words.{◌>>=◌, flag, flag_in, required, some_words, texts_at}

-- the path of the book that is written, those of the files that are read, whether lines that are none are passed over, and whether
-- inputs of the book that is written over may be lost
pub record Uniting : Type 0 where
  pub out : Text
  pub files : List Text
  pub torn : Bool
  pub replace : Bool

abbrev pub uniting_view : code.Uniting → Uniting
uniting_view u = record { out = u.out.now; files = map (λ f. f.now) u.files.items; torn = u.torn; replace = u.replace }

-- `book OUT FILE..`
abbrev pub book_begun : App
book_begun = with_rule (with_rule (new_app (codes "book")) (required (codes "OUT"))) (some_words (codes "FILE"))

-- the same with `--torn` and `--replace`
unfoldable pub book_app : App
book_app = with_rule (with_rule book_begun (flag (codes "torn"))) (flag (codes "replace"))

abbrev pub uniting_in : List Row → Option Uniting
uniting_in rows = do
  out ← first_of (codes "OUT") rows
  files ← texts_at (codes "FILE") rows
  Some (record { out = out; files = files; torn = flag_in (codes "torn") rows; replace = flag_in (codes "replace") rows })

unfoldable pub book_faults : List Text → Kinds
book_faults = faults_in book_app uniting_in

unfoldable pub book_by : List Text → Option Uniting
book_by = asked_in book_app uniting_in
