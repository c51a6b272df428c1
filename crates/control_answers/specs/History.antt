-- What was applied: a line of JSON for each plan, in the order of time.
use Rattle.std.specs.Prelude.{◌≡◌, ℕ, Bool, true, false, List, [], ◌∷◌, ◌++◌, codes, decimal, filter, is_ok}
use Rattle.bucket_core.specs.Rule.{Entries, entries_view}
use Rattle.flag_text.specs.Reading.{tree_of}
use Rattle.control_flags.specs.Joined.{quoted}
use Rattle.control_flags.specs.Sites.{rule_text}
use Rattle.note_streams.specs.LogLines.{lines_in}
use Rattle.control_answers.specs.Body.{comma_if}
use Rattle.control_answers.specs.declared.history.AppliedRow as program

pub record AppliedRow : Type 0 where
  pub time : List ℕ
  pub who : List ℕ
  pub flag : List ℕ
  pub site : ℕ
  pub old : Entries
  pub new : Entries
  pub cost : ℕ
  pub inputs : ℕ

abbrev pub cost_text : AppliedRow → List ℕ
cost_text r = codes "{\"cost\":" ++ (decimal r.cost ++ (codes ",\"flag\":" ++ (quoted r.flag ++ (codes ",\"inputs\":" ++ decimal r.inputs))))

abbrev pub rules_text : AppliedRow → List ℕ
rules_text r = codes ",\"new\":" ++ (rule_text r.new ++ (codes ",\"old\":" ++ (rule_text r.old ++ (codes ",\"site\":" ++ decimal r.site))))

abbrev pub who_text : AppliedRow → List ℕ
who_text r = codes ",\"time\":" ++ (quoted r.time ++ (codes ",\"who\":" ++ (quoted r.who ++ codes "}\n")))

-- what it costs, the rules, and when and by whom it was applied
abbrev pub row_text : AppliedRow → List ℕ
row_text r = cost_text r ++ (rules_text r ++ who_text r)

-- ---- as it is told

abbrev pub most_row : ℕ
most_row = 4194304

abbrev pub is_row : List ℕ → Bool
is_row line = is_ok (tree_of line most_row)

abbrev pub has_some : List (List ℕ) → Bool
has_some [] = false
has_some (row ∷ rows) = true

-- from the last to the first, with commas between
abbrev pub newest_first : List (List ℕ) → List ℕ
newest_first [] = []
newest_first (row ∷ rows) = newest_first rows ++ (comma_if (has_some rows) ++ row)

abbrev pub rows_from : List (List ℕ) → List ℕ
rows_from rows = codes "[" ++ (newest_first rows ++ codes "]\n")

-- the list of the lines that are JSON, the newest first
abbrev pub IsHistory : List ℕ → List ℕ → Type 0
IsHistory history text = text ≡ rows_from (filter is_row (lines_in history))

-- ---- of the program

abbrev pub row_view : program.AppliedRow → AppliedRow
row_view r = record {
  time = r.time.now;
  who = r.who.now;
  flag = r.flag.now;
  site = r.site;
  old = entries_view r.old.now;
  new = entries_view r.new.now;
  cost = r.cost;
  inputs = r.inputs;
}
