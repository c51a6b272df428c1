-- What was read of the bytes of a book file, in private contracts alone.
use Rattle.std.specs.Prelude.{◌≡◌, ◌+◌, ◌≤◌, ℕ, List, length}
use Rattle.book_core.specs.Reading.{leading, lines_of, pages_in}
use Rattle.bucket_core.specs.Rule.{Entries}
use Rattle.rule_switches.specs.Found.{users_in}
use Rattle.rule_switches.specs.declared.page_counting.Counted as program
use Rattle.rule_switches.specs.Counting.{Counted, HasCounted}
use Rattle.rule_switches.specs.Switches.{rows_view}

-- the inputs that stand first were counted, and the bytes behind them have the pages
pub record Reads (one other : Entries) (bytes rest : List ℕ) (s : Counted) : Type 0 where
  pub before : s.before ≡ one
  pub after : s.after ≡ other
  pub counted : HasCounted s (leading (lines_of bytes))
  pub pages : pages_in (lines_of rest) ≡ pages_in (lines_of bytes)
  pub room : s.inputs + length rest ≤ length bytes

-- the numbers are those of the inputs that stand first and of the rows
pub record IsCounted (bytes : List ℕ) (c : program.Counted) : Type 0 where
  pub inputs : c.inputs ≡ length (leading (lines_of bytes))
  pub users : c.users ≡ users_in (rows_view c.rows.items)
  pub few : c.users ≤ c.inputs
  pub pages : pages_in (lines_of c.rest.now) ≡ pages_in (lines_of bytes)
  pub room : c.inputs + length c.rest.now ≤ length bytes
