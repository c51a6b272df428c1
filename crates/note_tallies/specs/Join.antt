-- The tally of the lines of two tallies, of which the second one's come after the first one's.
use Rattle.std.specs.Prelude.{◌≡◌, ℕ, ◌+◌, ◌<◌, ◌≤◌, ◌⊎◌, List, length, get_or, Bool, true, false, ◌&&◌, ◌==◌, Option, Some, None, Result, Ok, Err}
use Rattle.std.specs.Bool.{beq}
use Rattle.std.specs.Option.{option_or}
use Rattle.std.specs.Ordering.{is_lt}
use Rattle.book_core.specs.Page.{bytes_cmp, page_eq}
use Rattle.book_core.specs.Hashed.{has_hash}
use Rattle.note_tallies.specs.Tally.{PageTally, most_at_point, most_in_all}
use Rattle.note_tallies.specs.declared.joining.JoinFault.{JoinFault}
use Rattle.note_tallies.specs.declared.joining.JoinFault.TheVariants.{Page, Order, TooMany}

-- the lines have inputs in both, or hashes in both, where both have lines
abbrev pub are_of_one_kind : Option (List ℕ) → Option (List ℕ) → Bool
are_of_one_kind None first = true
are_of_one_kind (Some last) None = true
are_of_one_kind (Some last) (Some first) = beq (has_hash last) (has_hash first)

-- they are of one page and total, and their lines are of one kind
abbrev pub are_alike : PageTally → PageTally → Bool
are_alike one other = (page_eq one.page other.page && (one.total == other.total)) && are_of_one_kind one.last other.first

-- the last line of one is below the first of the other, where both have lines
abbrev pub follows : Option (List ℕ) → Option (List ℕ) → Bool
follows None first = true
follows (Some last) None = true
follows (Some last) (Some first) = is_lt (bytes_cmp last first)

-- one is the sum of two at each point
pub record IsSum (old more now : List ℕ) : Type 0 where
  pub whole : length now ≡ length old
  pub each : (p : ℕ) → get_or now p 0 ≡ get_or old p 0 + get_or more p 0

-- the range goes from the first line of both to the last, the inputs are those of both, and there are not too many
pub record IsJoined (one other both : PageTally) : Type 0 where
  pub page : both.page ≡ one.page
  pub total : both.total ≡ one.total
  pub first : both.first ≡ option_or one.first other.first
  pub last : both.last ≡ option_or other.last one.last
  pub inputs : both.inputs ≡ one.inputs + other.inputs
  pub counts : IsSum one.counts other.counts both.counts
  pub few : both.inputs ≤ most_in_all
  pub small : (p : ℕ) → get_or one.counts p 0 + get_or other.counts p 0 ≤ most_at_point

-- on some point are too many
abbrev pub IsCrowded : List ℕ → List ℕ → Type 0
IsCrowded old more = (p : ℕ) × (most_at_point < get_or old p 0 + get_or more p 0)

-- refused in this order: Page, Order, TooMany
abbrev pub Joins : PageTally → PageTally → Result PageTally JoinFault → Type 0
Joins one other (Ok both) = (are_alike one other ≡ true) × (follows one.last other.first ≡ true) × IsJoined one other both
Joins one other (Err Page) = are_alike one other ≡ false
Joins one other (Err Order) = (are_alike one other ≡ true) × (follows one.last other.first ≡ false)
Joins one other (Err TooMany) = (are_alike one other ≡ true) × (follows one.last other.first ≡ true) × ((most_in_all < one.inputs + other.inputs) ⊎ IsCrowded one.counts other.counts)
