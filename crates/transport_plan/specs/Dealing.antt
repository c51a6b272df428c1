-- Numbers by groups and names, and how they are dealt out to the points of the groups.
use Rattle.std.specs.Prelude.{◌≡◌, ℕ, ◌+◌, ◌-◌, ◌*◌, ◌<◌, ◌≤◌, ◌==◌, List, ◌++◌, length, take, drop, count_by, sum, sum_by, slice_index, set}
use Rattle.std.specs.List.{All, zip}
use Rattle.transport_plan.specs.declared.stretches.Stretch.{Stretch}

-- the numbers of a group, of which each name has one
abbrev pub row : ℕ → List ℕ → ℕ → List ℕ
row width numbers group = take width (drop (group * width) numbers)

-- A tally of the numbers: 0 where nothing is left, and what counts at a group and a name less with each that is dealt there.
pub record IsTally (groups width : ℕ) (tally : List ℕ → ℕ) (counts : ℕ → ℕ → ℕ) : Type 0 where
  pub none : (numbers : List ℕ) → sum numbers ≡ 0 → tally numbers ≡ 0
  pub dealt : (numbers : List ℕ) (group name : ℕ) → length numbers ≡ groups * width → group < groups → name < width → 0 < slice_index numbers (group * width + name)
      → tally numbers ≡ tally (set numbers (group * width + name) (slice_index numbers (group * width + name) - 1)) + counts group name

-- Of each group's points each name is given to as many as its number says: each tally of the numbers is the sum of what counts at the points.
abbrev pub IsDealt : ℕ → ℕ → List ℕ → List ℕ → List ℕ → Type 0
IsDealt groups width numbers points items = (tally : List ℕ → ℕ) (counts : ℕ → ℕ → ℕ) → IsTally groups width tally counts → tally numbers ≡ sum_by (λ e. counts e.0 e.1) (zip points items)

-- as many numbers as groups and names, and those of each group sum to its points
pub record MayDeal (groups width : ℕ) (numbers points : List ℕ) : Type 0 where
  pub shape : length numbers ≡ groups * width
  pub within : All (λ g. g < groups) points
  pub rows : (g : ℕ) → g < groups → sum (row width numbers g) ≡ count_by (λ p. p == g) points
  pub whole : sum numbers ≡ length points

-- each point is given a name, by the numbers of its group
pub record AreDealt (groups width : ℕ) (numbers points items : List ℕ) : Type 0 where
  pub many : length items ≡ length points
  pub named : All (λ i. i < width) items
  pub dealt : IsDealt groups width numbers points items

-- as many numbers as groups and names, and a name for each group that its points are expected to be given
pub record HaveBases (width : ℕ) (numbers bases points : List ℕ) : Type 0 where
  pub shape : length numbers ≡ length bases * width
  pub within : All (λ g. g < length bases) points
  pub named : All (λ w. w < width) bases

-- the points of the stretch stand in the list from one on, and its group has as many names left
pub record HasStretch (width start : ℕ) (stretch : Stretch) (left points : List ℕ) : Type 0 where
  pub inside : start + stretch.points ≤ length points
  pub room : stretch.group * width + width ≤ length left
  pub base : stretch.base < width
  pub before : stretch.before < width
  pub after : stretch.after < width
  pub enough : stretch.points ≤ sum (row width left stretch.group)

-- two of the names, of which there are few
pub record AreNames (width base name : ℕ) : Type 0 where
  pub few : width ≤ 64
  pub base_in : base < width
  pub name_in : name < width

-- From the numbers the points of a group from one to another are dealt names, which stand in their places then.
pub record DealsTo (width group from to : ℕ) (numbers left before after : List ℕ) : Type 0 where
  pub dealt : List ℕ
  pub front : take to after ≡ take from before ++ dealt
  pub back : drop to after ≡ drop to before
  pub long : length after ≡ length before
  pub many : from + length dealt ≡ to
  pub named : All (λ w. w < width) dealt
  pub shape : length left ≡ length numbers
  pub spent : sum (row width left group) + length dealt ≡ sum (row width numbers group)
  pub tallies : (groups : ℕ) (tally : List ℕ → ℕ) (counts : ℕ → ℕ → ℕ) → IsTally groups width tally counts → length numbers ≡ groups * width → group < groups → tally numbers ≡ tally left + sum_by (counts group) dealt
