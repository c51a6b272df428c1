-- Where the groups of points in a row stand.
use Rattle.std.specs.Prelude.{◌≡◌, ℕ, ◌+◌, ◌<◌, ◌≤◌, List, length, slice_get, slice_index, Some}
use Rattle.std.specs.List.Sorted.{IsStrictlySortedBy}
use Rattle.transport_core.specs.Groups.{GroupKey, group_cmp}
use Rattle.transport_core.specs.Instance.{max_planned_total}

-- Behind what was there, for each of the first numbers the place among the keys of its group of this name.
pub record AddsPlaces (keys : List GroupKey) (name counts : List ℕ) (many : ℕ) (before after : List ℕ) : Type 0 where
  pub grown : length after ≡ length before + many
  pub kept : (q : ℕ) → q < length before → slice_index after q ≡ slice_index before q
  pub placed : (q : ℕ) → q < many → slice_get keys (slice_index after (length before + q)) ≡ Some (name, slice_index counts q)

-- groups that have one number are of one name
abbrev pub AreFamilies : List GroupKey → List ℕ → Type 0
AreFamilies keys families = (i j : ℕ) (g h : GroupKey) → slice_get keys i ≡ Some g → slice_get keys j ≡ Some h → slice_index families i ≡ slice_index families j → g.0 ≡ h.0

-- groups of which there are few, and which rise, each with its family
pub record HaveFamilies (many : ℕ) (keys : List GroupKey) (families : List ℕ) : Type 0 where
  pub few : many ≤ max_planned_total
  pub rise : IsStrictlySortedBy group_cmp keys
  pub each : length families ≡ many
  pub apart : AreFamilies keys families
