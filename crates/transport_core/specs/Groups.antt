-- Groups: a variant with a number of inputs that occurs at one of its points.
use Rattle.std.specs.Prelude.{◌≡◌, ◌==◌, ◌&&◌, ◌<◌, ◌↔◌, ℕ, Bool, List, [], map, unwrap_or, count_by}
use Rattle.std.specs.Cmp.Lexicographic.{slice_cmp}
use Rattle.std.specs.List.{All, Contains, range_with_len}
use Rattle.std.specs.List.Sorted.{IsStrictlySortedBy}
use Rattle.std.specs.Map.{keys_of, lookup}
use Rattle.std.specs.Ordering.{nat_cmp, ordering_then}
use Rattle.std.specs.Str.{bytes_eq}
use Rattle.std.specs.declared.cmp.Ordering.{Ordering}
use Rattle.bucket_core.specs.Rule.{Entries, total_weight, at}
use Rattle.std.specs.Borrow.{Bor}
use Rattle.transport_core.specs.Dual.{inputs_at}

-- a group: a variant and a number of inputs
abbrev pub GroupKey : Type 0
GroupKey = List ℕ × ℕ

abbrev pub is_same_group : GroupKey → GroupKey → Bool
is_same_group g h = bytes_eq g.0 h.0 && (g.1 == h.1)

-- by the variant as bytes, then by the number
abbrev pub group_cmp : GroupKey → GroupKey → Ordering
group_cmp g h = ordering_then (slice_cmp nat_cmp g.0 h.0) (nat_cmp g.1 h.1)

-- the variant at a point, with the number of inputs there, of which so many fall on each point
abbrev pub group_by : Entries → (ℕ → ℕ) → ℕ → GroupKey
group_by old load p = (unwrap_or (at old p) [], load p)

-- how many points a group has
abbrev pub size_by : Entries → (ℕ → ℕ) → GroupKey → ℕ
size_by old load g = count_by (λ p. is_same_group g (group_by old load p)) (range_with_len 0 (total_weight old))

-- the same of these inputs
abbrev pub group_at : Entries → List (List ℕ) → ℕ → GroupKey
group_at old inputs p = group_by old (inputs_at (total_weight old) inputs) p

abbrev pub size_of : Entries → List (List ℕ) → GroupKey → ℕ
size_of old inputs g = size_by old (inputs_at (total_weight old) inputs) g

-- exactly the groups, in order
pub record AreGroups (old : Entries) (inputs : List (List ℕ)) (groups : List GroupKey) : Type 0 where
  pub rise : IsStrictlySortedBy group_cmp groups
  pub occur : (g : GroupKey) → Contains groups g ↔ (0 < size_of old inputs g)

-- exactly the groups, in order, each with its number of points
pub record AreSizesBy (old : Entries) (load : ℕ → ℕ) (groups : List (GroupKey × ℕ)) : Type 0 where
  pub rise : IsStrictlySortedBy group_cmp (keys_of groups)
  pub sizes : (g : GroupKey) → unwrap_or (lookup (is_same_group g) groups) 0 ≡ size_by old load g
  pub some : All (λ e. 0 < e.1) groups

-- the same of these inputs
abbrev pub AreSizes : Entries → List (List ℕ) → List (GroupKey × ℕ) → Type 0
AreSizes old inputs groups = AreSizesBy old (inputs_at (total_weight old) inputs) groups

-- groups with their points, of the program, without where the names lie in memory
abbrev pub row_view : (Bor (List ℕ) × ℕ) × ℕ → GroupKey × ℕ
row_view r = ((r.0.0.now, r.0.1), r.1)

abbrev pub rows_view : List ((Bor (List ℕ) × ℕ) × ℕ) → List (GroupKey × ℕ)
rows_view rows = map row_view rows
