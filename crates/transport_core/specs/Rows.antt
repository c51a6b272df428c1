-- Rows of a key and an amount, where a key may stand more than once.
use Rattle.std.specs.Prelude.{◌≡◌, ℕ, ◌+◌, ◌<◌, ◌≤◌, Bool, List, [], ◌∷◌, length, map, sum_by, count_by, unwrap_or, if◌then◌else◌}
use Rattle.std.specs.Borrow.{Bor}
use Rattle.std.specs.Cmp.Lexicographic.{slice_cmp}
use Rattle.std.specs.List.{All, range_with_len}
use Rattle.std.specs.List.Sorted.{IsStrictlySortedBy}
use Rattle.std.specs.Map.{keys_of, lookup}
use Rattle.std.specs.Ordering.{nat_cmp}
use Rattle.std.specs.Str.{bytes_eq}
use Rattle.bucket_core.specs.Rule.{Entries, points, at}
use Rattle.price_core.specs.Limits.{Limits, low_of, high_of}
use Rattle.transport_core.specs.Groups.{GroupKey, is_same_group}

-- all that the rows have of a key
abbrev pub amount_of : {K : Type 0} → (K → K → Bool) → List (K × ℕ) → K → ℕ
amount_of same rows key = sum_by (λ r. if same key r.0 then r.1 else 0) rows

abbrev pub whole_amount : {K : Type 0} → List (K × ℕ) → ℕ
whole_amount rows = sum_by (λ r. r.1) rows

-- neighbours of one key are joined, and their amounts summed
abbrev pub joined_from : {K : Type 0} → (K → K → Bool) → K × ℕ → List (K × ℕ) → List (K × ℕ)
joined_from same row [] = row ∷ []
joined_from same row (next ∷ rows) = if same row.0 next.0 then joined_from same (row.0, row.1 + next.1) rows else row ∷ joined_from same next rows

abbrev pub joined : {K : Type 0} → (K → K → Bool) → List (K × ℕ) → List (K × ℕ)
joined same [] = []
joined same (row ∷ rows) = joined_from same row rows

-- the rows have points of this name more, on each of which so many inputs fall
pub record AddsCounts (name : List ℕ) (counts : List ℕ) (old new : List (GroupKey × ℕ)) : Type 0 where
  pub amounts : (g : GroupKey) → amount_of is_same_group new g ≡ amount_of is_same_group old g + count_by (λ count. is_same_group g (name, count)) counts
  pub whole : whole_amount new ≡ whole_amount old + length counts
  pub some : All (λ r. 0 < r.1) old → All (λ r. 0 < r.1) new

-- the rows are the points of the rule, each with the number of inputs that its load says
pub record CoversPoints (rule : Entries) (load : ℕ → ℕ) (upto : ℕ) (rows : List (GroupKey × ℕ)) : Type 0 where
  pub amounts : (g : GroupKey) → amount_of is_same_group rows g ≡ count_by (λ p. is_same_group g (unwrap_or (at rule p) [], load p)) (range_with_len 0 upto)
  pub whole : whole_amount rows ≡ upto
  pub some : All (λ r. 0 < r.1) rows

-- the totals of a rule's names, by name: the points whose name passes a test are those of the names that do
pub record AreTotals (rule : Entries) (totals : List (List ℕ × ℕ)) : Type 0 where
  pub rise : IsStrictlySortedBy (slice_cmp nat_cmp) (keys_of totals)
  pub counts : (test : List ℕ → Bool) → sum_by (λ r. if test r.0 then r.1 else 0) totals ≡ count_by test (points rule)

-- the total that is listed of a name, and 0 of one that is not
abbrev pub total_in : List (List ℕ × ℕ) → List ℕ → ℕ
total_in totals name = unwrap_or (lookup (bytes_eq name) totals) 0

-- totals of the program, without where the names lie in memory
abbrev pub totals_view : List (Bor (List ℕ) × ℕ) → List (List ℕ × ℕ)
totals_view totals = map (λ r. (r.0.now, r.1)) totals

-- totals by name, each at most its high limit, or not; each at least its low one, or not
abbrev pub KeepHigh : List (List ℕ × ℕ) → Limits → Type 0
KeepHigh totals limits = (name : List ℕ) → total_in totals name ≤ high_of limits name

abbrev pub BreakHigh : List (List ℕ × ℕ) → Limits → Type 0
BreakHigh totals limits = (name : List ℕ) × (high_of limits name < total_in totals name)

abbrev pub KeepLow : List (List ℕ × ℕ) → Limits → Type 0
KeepLow totals limits = (name : List ℕ) → low_of limits name ≤ total_in totals name

abbrev pub BreakLow : List (List ℕ × ℕ) → Limits → Type 0
BreakLow totals limits = (name : List ℕ) × (total_in totals name < low_of limits name)
