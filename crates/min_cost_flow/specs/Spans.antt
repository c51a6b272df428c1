-- Spans of the groups of an old variant among which are all that have points at a name.
use Rattle.std.specs.Prelude.{◌≡◌, ℕ, ◌<◌, ◌≤◌, ◌+◌, ◌-◌, ◌*◌, ℤ, true, List, length, Option, slice_index, slice_index_or}
use Rattle.min_cost_flow.specs.Problem.{group_at, may_take}
use Rattle.min_cost_flow.specs.declared.problem.Group.{Group}
use Rattle.min_cost_flow.specs.declared.span.Span.{Span}

abbrev pub no_span : Span
no_span = record { first = 0; end = 0 }

-- the span of an old variant at a name, where they stand by name and then by old variant
abbrev pub span_at : List Span → ℕ → ℕ → ℕ → Span
span_at spans names v a = slice_index_or spans (v * names + a) no_span

-- the span has the group
pub record IsIn (span : Span) (g : ℕ) : Type 0 where
  pub from : span.first ≤ g
  pub before : g < span.end

-- the group is of the old variant and has points at the name, where they stand by group and then by name
pub record IsThere (groups : List Group) (placed : List ℕ) (names v a g : ℕ) : Type 0 where
  pub variant : (group_at groups g).variant ≡ a
  pub points : 0 < slice_index placed (g * names + v)

-- the part of a span has all its groups of the old variant with points at the name, and begins and ends with one, if it has any
pub record Narrows (groups : List Group) (placed : List ℕ) (names v a : ℕ) (span part : Span) : Type 0 where
  pub end : part.end ≤ length groups
  pub keeps : (g : ℕ) → IsIn span g → IsThere groups placed names v a g → IsIn part g
  pub first : part.first < part.end → IsThere groups placed names v a part.first
  pub last : part.first < part.end → IsThere groups placed names v a (part.end - 1)

-- the first and the last group of a span, if it has any, may take the name
pub record HasEnds (groups : List Group) (costs : List (Option ℤ)) (names v : ℕ) (span : Span) : Type 0 where
  pub end : span.end ≤ length groups
  pub first : span.first < span.end → may_take groups costs names span.first v ≡ true
  pub last : span.first < span.end → may_take groups costs names (span.end - 1) v ≡ true

-- each group with points at a name is in the span of its old variant there
pub record AreSpans (groups : List Group) (names : ℕ) (placed : List ℕ) (spans : List Span) : Type 0 where
  pub size : length spans ≡ names * names
  pub end : (v a : ℕ) → v < names → a < names → (span_at spans names v a).end ≤ length groups
  pub has : (g v : ℕ) → g < length groups → v < names → 0 < slice_index placed (g * names + v) → IsIn (span_at spans names v (group_at groups g).variant) g

-- no group is in a span
pub record HasNoSpans (names : ℕ) (spans : List Span) : Type 0 where
  pub size : length spans ≡ names * names
  pub none : (i : ℕ) → (slice_index_or spans i no_span).end ≡ 0

-- no group has points at the name that may not be there, and each with points at a name is in the span of its old variant there
pub record ArePlaced (groups : List Group) (costs : List (Option ℤ)) (names : ℕ) (placed : List ℕ) (group_spans : List Span) (v : ℕ) : Type 0 where
  pub size : length placed ≡ length groups * names
  pub free : (g : ℕ) → g < length groups → 0 < slice_index placed (g * names + v) → may_take groups costs names g v ≡ true
  pub spans : AreSpans groups names placed group_spans

-- the group is in the span of its old variant at the name, and no span loses a group
pub record Joins (groups : List Group) (names g v : ℕ) (old new : List Span) : Type 0 where
  pub size : length new ≡ length old
  pub joins : IsIn (span_at new names v (group_at groups g).variant) g
  pub keeps : (w a h : ℕ) → w < names → a < names → IsIn (span_at old names w a) h → IsIn (span_at new names w a) h
  pub end : (w a : ℕ) → w < names → a < names → (span_at old names w a).end ≤ length groups → (span_at new names w a).end ≤ length groups
