-- What a change of variant costs, and which changes are forbidden.
use Rattle.std.specs.Prelude.{ℕ, ◌≤◌, Bool, not, ◌&&◌, List, map, if◌then◌else◌, unwrap_or, string_bytes}
use Rattle.std.specs.Cmp.Lexicographic.{slice_cmp}
use Rattle.std.specs.List.{All, list_any}
use Rattle.std.specs.List.Sorted.{IsStrictlySortedBy}
use Rattle.std.specs.Map.{keys_of, lookup}
use Rattle.std.specs.Ordering.{nat_cmp, ordering_then}
use Rattle.std.specs.declared.cmp.Ordering.{Ordering}
use Rattle.std.specs.Str.{bytes_eq}
use Rattle.limits.specs.Limits.{largest_price}
use denote.Ref.{Bor}
use Rattle.price_core.specs.declared.change.Change.{Change}

-- a change: the name that a key had, and the name that it is given
abbrev pub Pair : Type 0
Pair = List ℕ × List ℕ

-- whether both names of one change are those of the other
abbrev pub is_same_pair : Pair → Pair → Bool
is_same_pair p q = bytes_eq p.0 q.0 && bytes_eq p.1 q.1

-- by the old name, then by the new one, each as bytes
abbrev pub pair_cmp : Pair → Pair → Ordering
pair_cmp p q = ordering_then (slice_cmp nat_cmp p.0 q.0) (slice_cmp nat_cmp p.1 q.1)

-- the price of each change that has one of its own, the usual price of all others, and the forbidden changes
pub record Pricing : Type 0 where
  pub usual : ℕ
  pub named : List (Pair × ℕ)
  pub barred : List Pair

-- Keeping one's name is free.
abbrev pub price_of : Pricing → List ℕ → List ℕ → ℕ
price_of p a b = if bytes_eq a b then 0 else unwrap_or (lookup (is_same_pair (a, b)) p.named) p.usual

-- Keeping one's name is never forbidden.
abbrev pub is_forbidden : Pricing → List ℕ → List ℕ → Bool
is_forbidden p a b = not (bytes_eq a b) && list_any (is_same_pair (a, b)) p.barred

-- the greatest price
abbrev pub max_price : ℕ
max_price = largest_price

-- No price is above a million, and each list has each change once, in order.
pub record IsPricing (p : Pricing) : Type 0 where
  pub usual_fits : p.usual ≤ max_price
  pub named_fit : All (λ e. e.1 ≤ max_price) p.named
  pub named_rise : IsStrictlySortedBy pair_cmp (keys_of p.named)
  pub barred_rise : IsStrictlySortedBy pair_cmp p.barred

-- a change of the program, without where its names lie in memory
abbrev pub change_view : Change → Pair
change_view c = (string_bytes c.from, string_bytes c.to)

-- a change with what is said of it
abbrev pub entry_view : {X : Type 0} → Change × X → Pair × X
entry_view e = (change_view e.0, e.1)

-- the same of a list of changes
abbrev pub entries_view : {X : Type 0} → List (Change × X) → List (Pair × X)
entries_view es = map entry_view es

-- a change whose names lie elsewhere, without where they lie
abbrev pub lent_pair : Bor (List ℕ) × Bor (List ℕ) → Pair
lent_pair p = (p.0.now, p.1.now)

-- such a change with what is said of it
abbrev pub lent_entry : {X : Type 0} → (Bor (List ℕ) × Bor (List ℕ)) × X → Pair × X
lent_entry e = (lent_pair e.0, e.1)
