-- The way to a site in a targeting's written form, where arguments stand always in a list.
use Rattle.std.specs.Prelude.{ℕ, zero, suc, List, [], ◌∷◌, if◌then◌else◌}
use Rattle.flag_text.specs.Shape.{Shape, list, object, Items, no_items, item, Members, no_members, member}
use Rattle.logic_ast.specs.Operator.{is_fractional}
use Rattle.text_spans.specs.Path.{Step, name, index}

-- The site comes so many sites later; or it is here, on this way to its arguments, of which so many stand before its buckets.
pub data Sought : Type 0 where
  later : ℕ → Sought
  here : List Step → ℕ → Sought

-- behind one more step
abbrev pub under : Step → Sought → Sought
under s (later n) = later n
under s (here path front) = here (s ∷ path) front

abbrev pub or_next : Sought → (ℕ → Sought) → Sought
or_next (later n) next = next n
or_next (here path front) next = here path front

-- the first argument is the bucketing expression, unless it is a list (flagd's page on the fractional operation)
abbrev pub buckets_from : Items → ℕ
buckets_from no_items = 0
buckets_from (item (list ps) ts) = 0
buckets_from (item t ts) = 1

-- site n of a `fractional`: it is site 0 itself, and then come those in its arguments
abbrev pub of_site : ℕ → Items → (ℕ → Sought) → Sought
of_site zero ts inside = here [] (buckets_from ts)
of_site (suc n) ts inside = inside n

-- site n of an operation on these arguments
abbrev pub of_operation : ℕ → List ℕ → Items → (ℕ → Sought) → Sought
of_operation n k ts inside = under (name k) (if is_fractional k then of_site n ts inside else inside n)

-- Site n of an expression, from 0, in preorder: a site comes before those in its arguments.
abbrev mutual
  pub find_site : ℕ → Shape → Sought
  find_site n (list ts) = find_in_items 0 n ts
  find_site n (object ms) = find_in_members n ms
  find_site n t = later n

  -- an object of one member is an operation
  pub find_in_members : ℕ → Members → Sought
  find_in_members n (member k t no_members) = find_in_member n k t
  find_in_members n ms = later n

  pub find_in_member : ℕ → List ℕ → Shape → Sought
  find_in_member n k (list ts) = of_operation n k ts (λ m. find_in_items 0 m ts)
  find_in_member n k t = later n

  -- the items from this index on
  pub find_in_items : ℕ → ℕ → Items → Sought
  find_in_items i n no_items = later n
  find_in_items i n (item t ts) = or_next (under (index i) (find_site n t)) (λ m. find_in_items (suc i) m ts)
