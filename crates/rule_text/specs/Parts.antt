-- What a value is to a rule, and how far it is from a tree of whole numbers (in private contracts alone).
use denote.Ref.{Bor}
use Rattle.std.specs.Prelude.{ℕ, ◌+◌, ◌-◌, Bool, false, ◌||◌, nat_lt, List, [], ◌∷◌, map, Option, Some, None, option_map}
use Rattle.serde_json.specs.Data.{Num}
use Rattle.flag_text.specs.Readers.{as_text}
use Rattle.flag_text.specs.Reading.{number_shape}
use Rattle.flag_text.specs.Shape.{Shape, list, Items, no_items, item, Members, no_members, member, levels, items_levels, has_other, items_have_other}
use Rattle.bucket_core.specs.Reading.{weight_of, bucket_of}
use Rattle.rule_text.specs.declared.part.Extent.{Extent}
use Rattle.rule_text.specs.declared.part.Part.{Part}

-- the weight that a number is, and whether it is not whole
abbrev pub weighed : Num → Option ℕ × Bool
weighed n = (weight_of (number_shape n), has_other (number_shape n))

-- a name, a weight, a literal bucket, and an extent
abbrev pub Seen : Type 0
Seen = Option (List ℕ) × Option ℕ × Option (List ℕ × ℕ) × Extent

-- how far values that nest so deep are from a tree of whole numbers: a JSON text may nest 7 levels deeper
abbrev pub extent_at : ℕ → ℕ → Bool → Extent
extent_at depth levels other = record { deep = nat_lt (depth - 7) levels; other = other }

-- what a value is
abbrev pub part_of : ℕ → Shape → Seen
part_of depth t = (as_text t, weight_of t, bucket_of t, extent_at depth (levels t) (has_other t))

-- what was read of it
abbrev pub part_view : Part → Seen
part_view p = (option_map (λ s. s.now) p.name, p.weight, option_map (λ b. (b.0.now, b.1)) p.bucket, p.extent)

-- the same where a name, a weight or a bucket is looked for alone
abbrev pub name_of : ℕ → Shape → Option (List ℕ) × Extent
name_of depth t = (as_text t, extent_at depth (levels t) (has_other t))

abbrev pub weight_in : ℕ → Shape → Option ℕ × Extent
weight_in depth t = (weight_of t, extent_at depth (levels t) (has_other t))

abbrev pub item_of : ℕ → Shape → Option (List ℕ × ℕ) × Extent
item_of depth t = (bucket_of t, extent_at depth (levels t) (has_other t))

-- what was read where one is looked for alone
abbrev pub name_view : Option (Bor (List ℕ)) × Extent → Option (List ℕ) × Extent
name_view p = (option_map (λ s. s.now) p.0, p.1)

abbrev pub item_view : Option (Bor (List ℕ) × ℕ) × Extent → Option (List ℕ × ℕ) × Extent
item_view p = (option_map (λ b. (b.0.now, b.1)) p.0, p.1)

-- what was read of a list, which is no text and no number
abbrev pub list_view : Option (Bor (List ℕ) × ℕ) × Extent → Seen
list_view p = (None, None, option_map (λ b. (b.0.now, b.1)) p.0, p.1)

-- the weight of a bucket, by what stands behind its name
abbrev pub weight_behind : Items → Option ℕ
weight_behind no_items = Some 1
weight_behind (item t no_items) = weight_of t
weight_behind (item t (item u ts)) = None

-- items behind the first of a list
abbrev pub rest_of : ℕ → Items → Option ℕ × Extent
rest_of depth ts = (weight_behind ts, extent_at depth (items_levels ts) (items_have_other ts))

-- a list of items
abbrev pub list_of : ℕ → Items → Seen
list_of depth ts = part_of (1 + depth) (list ts)

-- the extent of both
abbrev pub both : Extent → Extent → Extent
both a b = record { deep = a.deep || b.deep; other = a.other || b.other }

-- the extent of each member, by its name
abbrev pub extents_of : ℕ → Members → List (List ℕ × Extent)
extents_of depth no_members = []
extents_of depth (member k t ms) = (k, extent_at depth (levels t) (has_other t)) ∷ extents_of depth ms

-- the extents that were read
abbrev pub extents_view : List (Bor (List ℕ) × Extent) → List (List ℕ × Extent)
extents_view es = map (λ e. (e.0.now, e.1)) es

-- the extent of all
abbrev pub all_extents : List (List ℕ × Extent) → Extent
all_extents [] = record { deep = false; other = false }
all_extents (e ∷ es) = both e.1 (all_extents es)
