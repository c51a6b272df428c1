-- What a `Tree` is, apart from where its texts and lists lie in memory.
use Rattle.std.specs.Prelude.{ℕ, suc, max, ◌^◌, ℤ, pos, negsuc, Bool, true, false, ◌&&◌, ◌||◌, nat_lt, List}
use Rattle.std.specs.Ordering.{nat_cmp, match_ordering}
use Rattle.std.specs.Cmp.Lexicographic.{slice_cmp}

mutual
  pub data Shape : Type 0 where
    null : Shape
    boolean : Bool → Shape
    whole : ℤ → Shape
    other : Shape
    text : List ℕ → Shape
    list : Items → Shape
    object : Members → Shape

  pub data Items : Type 0 where
    no_items : Items
    item : Shape → Items → Items

  pub data Members : Type 0 where
    no_members : Members
    member : List ℕ → Shape → Members → Members

-- from -(2^53-1) to 2^53-1
abbrev pub is_in_range : ℤ → Bool
is_in_range (pos n) = nat_lt n (2 ^ 53)
is_in_range (negsuc n) = nat_lt (suc n) (2 ^ 53)

-- How deep lists and objects nest: `1` has 0 levels, `[]` has 1, `[[]]` has 2.
abbrev mutual
  pub levels : Shape → ℕ
  levels null = 0
  levels (boolean b) = 0
  levels (whole n) = 0
  levels other = 0
  levels (text s) = 0
  levels (list ts) = suc (items_levels ts)
  levels (object ms) = suc (members_levels ms)

  pub items_levels : Items → ℕ
  items_levels no_items = 0
  items_levels (item t ts) = max (levels t) (items_levels ts)

  pub members_levels : Members → ℕ
  members_levels no_members = 0
  members_levels (member k t ms) = max (levels t) (members_levels ms)

-- Somewhere stands a number that is not whole.
abbrev mutual
  pub has_other : Shape → Bool
  has_other null = false
  has_other (boolean b) = false
  has_other (whole n) = false
  has_other other = true
  has_other (text s) = false
  has_other (list ts) = items_have_other ts
  has_other (object ms) = members_have_other ms

  pub items_have_other : Items → Bool
  items_have_other no_items = false
  items_have_other (item t ts) = has_other t || items_have_other ts

  pub members_have_other : Members → Bool
  members_have_other no_members = false
  members_have_other (member k t ms) = has_other t || members_have_other ms

-- the name comes before the first of these
abbrev pub comes_first : List ℕ → Members → Bool
comes_first k no_members = true
comes_first k (member l t ms) = match_ordering (slice_cmp nat_cmp k l) true false false

-- the names rise strictly, so they are sorted and distinct
abbrev pub names_rise : Members → Bool
names_rise no_members = true
names_rise (member k t ms) = comes_first k ms && names_rise ms

-- Each number is whole and in range, and the names of each object rise strictly.
abbrev mutual
  pub is_whole : Shape → Bool
  is_whole null = true
  is_whole (boolean b) = true
  is_whole (whole n) = is_in_range n
  is_whole other = false
  is_whole (text s) = true
  is_whole (list ts) = items_are_whole ts
  is_whole (object ms) = members_are_whole ms

  pub items_are_whole : Items → Bool
  items_are_whole no_items = true
  items_are_whole (item t ts) = is_whole t && items_are_whole ts

  pub members_are_whole : Members → Bool
  members_are_whole no_members = true
  members_are_whole (member k t ms) = comes_first k ms && (is_whole t && members_are_whole ms)

-- The same, but a number may be `other`: so is each part of a document that was read.
abbrev mutual
  pub is_tidy : Shape → Bool
  is_tidy null = true
  is_tidy (boolean b) = true
  is_tidy (whole n) = is_in_range n
  is_tidy other = true
  is_tidy (text s) = true
  is_tidy (list ts) = items_are_tidy ts
  is_tidy (object ms) = members_are_tidy ms

  pub items_are_tidy : Items → Bool
  items_are_tidy no_items = true
  items_are_tidy (item t ts) = is_tidy t && items_are_tidy ts

  pub members_are_tidy : Members → Bool
  members_are_tidy no_members = true
  members_are_tidy (member k t ms) = comes_first k ms && (is_tidy t && members_are_tidy ms)
