-- Trees in which objects stand for numbers, and how deep they nest.
use Rattle.std.specs.Prelude.{ℕ, suc, max, Bool, true, false, if◌then◌else◌}
use Rattle.flag_text.specs.Shape.{Shape, null, boolean, whole, other, text, list, object, Items, no_items, item, Members, no_members, member}

abbrev pub is_other : Shape → Bool
is_other other = true
is_other t = false

-- the members are those of an object that stands for a number
abbrev pub stand_for_number : Members → Bool
stand_for_number (member name t no_members) = is_other t
stand_for_number ms = false

abbrev pub stands_for_number : Shape → Bool
stands_for_number (object ms) = stand_for_number ms
stands_for_number t = false

-- a number that is not whole without its spelling, any other value as it is
abbrev pub without_spelling : Shape → Shape
without_spelling t = if stands_for_number t then other else t

-- How deep lists and objects nest, but for the objects that stand for numbers: `[0.5]` has 1 level.
abbrev mutual
  pub sent_levels : Shape → ℕ
  sent_levels null = 0
  sent_levels (boolean b) = 0
  sent_levels (whole n) = 0
  sent_levels other = 0
  sent_levels (text s) = 0
  sent_levels (list ts) = suc (sent_items_levels ts)
  sent_levels (object ms) = if stand_for_number ms then 0 else suc (sent_members_levels ms)

  pub sent_items_levels : Items → ℕ
  sent_items_levels no_items = 0
  sent_items_levels (item t ts) = max (sent_levels t) (sent_items_levels ts)

  pub sent_members_levels : Members → ℕ
  sent_members_levels no_members = 0
  sent_members_levels (member k t ms) = max (sent_levels t) (sent_members_levels ms)
