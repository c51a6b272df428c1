-- References to shared evaluators, and what a targeting is with its references replaced (flagd: `$evaluators`, `$ref`).
use Rattle.std.specs.Prelude.{◌≡◌, ℕ, zero, suc, List, codes, Bool, false, ◌||◌, is_some, Option, Some, None, option_map, option_and_then, if◌then◌else◌}
use Rattle.std.specs.Str.{bytes_eq}
use Rattle.flag_text.specs.Readers.{as_object, find_member}
use Rattle.flag_text.specs.Shape.{Shape, null, boolean, whole, other, text, list, object, Items, no_items, item, Members, no_members, member}

abbrev pub is_reference_name : List ℕ → Bool
is_reference_name k = bytes_eq k (codes "$ref")

abbrev pub name_in : List ℕ → Shape → Option (List ℕ)
name_in k (text s) = if is_reference_name k then Some s else None
name_in k t = None

-- The name that a reference refers to: an object is one where its one member is `$ref` with a text.
abbrev pub reference_of : Members → Option (List ℕ)
reference_of no_members = None
reference_of (member k t no_members) = name_in k t
reference_of (member k t (member l u ms)) = None

-- the same of a tree that is wholly a reference
abbrev pub reference_in : Shape → Option (List ℕ)
reference_in t = option_and_then reference_of (as_object t)

-- A reference stands somewhere.
abbrev mutual
  pub has_reference : Shape → Bool
  has_reference (list ts) = items_have_reference ts
  has_reference (object ms) = is_some (reference_of ms) || members_have_reference ms
  has_reference t = false

  pub items_have_reference : Items → Bool
  items_have_reference no_items = false
  items_have_reference (item t ts) = has_reference t || items_have_reference ts

  pub members_have_reference : Members → Bool
  members_have_reference no_members = false
  members_have_reference (member k t ms) = has_reference t || members_have_reference ms

abbrev pub by_reference : (List ℕ → Option Shape) → Option (List ℕ) → Option Members → Option Shape
by_reference refer None ms = option_map object ms
by_reference refer (Some name) ms = refer name

-- Each reference replaced by what `refer` gives for its name; nothing where it gives nothing for one.
abbrev mutual
  pub replaced : (List ℕ → Option Shape) → Shape → Option Shape
  replaced refer null = Some null
  replaced refer (boolean b) = Some (boolean b)
  replaced refer (whole n) = Some (whole n)
  replaced refer other = Some other
  replaced refer (text s) = Some (text s)
  replaced refer (list ts) = option_map list (items_replaced refer ts)
  replaced refer (object ms) = by_reference refer (reference_of ms) (members_replaced refer ms)

  pub items_replaced : (List ℕ → Option Shape) → Items → Option Items
  items_replaced refer no_items = Some no_items
  items_replaced refer (item t ts) = option_and_then (λ u. option_map (item u) (items_replaced refer ts)) (replaced refer t)

  pub members_replaced : (List ℕ → Option Shape) → Members → Option Members
  members_replaced refer no_members = Some no_members
  members_replaced refer (member k t ms) = option_and_then (λ u. option_map (member k u) (members_replaced refer ms)) (replaced refer t)

-- The tree with its references replaced, and those inside what they refer to, so many levels of them.
abbrev pub inlined : ℕ → Members → Shape → Option Shape
inlined zero evaluators t = replaced (λ name. None) t
inlined (suc n) evaluators t = replaced (λ name. option_and_then (inlined n evaluators) (find_member name evaluators)) t

-- u is t with all its references replaced. There is none where a reference names nothing or leads back to itself.
abbrev pub IsInlined : Members → Shape → Shape → Type 0
IsInlined evaluators t u = (n : ℕ) × (inlined n evaluators t ≡ Some u)
