-- Lists of trees and of members, item by item.
use Rattle.std.proofs.Common.{◌≡◌, ℕ, suc, length, List, [], ◌∷◌, map, String, string_bytes, Global, refl, sym, ap, ◌∙◌}
use Rattle.flag_text.specs.declared.tree.Tree.{Tree}
use Rattle.flag_text.specs.Shape.{Shape, Items, no_items, item, Members, no_members, member}
use Rattle.flag_text.specs.View.{view, items_view, members_view}

abbrev pub Named : Type 0
Named = String Global × Tree

abbrev pub named_view : Named → List ℕ × Shape
named_view m = (string_bytes m.0, view m.1)

abbrev of_pairs : List (List ℕ × Shape) → Members
of_pairs [] = no_members
of_pairs (p ∷ ps) = member p.0 p.1 (of_pairs ps)

members_view-map : (ms : List Named) → members_view ms ≡ of_pairs (map named_view ms)
members_view-map [] = refl
members_view-map (m ∷ ms) = ap (member (string_bytes m.0) (view m.1)) (members_view-map ms)

pub members_view-same : (ms ns : List Named) → map named_view ms ≡ map named_view ns → members_view ms ≡ members_view ns
members_view-same ms ns e = members_view-map ms ∙ (ap of_pairs e ∙ sym (members_view-map ns))

-- equal views have as many items
items_count : Items → ℕ
items_count no_items = 0
items_count (item t ts) = suc (items_count ts)

items_count-view : (ts : List Tree) → items_count (items_view ts) ≡ length ts
unfolding items_count
items_count-view [] = refl
items_count-view (t ∷ ts) = ap suc (items_count-view ts)

members_count : Members → ℕ
members_count no_members = 0
members_count (member k t ms) = suc (members_count ms)

members_count-view : (ms : List Named) → members_count (members_view ms) ≡ length ms
unfolding members_count
members_count-view [] = refl
members_count-view (m ∷ ms) = ap suc (members_count-view ms)

pub items_view-length : (ts us : List Tree) → items_view ts ≡ items_view us → length ts ≡ length us
items_view-length ts us e = sym (items_count-view ts) ∙ (ap items_count e ∙ items_count-view us)

pub members_view-length : (ms ns : List Named) → members_view ms ≡ members_view ns → length ms ≡ length ns
members_view-length ms ns e = sym (members_count-view ms) ∙ (ap members_count e ∙ members_count-view ns)
