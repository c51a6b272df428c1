-- The trees that have an inlined form of so many levels, and the items and members that are inlined forms of others.
use Rattle.std.specs.Prelude.{◌≡◌, ◌≤◌, ℕ}
use Rattle.flag_text.specs.Shape.{Shape, levels, Items, no_items, item, Members, no_members, member}
use Rattle.flag_references.specs.Inlining.{IsInlined}

-- the tree has an inlined form of at most so many levels
abbrev pub HasForm : Members → ℕ → Shape → Type 0
HasForm evaluators most t = (u : Shape) × IsInlined evaluators t u × (levels u ≤ most)

abbrev pub ItemsHaveForms : Members → ℕ → Items → Type 0
ItemsHaveForms evaluators most no_items = Unit {0}
ItemsHaveForms evaluators most (item t ts) = HasForm evaluators most t × ItemsHaveForms evaluators most ts

abbrev pub MembersHaveForms : Members → ℕ → Members → Type 0
MembersHaveForms evaluators most no_members = Unit {0}
MembersHaveForms evaluators most (member k t ms) = HasForm evaluators most t × MembersHaveForms evaluators most ms

-- each item is the inlined form of the one at its place
abbrev pub AreInlined : Members → Items → Items → Type 0
AreInlined evaluators no_items no_items = Unit {0}
AreInlined evaluators no_items (item u us) = ⊥
AreInlined evaluators (item t ts) no_items = ⊥
AreInlined evaluators (item t ts) (item u us) = IsInlined evaluators t u × AreInlined evaluators ts us

-- the same of members, under their names
abbrev pub MembersAreInlined : Members → Members → Members → Type 0
MembersAreInlined evaluators no_members no_members = Unit {0}
MembersAreInlined evaluators no_members (member l u us) = ⊥
MembersAreInlined evaluators (member k t ts) no_members = ⊥
MembersAreInlined evaluators (member k t ts) (member l u us) = (k ≡ l) × IsInlined evaluators t u × MembersAreInlined evaluators ts us
