-- What is printed of lawful flags is a tree that may be printed.
use Rattle.std.proofs.Common.{◌≡◌, List, [], ◌∷◌, codes, true, false, Option, Some, None, Less, refl, ap}
use Rattle.std.specs.Prelude.{ℕ}
use Rattle.std.specs.Cmp.Lexicographic.{slice_cmp}
use Rattle.std.specs.List.{AllByRecursion}
use Rattle.std.specs.List.Sorted.{IsStrictlySortedBy}
use Rattle.std.specs.Map.{keys_of}
use Rattle.std.specs.Ordering.{nat_cmp, match_ordering}
use Rattle.flag_text.specs.Shape.{text, object, Members, no_members, member, comes_first, is_whole, members_are_whole}
use Rattle.flag_text.proofs.Bools.{both, left, right}
use Rattle.logic_ast.specs.Expression.{Expression}
use Rattle.logic_ast.specs.Formed.{is_formed, is_well_formed}
use Rattle.logic_ast.specs.Writing.{written}
use Rattle.logic_ast.proofs.WellFormed.{is_whole-written}
use Rattle.flag_defs.specs.Definition.{Rules, Definition, broken, good, are_variants}
use Rattle.flag_defs.specs.Document.{Definitions, with_default, with_targeting, state_text, definition_written, definitions_written}
use Rattle.flag_defs.specs.Flag.{is_definition}
use Rattle.flag_defs.specs.Rules.{is_targeting, are_targetings, is_default, are_rules}
use Rattle.flag_defs.proofs.Lawful.{whole_rules}

pub formed_targeting : (e : Expression) → is_targeting e ≡ true → is_well_formed e ≡ true
formed_targeting e h = left (is_well_formed e) _ h

pub whole_targeting : (e : Expression) → is_targeting e ≡ true → is_whole (written e) ≡ true
whole_targeting e h = is_whole-written 0 e (left (is_formed 0 e) _ (formed_targeting e h))

pub targetings_of : (r : Rules) → are_rules r ≡ true → are_targetings r.targeting ≡ true
targetings_of r h = right (is_default r.variants r.default_variant) _ (right (are_variants r.variants) _ h)

abbrev of_variants : Members → Members
of_variants vs = member (codes "variants") (object vs) no_members

whole_of_variants : (vs : Members) → members_are_whole vs ≡ true → members_are_whole (of_variants vs) ≡ true
whole_of_variants vs h = both (members_are_whole vs) true h refl

whole_with_targeting : (o : Option Expression) (vs : Members) → are_targetings o ≡ true → members_are_whole vs ≡ true → members_are_whole (with_targeting o (of_variants vs)) ≡ true
whole_with_targeting None vs t h = whole_of_variants vs h
whole_with_targeting (Some e) vs t h = both (is_whole (written e)) _ (whole_targeting e t) (whole_of_variants vs h)

abbrev of_state : Rules → Members
of_state r = member (codes "state") (text (state_text r)) (with_targeting r.targeting (of_variants r.variants))

state_first : (o : Option Expression) (vs : Members) → comes_first (codes "state") (with_targeting o (of_variants vs)) ≡ true
state_first None vs = refl
state_first (Some e) vs = refl

whole_of_state : (r : Rules) → are_rules r ≡ true → members_are_whole (of_state r) ≡ true
whole_of_state r h =
    both (comes_first (codes "state") (with_targeting r.targeting (of_variants r.variants))) _ (state_first r.targeting r.variants)
    (whole_with_targeting r.targeting r.variants (targetings_of r h) (whole_rules r h))

whole_with_default : (o : Option (List ℕ)) (r : Rules) → members_are_whole (of_state r) ≡ true → members_are_whole (with_default o (of_state r)) ≡ true
whole_with_default None r h = h
whole_with_default (Some name) r h = h

pub whole_definition : (d : Definition) → is_definition d ≡ true → is_whole (definition_written d) ≡ true
whole_definition broken h = refl
whole_definition (good r) h = whole_with_default r.default_variant r (whole_of_state r h)

key_first : (k : List ℕ) (fs : Definitions) → AllByRecursion (λ y. slice_cmp nat_cmp k y ≡ Less) (keys_of fs) → comes_first k (definitions_written fs) ≡ true
key_first k [] h = refl
key_first k (f ∷ fs) h = ap (λ o. match_ordering o true false false) h.0

pub whole_definitions : (fs : Definitions) → IsStrictlySortedBy (slice_cmp nat_cmp) (keys_of fs) → AllByRecursion (λ f. is_definition f.1 ≡ true) fs → members_are_whole (definitions_written fs) ≡ true
unfolding IsStrictlySortedBy
whole_definitions [] s h = refl
whole_definitions (f ∷ fs) s h =
    both (comes_first f.0 (definitions_written fs)) _ (key_first f.0 fs s.0)
    (both (is_whole (definition_written f.1)) _ (whole_definition f.1 h.0) (whole_definitions fs s.1 h.1))

pub whole_document : (fs : Definitions) → IsStrictlySortedBy (slice_cmp nat_cmp) (keys_of fs) → AllByRecursion (λ f. is_definition f.1 ≡ true) fs
    → is_whole (object (member (codes "flags") (object (definitions_written fs)) no_members)) ≡ true
whole_document fs s h = both (members_are_whole (definitions_written fs)) true (whole_definitions fs s h) refl
