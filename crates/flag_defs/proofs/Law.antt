-- What is printed for flags is a document that means them.
use Rattle.std.proofs.Common.{◌≡◌, ◌≤◌, ℕ, List, [], ◌∷◌, codes, length, Bool, true, false, not, ◌&&◌, nat_lt, nat_le, cond, Option, Some, None, is_some, option_map, option_and_then, Result, Ok, Err, refl, sym, ap, ◌∙◌, subst, arith}
use Rattle.std.specs.Prelude.{if◌then◌else◌}
use Rattle.std.specs.Result.{result_ok}
use Rattle.std.proofs.lemmas.Bool.{le-ltb}
use Rattle.std.proofs.lemmas.Grind.{common_steps}
use Rattle.std.specs.List.{AllByRecursion}
use Rattle.flag_text.proofs.Bools.{both, left, right, or_left, or_right}
use Rattle.flag_text.specs.Readers.{find_member}
use Rattle.flag_text.specs.Reading.{doc_of, if_whole, max_levels}
use Rattle.flag_text.specs.Shape.{Shape, null, boolean, whole, other, text, list, object, Items, no_items, item, Members, no_members, member, is_whole, levels, members_levels, has_other}
use Rattle.flag_text.specs.declared.fault.TextFault.{TextFault}
use Rattle.flag_text.specs.declared.fault.TextFault.TheVariants.{TooDeep, NotWhole}
use Rattle.logic_ast.proofs.WellFormed.{is_whole-written, reading-written}
use Rattle.logic_ast.specs.Expression.{Expression}
use Rattle.logic_ast.specs.Formed.{is_formed, is_well_formed}
use Rattle.logic_ast.specs.Reading.{reading}
use Rattle.logic_ast.specs.Size.{expression_size, is_too_big}
use Rattle.logic_ast.specs.Writing.{written}
use Rattle.logic_ast.specs.declared.fault.LogicFault.{LogicFault}
use Rattle.flag_defs.specs.Definition.{Rules, Definition, broken, good, state_named, state_of, are_of_one_kind, member_count, are_variants, variants_of, default_of, or_null, targeting_of, HasTargeting, IsGood, Means}
use Rattle.flag_defs.specs.Document.{Definitions, with_default, with_targeting, state_text, definition_written, definitions_written, printed, limited, max_flags, max_bytes, AllMean, TextMeans, DocumentMeans}
use Rattle.flag_defs.specs.Flag.{is_definition}
use Rattle.flag_references.specs.Inlining.{reference_of, by_reference, has_reference, items_have_reference, members_have_reference, replaced, items_replaced, members_replaced}
use Rattle.flag_defs.specs.Law.{document_written, ReadsBack}
use Rattle.flag_defs.specs.Rules.{has_members, are_targetings, is_default, are_rules}
use Rattle.flag_defs.proofs.Deep.{levels-read}
use Rattle.flag_defs.proofs.Printed.{formed_targeting, targetings_of}
use Rattle.flag_defs.proofs.Targetings.{shallow}
use Rattle.flag_defs.proofs.Unreferred.{false_of_not}

-- ---- a tree without references is its own form

object_same : (s : List ℕ → Option Shape) (o : Option (List ℕ)) (a : Option Members) (ms : Members) → is_some o ≡ false → a ≡ Some ms → by_reference s o a ≡ Some (object ms)
object_same s None a ms h e = ap (option_map object) e
object_same s (Some name) a ms h e = cc

mutual
  pub same : (s : List ℕ → Option Shape) (t : Shape) → has_reference t ≡ false → replaced s t ≡ Some t
  same s null h = refl
  same s (boolean b) h = refl
  same s (whole n) h = refl
  same s other h = refl
  same s (text x) h = refl
  same s (list ts) h = ap (option_map list) (items-same s ts h)
  same s (object ms) h =
      object_same s (reference_of ms) (members_replaced s ms) ms (or_left (is_some (reference_of ms)) (members_have_reference ms) h)
      (members-same s ms (or_right (is_some (reference_of ms)) (members_have_reference ms) h))

  items-same : (s : List ℕ → Option Shape) (ts : Items) → items_have_reference ts ≡ false → items_replaced s ts ≡ Some ts
  items-same s no_items h = refl
  items-same s (item t ts) h =
      ap (option_and_then (λ u. option_map (item u) (items_replaced s ts))) (same s t (or_left (has_reference t) (items_have_reference ts) h))
      ∙ ap (option_map (item t)) (items-same s ts (or_right (has_reference t) (items_have_reference ts) h))

  members-same : (s : List ℕ → Option Shape) (ms : Members) → members_have_reference ms ≡ false → members_replaced s ms ≡ Some ms
  members-same s no_members h = refl
  members-same s (member k t ms) h =
      ap (option_and_then (λ u. option_map (member k u) (members_replaced s ms))) (same s t (or_left (has_reference t) (members_have_reference ms) h))
      ∙ ap (option_map (member k t)) (members-same s ms (or_right (has_reference t) (members_have_reference ms) h))

-- ---- targetings

reading_is : (b : Bool) (r : Result Expression LogicFault) (e : Expression) → b ≡ true → r ≡ Ok e → cond b (option_map Some (result_ok r)) None ≡ Some (Some e)
reading_is b r e p q = rw (p, q) refl

read_is : (t : Shape) (e : Expression) → has_members t ≡ true → is_whole t ≡ true → has_reference t ≡ false → reading t ≡ Ok e → targeting_of t ≡ Some (Some e)
read_is null e m w h r = cc
read_is (boolean b) e m w h r = cc
read_is (whole n) e m w h r = cc
read_is other e m w h r = cc
read_is (text x) e m w h r = cc
read_is (list ts) e m w h r = cc
read_is (object no_members) e m w h r = cc
read_is (object (member k t ms)) e m w h r =
    let u = object (member k t ms) in reading_is (is_whole u && not (has_reference u)) (reading u) e (both (is_whole u) (not (has_reference u)) w (ap not h)) r

-- what is written for a targeting means it
targeting-back : (o : Option Expression) → are_targetings o ≡ true → HasTargeting no_members (or_null (option_map written o)) o
targeting-back None h = (null, (0, refl), refl)
targeting-back (Some e) h =
    let formed = left (is_well_formed e) (has_members (written e) && not (has_reference (written e))) h in
    let rest = right (is_well_formed e) (has_members (written e) && not (has_reference (written e))) h in
    let free = false_of_not (has_reference (written e)) (right (has_members (written e)) (not (has_reference (written e))) rest) in
    let numbers = is_whole-written 0 e (left (is_formed 0 e) (not (is_too_big (written e))) formed) in (
      written e,
      (0, same (λ name. None) (written e) free),
      read_is (written e) e (left (has_members (written e)) (not (has_reference (written e))) rest) numbers free (reading-written e formed),
    )

-- ---- definitions

state-back : (b : Bool) → state_named (if b then codes "ENABLED" else codes "DISABLED") ≡ Some b
state-back true = refl
state-back false = refl

abbrev last : Rules → Members
last r = member (codes "variants") (object r.variants) no_members

abbrev middle : Rules → Option Expression → Members
middle r o = member (codes "state") (text (state_text r)) (with_targeting o (last r))

state_found : (d : Option (List ℕ)) (r : Rules) (o : Option Expression) → find_member (codes "state") (with_default d (middle r o)) ≡ Some (text (state_text r))
state_found None r o = refl
state_found (Some x) r o = refl

variants_found : (d : Option (List ℕ)) (r : Rules) (o : Option Expression) → find_member (codes "variants") (with_default d (middle r o)) ≡ Some (object r.variants)
variants_found None r None = refl
variants_found None r (Some e) = refl
variants_found (Some x) r None = refl
variants_found (Some x) r (Some e) = refl

default_found : (d : Option (List ℕ)) (r : Rules) (o : Option Expression) → find_member (codes "defaultVariant") (with_default d (middle r o)) ≡ option_map text d
default_found None r None = refl
default_found None r (Some e) = refl
default_found (Some x) r o = refl

targeting_found : (d : Option (List ℕ)) (r : Rules) (o : Option Expression) → find_member (codes "targeting") (with_default d (middle r o)) ≡ option_map written o
targeting_found None r None = refl
targeting_found None r (Some e) = refl
targeting_found (Some x) r None = refl
targeting_found (Some x) r (Some e) = refl

default-back : (vs : Members) (d : Option (List ℕ)) → is_default vs d ≡ true → default_of vs (option_map text d) ≡ Some d
default-back vs None h = refl
default-back vs (Some x) h = ap (λ b. cond b (Some (Some x)) None) h

variants-back : (vs : Members) → are_variants vs ≡ true → variants_of (Some (object vs)) ≡ Some vs
variants-back vs h = ap (λ b. cond b (Some vs) None) h

good-back : (r : Rules) → are_rules r ≡ true → IsGood no_members (with_default r.default_variant (middle r r.targeting)) r
good-back r h =
    let rest = right (are_variants r.variants) (is_default r.variants r.default_variant && are_targetings r.targeting) h in record {
      state = ap state_of (state_found r.default_variant r r.targeting) ∙ state-back r.enabled;
      variants = ap variants_of (variants_found r.default_variant r r.targeting) ∙ variants-back r.variants (left (are_variants r.variants) (is_default r.variants r.default_variant && are_targetings r.targeting) h);
      default_variant = ap (default_of r.variants) (default_found r.default_variant r r.targeting) ∙ default-back r.variants r.default_variant (left (is_default r.variants r.default_variant) (are_targetings r.targeting) rest);
      targeting = subst (λ o. HasTargeting no_members (or_null o) r.targeting) (sym (targeting_found r.default_variant r r.targeting)) (targeting-back r.targeting (targetings_of r h));
    }

definition-back : (d : Definition) → is_definition d ≡ true → Means no_members (definition_written d) d
definition-back broken h = λ r g. let none = g.state in cc
definition-back (good r) h = good-back r h

pub all-back : (fs : Definitions) → AllByRecursion (λ f. is_definition f.1 ≡ true) fs → AllMean no_members (definitions_written fs) fs
all-back [] h = tt
all-back (f ∷ fs) h = (refl, definition-back f.1 h.0, all-back fs h.1)

-- ---- levels

test_le : (n k : ℕ) → nat_le n k ≡ true → n ≤ k
test_le n k h = grind (arith, common_steps, h)

targeting-levels : (o : Option Expression) (ms : Members) → are_targetings o ≡ true → members_levels ms ≤ 101 → members_levels (with_targeting o ms) ≤ 101
targeting-levels None ms h k = k
targeting-levels (Some e) ms h k =
    let small = false_of_not (is_too_big (written e)) (right (is_formed 0 e) (not (is_too_big (written e))) (formed_targeting e h)) in
    omega (arith, k, levels-read (written e), shallow (expression_size (written e)) small)

default-levels : (d : Option (List ℕ)) (ms : Members) → members_levels ms ≤ 101 → members_levels (with_default d ms) ≤ 101
default-levels None ms k = k
default-levels (Some x) ms k = omega (arith, k)

definition-levels : (d : Definition) → is_definition d ≡ true → levels (definition_written d) ≤ 102
definition-levels broken h = omega arith
definition-levels (good r) h =
    let vs = r.variants in
    let all = left (are_variants vs) (is_default vs r.default_variant && are_targetings r.targeting) h in
    let kinds = right (nat_le 1 (member_count vs) && nat_le (member_count vs) 64) (are_of_one_kind vs && (is_whole (object vs) && nat_le (levels (object vs)) 100)) all in
    let numbers = right (are_of_one_kind vs) (is_whole (object vs) && nat_le (levels (object vs)) 100) kinds in
    let flat = test_le (levels (object vs)) 100 (right (is_whole (object vs)) (nat_le (levels (object vs)) 100) numbers) in
    let inner = targeting-levels r.targeting (last r) (targetings_of r h) (omega (arith, flat)) in
    omega (arith, default-levels r.default_variant (middle r r.targeting) (omega (arith, inner)))

definitions-levels : (fs : Definitions) → AllByRecursion (λ f. is_definition f.1 ≡ true) fs → members_levels (definitions_written fs) ≤ 102
definitions-levels [] h = omega arith
definitions-levels (f ∷ fs) h = omega (arith, definition-levels f.1 h.0, definitions-levels fs h.1)

document-levels : (fs : Definitions) → AllByRecursion (λ f. is_definition f.1 ≡ true) fs → levels (document_written fs) ≤ max_levels
document-levels fs h = omega (arith, definitions-levels fs h)

-- ---- the document

whole_at : (a b : Bool) (u t : Shape) → cond a (Err TooDeep) (cond b (Err NotWhole) (Ok u)) ≡ Ok t → u ≡ t
whole_at true b u t h = cc
whole_at false true u t h = cc
whole_at false false u t h = cc

if_whole_is : (r : Result Shape TextFault) (t : Shape) → if_whole r ≡ Ok t → r ≡ Ok t
if_whole_is (Err e) t h = cc
if_whole_is (Ok u) t h = ap Ok (whole_at (nat_lt max_levels (levels u)) (has_other u) u t h)

pub limited-back : (fs : Definitions) → length fs ≤ max_flags → length (printed fs) ≤ max_bytes → limited fs ≡ Ok fs
limited-back fs few small = rw (le-ltb max_flags (length fs) few, le-ltb max_bytes (length (printed fs)) small) refl

-- bytes that are printed for flags, and read as what is written, mean these flags
pub printed-back : (fs : Definitions) → AllByRecursion (λ f. is_definition f.1 ≡ true) fs → length fs ≤ max_flags → length (printed fs) ≤ max_bytes
    → (bytes : List ℕ) → bytes ≡ printed fs → ReadsBack bytes (document_written fs) → DocumentMeans bytes (Ok fs)
printed-back fs lawful few small bytes is back =
    let short : length bytes ≤ max_bytes = omega (arith, ap length is) in
    let read = if_whole_is (doc_of bytes max_bytes) (document_written fs) (back max_bytes (document-levels fs lawful) short) in
    subst (λ r. TextMeans r (Ok fs)) (sym read) (fs, all-back fs lawful, sym (limited-back fs few small))
