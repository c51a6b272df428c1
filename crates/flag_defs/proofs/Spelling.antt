-- The value of JSON's grammar that is printed for flags of which some have floats, and what is read of it.
use Rattle.std.proofs.Common.{◌≡◌, ℕ, List, [], ◌∷◌, codes, Bool, true, false, not, ◌&&◌, ◌||◌, cond, Option, Some, None, is_some, option_and_then, refl, sym, ap, ap₂, ◌∙◌}
use Rattle.std.specs.List.{AllByRecursion}
use Rattle.json.specs.Find.{get}
use Rattle.json.specs.Json as json
use Rattle.flag_text.proofs.Bools.{both, left, right}
use Rattle.flag_text.specs.Grammar.{tree_from, written, members_written}
use Rattle.flag_text.specs.Readers.{as_whole}
use Rattle.flag_text.specs.Shape.{Shape, null, boolean, whole, other, text, list, object, Items, no_items, item, Members, no_members, member, comes_first, is_whole, items_are_whole, members_are_whole}
use Rattle.spelled_numbers.specs.Floats.{all_counting, are_within, each_member, has_floats, has_name, has_whole_numbers, in_object, is_number, is_object, items_have_whole_numbers, members_have_whole_numbers, of_flag, of_flags, of_variants, spelled, with_texts}
use Rattle.spelled_numbers.specs.Marks.{are_floats_in, if_floats, marks_in, marks_of}
use Rattle.logic_ast.specs.Expression.{Expression}
use Rattle.logic_ast.specs.Writing as writing
use Rattle.flag_defs.specs.Definition.{Rules, Definition, broken, good}
use Rattle.flag_defs.specs.Document.{Definitions, with_default, with_targeting, state_text, definition_written, definitions_written}
use Rattle.flag_defs.specs.Flag.{is_definition}
use Rattle.flag_defs.specs.Floats.{Marks, are_unmarked}
use Rattle.flag_defs.specs.Law.{document_written}
use Rattle.flag_defs.specs.Rules.{are_rules}
use Rattle.flag_defs.specs.SpelledLaw.{as_texts, IsSpelled, AreMarked}
use Rattle.flag_defs.proofs.Lawful.{whole_rules}
use Rattle.flag_defs.proofs.Written.{tree_from-written}

-- ---- the value

abbrev pub variants_json : (r : Rules) (b : Bool) → IsSpelled (good r) b → json.Members
variants_json r false s = members_written r.variants
variants_json r true s = s.0

abbrev pub default_json : Option (List ℕ) → json.Members → json.Members
default_json None ms = ms
default_json (Some name) ms = json.member (codes "defaultVariant") (json.string name) ms

abbrev pub targeting_json : Option Expression → json.Members → json.Members
targeting_json None ms = ms
targeting_json (Some e) ms = json.member (codes "targeting") (written (writing.written e)) ms

abbrev pub last_json : json.Members → json.Members
last_json vs = json.member (codes "variants") (json.object vs) json.no_members

abbrev pub state_json : List ℕ → Option Expression → json.Members → json.Members
state_json state e vs = json.member (codes "state") (json.string state) (targeting_json e (last_json vs))

abbrev pub members_json : Option (List ℕ) → List ℕ → Option Expression → json.Members → json.Members
members_json d state e vs = default_json d (state_json state e vs)

abbrev pub flag_json : (d : Definition) (b : Bool) → IsSpelled d b → json.Json
flag_json broken false s = json.object json.no_members
flag_json broken true s = absurd s
flag_json (good r) b s = json.object (members_json r.default_variant (state_text r) r.targeting (variants_json r b s))

abbrev pub flags_json : (fs : Definitions) (ms : Marks) → AreMarked fs ms → json.Members
flags_json [] [] h = json.no_members
flags_json [] (m ∷ ms) h = absurd h
flags_json (f ∷ fs) [] h = absurd h
flags_json (f ∷ fs) (m ∷ ms) h = json.member f.0 (flag_json f.1 m.1 h.1) (flags_json fs ms h.2)

abbrev pub document_json : (fs : Definitions) (ms : Marks) → AreMarked fs ms → json.Json
document_json fs ms h = json.object (json.member (codes "flags") (json.object (flags_json fs ms h)) json.no_members)

-- ---- whole numbers are no floats

mutual
  whole_numbers : (t : Shape) → is_whole t ≡ true → has_whole_numbers (written t) ≡ true
  whole_numbers null h = refl
  whole_numbers (boolean b) h = refl
  whole_numbers (whole n) h = ap (λ (o : Option Shape). is_some (option_and_then as_whole o)) (tree_from-written (whole n) h)
  whole_numbers other h = cc
  whole_numbers (text s) h = refl
  whole_numbers (list ts) h = whole_items ts h
  whole_numbers (object ms) h = whole_members ms h

  whole_items : (ts : Items) → items_are_whole ts ≡ true → has_whole_numbers (written (list ts)) ≡ true
  whole_items no_items h = refl
  whole_items (item t ts) h =
      both (has_whole_numbers (written t)) (has_whole_numbers (written (list ts))) (whole_numbers t (left (is_whole t) (items_are_whole ts) h)) (whole_items ts (right (is_whole t) (items_are_whole ts) h))

  whole_members : (ms : Members) → members_are_whole ms ≡ true → members_have_whole_numbers (members_written ms) ≡ true
  whole_members no_members h = refl
  whole_members (member k t ms) h =
      let rest = right (comes_first k ms) (is_whole t && members_are_whole ms) h in
      both (has_whole_numbers (written t)) (members_have_whole_numbers (members_written ms)) (whole_numbers t (left (is_whole t) (members_are_whole ms) rest))
      (whole_members ms (right (is_whole t) (members_are_whole ms) rest))

or_true : (a b : Bool) → b ≡ true → (a || b) ≡ true
or_true true b e = refl
or_true false b e = e

all_whole : (ms : json.Members) → members_have_whole_numbers ms ≡ true → all_counting has_whole_numbers ms ≡ true
all_whole json.no_members h = refl
all_whole (json.member k j ms) h =
    both (has_name k ms || has_whole_numbers j) (all_counting has_whole_numbers ms) (or_true (has_name k ms) (has_whole_numbers j) (left (has_whole_numbers j) (members_have_whole_numbers ms) h))
    (all_whole ms (right (has_whole_numbers j) (members_have_whole_numbers ms) h))

none_of : (a b c : Bool) → c ≡ true → (a && (b && not c)) ≡ false
none_of true true c e = ap not e
none_of true false c e = refl
none_of false b c e = refl

no_floats : (vs : Members) → members_are_whole vs ≡ true → has_floats (json.object (members_written vs)) ≡ false
no_floats vs h =
    let ms = members_written vs in
    none_of (are_within ms) (all_counting is_number ms || all_counting is_object ms) (all_counting has_whole_numbers ms) (all_whole ms (whole_members vs h))

-- ---- with the values of floats as texts it is what is written for the flags

here : (b : Bool) (i j : json.Json) → b ≡ true → cond b i j ≡ i
here b i j e = ap (λ (c : Bool). cond c i j) e

there : (b : Bool) (i j : json.Json) → b ≡ false → cond b i j ≡ j
there b i j e = ap (λ (c : Bool). cond c i j) e

each_text : (ms : json.Members) → each_member of_variants ms ≡ members_written (as_texts ms)
each_text json.no_members = refl
each_text (json.member k j ms) = ap (json.member k (spelled j)) (each_text ms)

variants_texts : (r : Rules) (b : Bool) (s : IsSpelled (good r) b) → are_rules r ≡ true → of_flag (codes "variants") (json.object (variants_json r b s)) ≡ json.object (members_written r.variants)
variants_texts r false s h =
    let v = json.object (members_written r.variants) in there (has_floats v) (in_object of_variants v) v (no_floats r.variants (whole_rules r h))
variants_texts r true s h =
    let v = json.object s.0 in here (has_floats v) (in_object of_variants v) v s.2 ∙ ap json.object (each_text s.0 ∙ ap members_written s.3)

members_texts : (d : Option (List ℕ)) (state : List ℕ) (e : Option Expression) (v : json.Members) (vs : Members) → of_flag (codes "variants") (json.object v) ≡ json.object (members_written vs)
    → each_member of_flag (members_json d state e v) ≡ members_written (with_default d (member (codes "state") (text state) (with_targeting e (member (codes "variants") (object vs) no_members))))
members_texts None state None v vs h = ap (λ (j : json.Json). json.member (codes "state") (json.string state) (json.member (codes "variants") j json.no_members)) h
members_texts None state (Some e) v vs h =
    ap (λ (j : json.Json). json.member (codes "state") (json.string state) (json.member (codes "targeting") (written (writing.written e)) (json.member (codes "variants") j json.no_members))) h
members_texts (Some x) state None v vs h =
    ap (λ (j : json.Json). json.member (codes "defaultVariant") (json.string x) (json.member (codes "state") (json.string state) (json.member (codes "variants") j json.no_members))) h
members_texts (Some x) state (Some e) v vs h =
    ap (λ (j : json.Json). json.member (codes "defaultVariant") (json.string x)
    (json.member (codes "state") (json.string state) (json.member (codes "targeting") (written (writing.written e)) (json.member (codes "variants") j json.no_members)))) h

flag_texts : (k : List ℕ) (d : Definition) (b : Bool) (s : IsSpelled d b) → is_definition d ≡ true → of_flags k (flag_json d b s) ≡ written (definition_written d)
flag_texts k broken false s h = refl
flag_texts k broken true s h = absurd s
flag_texts k (good r) b s h = ap json.object (members_texts r.default_variant (state_text r) r.targeting (variants_json r b s) r.variants (variants_texts r b s h))

flags_texts : (fs : Definitions) (ms : Marks) (h : AreMarked fs ms) → AllByRecursion (λ f. is_definition f.1 ≡ true) fs → each_member of_flags (flags_json fs ms h) ≡ members_written (definitions_written fs)
flags_texts [] [] h l = refl
flags_texts [] (m ∷ ms) h l = absurd h
flags_texts (f ∷ fs) [] h l = absurd h
flags_texts (f ∷ fs) (m ∷ ms) h l = ap₂ (json.member f.0) (flag_texts f.0 f.1 m.1 h.1 l.0) (flags_texts fs ms h.2 l.1)

pub document_texts : (fs : Definitions) (ms : Marks) (h : AreMarked fs ms) → AllByRecursion (λ f. is_definition f.1 ≡ true) fs → with_texts (document_json fs ms h) ≡ written (document_written fs)
document_texts fs ms h l = ap (λ (es : json.Members). json.object (json.member (codes "flags") (json.object es) json.no_members)) (flags_texts fs ms h l)

-- ---- it has these marks

variants_found : (d : Option (List ℕ)) (state : List ℕ) (e : Option Expression) (v : json.Members) → get (codes "variants") (json.object (members_json d state e v)) ≡ Some (json.object v)
variants_found None state None v = refl
variants_found None state (Some e) v = refl
variants_found (Some x) state None v = refl
variants_found (Some x) state (Some e) v = refl

variants_mark : (r : Rules) (b : Bool) (s : IsSpelled (good r) b) → are_rules r ≡ true → has_floats (json.object (variants_json r b s)) ≡ b
variants_mark r false s h = no_floats r.variants (whole_rules r h)
variants_mark r true s h = s.2

flag_mark : (d : Definition) (b : Bool) (s : IsSpelled d b) → is_definition d ≡ true → are_floats_in (flag_json d b s) ≡ b
flag_mark broken false s h = refl
flag_mark broken true s h = absurd s
flag_mark (good r) b s h = ap if_floats (variants_found r.default_variant (state_text r) r.targeting (variants_json r b s)) ∙ variants_mark r b s h

flags_marks : (fs : Definitions) (ms : Marks) (h : AreMarked fs ms) → AllByRecursion (λ f. is_definition f.1 ≡ true) fs → marks_of (flags_json fs ms h) ≡ ms
flags_marks [] [] h l = refl
flags_marks [] (m ∷ ms) h l = absurd h
flags_marks (f ∷ fs) [] h l = absurd h
flags_marks (f ∷ fs) (m ∷ ms) h l =
    ap₂ (λ (p : List ℕ × Bool) (ps : Marks). p ∷ ps) (ap₂ (λ (k : List ℕ) (b : Bool). let p : List ℕ × Bool = (k, b) in p) (sym h.0) (flag_mark f.1 m.1 h.1 l.0)) (flags_marks fs ms h.2 l.1)

pub document_marks : (fs : Definitions) (ms : Marks) (h : AreMarked fs ms) → AllByRecursion (λ f. is_definition f.1 ≡ true) fs → marks_in (document_json fs ms h) ≡ ms
document_marks fs ms h l = flags_marks fs ms h l

-- ---- without floats it is what is written for the flags

members_plain : (d : Option (List ℕ)) (state : List ℕ) (e : Option Expression) (vs : Members)
    → members_json d state e (members_written vs) ≡ members_written (with_default d (member (codes "state") (text state) (with_targeting e (member (codes "variants") (object vs) no_members))))
members_plain None state None vs = refl
members_plain None state (Some e) vs = refl
members_plain (Some x) state None vs = refl
members_plain (Some x) state (Some e) vs = refl

flag_plain : (d : Definition) (b : Bool) (s : IsSpelled d b) → not b ≡ true → flag_json d b s ≡ written (definition_written d)
flag_plain broken false s h = refl
flag_plain broken true s h = absurd s
flag_plain (good r) false s h = ap json.object (members_plain r.default_variant (state_text r) r.targeting r.variants)
flag_plain (good r) true s h = cc

flags_plain : (fs : Definitions) (ms : Marks) (h : AreMarked fs ms) → are_unmarked ms ≡ true → flags_json fs ms h ≡ members_written (definitions_written fs)
flags_plain [] [] h u = refl
flags_plain [] (m ∷ ms) h u = absurd h
flags_plain (f ∷ fs) [] h u = absurd h
flags_plain (f ∷ fs) (m ∷ ms) h u =
    ap₂ (json.member f.0) (flag_plain f.1 m.1 h.1 (left (not m.1) (are_unmarked ms) u)) (flags_plain fs ms h.2 (right (not m.1) (are_unmarked ms) u))

pub document_plain : (fs : Definitions) (ms : Marks) (h : AreMarked fs ms) → are_unmarked ms ≡ true → document_json fs ms h ≡ written (document_written fs)
document_plain fs ms h u = ap (λ (es : json.Members). json.object (json.member (codes "flags") (json.object es) json.no_members)) (flags_plain fs ms h u)
