-- What the tree of a document has, of which it is told that all of it is read.
use Rattle.std.proofs.Common.{◌≡◌, ◌^◌, ℕ, ℤ, pos, Bool, true, false, cond, is_some, nat_lt, codes, List, [], ◌∷◌, length, Option, Some, None, option_map, option_and_then, Ordering, Less, Equal, Greater, refl, ap, ◌∙◌, subst, sym}
use Rattle.std.specs.Cmp.Lexicographic.{slice_cmp}
use Rattle.std.specs.Ordering.{match_ordering, nat_cmp}
use Rattle.std.specs.Prelude.{Result, Err}
use Rattle.std.specs.Str.{bytes_eq, is_utf8}
use Rattle.json.specs.Json as json
use Rattle.json.specs.Lex.{tokens}
use Rattle.json.specs.Token.{Token}
use Rattle.json.proofs.Found.{Some_inj, not_found, one_reading}
use Rattle.serde_json.specs.Data as parsed
use Rattle.serde_json.specs.Read.{number_of, read}
use Rattle.flag_text.proofs.Halving.{same_name}
use Rattle.flag_text.proofs.Trees.{tree_reads}
use Rattle.flag_text.specs.Grammar.{items_from, members_from, put, tree_from, value_in}
use Rattle.flag_text.specs.Reading as reading
use Rattle.flag_text.specs.Reading.{if_json, json_levels, number_shape, shape_of}
use Rattle.flag_text.specs.Readers.{as_object, find_member}
use Rattle.flag_text.specs.Shape.{Shape, null, boolean, whole, other, text, list, object, Members, no_members, member}
use Rattle.flag_text.specs.declared.fault.TextFault.{TextFault}
use Rattle.flag_text.specs.declared.fault.TextFault.TheVariants.{NotJson, TooLarge}
use Rattle.spelled_numbers.specs.Floats.{with_texts}
use Rattle.spelled_numbers.specs.Reading.{if_tree, text_with_floats}
use Rattle.member_names.specs.Unread.{first_unread, reads, unread_of}
use Rattle.member_names.specs.declared.reader.Reader.{Reader}
use Rattle.member_names.specs.declared.reader.Reader.TheVariants as reader
use Rattle.flag_defs.specs.Document.{or_no_members}
use Rattle.flag_doubts.specs.AllRead.{are_all_read}
use Rattle.member_names.specs.Repeated.{json_of}
use Rattle.flagops_checks.proofs.Plainly.{ArePlainFlags, Each, IsPlainDefinition, IsPlainDocument, IsPlainMember, IsRead, OfObject, document_stays, same_document}
use Rattle.flagops_checks.specs.Judged.{definition_of, is_unread, or_null, tree_in}

-- ---- the tree of a value, member by member

abbrev TreeEach : (List ℕ → Shape → Type 0) → Members → Type 0
TreeEach Q no_members = Unit {0}
TreeEach Q (member k t ms) = Q k t × TreeEach Q ms

abbrev TreeObject : (Members → Type 0) → Shape → Type 0
TreeObject Q null = Unit {0}
TreeObject Q (boolean b) = Unit {0}
TreeObject Q (whole n) = Unit {0}
TreeObject Q other = Unit {0}
TreeObject Q (text s) = Unit {0}
TreeObject Q (list ts) = Unit {0}
TreeObject Q (object ms) = Q ms

abbrev IsReadTree : Reader → List ℕ → Shape → Type 0
IsReadTree r k t = reads r k ≡ true

abbrev IsDefinitionTree : List ℕ → Shape → Type 0
IsDefinitionTree k t = TreeObject (TreeEach (IsReadTree reader.Definition)) t

abbrev AreFlagTrees : Shape → Type 0
AreFlagTrees t = TreeObject (TreeEach IsDefinitionTree) t

abbrev IsMemberTree : List ℕ → Shape → Type 0
IsMemberTree k t = (reads reader.Document k ≡ true) × (bytes_eq k (codes "flags") ≡ true → AreFlagTrees t)

put_at : (Q : List ℕ → Shape → Type 0) (k l : List ℕ) (t u : Shape) (ms rest : Members) (o : Ordering) → slice_cmp nat_cmp k l ≡ o → Q k t → Q l u → TreeEach Q ms → TreeEach Q rest
    → TreeEach Q (match_ordering o (member k t (member l u ms)) (member l t ms) (member l u rest))
put_at Q k l t u ms rest Less is new old all more = (new, (old, all))
put_at Q k l t u ms rest Equal is new old all more = (subst (λ n. Q n t) (same_name k l is) new, all)
put_at Q k l t u ms rest Greater is new old all more = (old, more)

put_each : (Q : List ℕ → Shape → Type 0) (k : List ℕ) (t : Shape) (ms : Members) → Q k t → TreeEach Q ms → TreeEach Q (put k t ms)
put_each Q k t no_members new all = (new, tt)
put_each Q k t (member l u ms) new all = put_at Q k l t u ms (put k t ms) (slice_cmp nat_cmp k l) refl new all.0 all.1 (put_each Q k t ms new all.1)

chained : {A B : Type 0} (f : A → Option B) (o : Option A) (b : B) → option_and_then f o ≡ Some b → (a : A) × (o ≡ Some a) × (f a ≡ Some b)
chained f None b e = not_found b e
chained f (Some a) b e = (a, refl, e)

mapped : {A B : Type 0} (f : A → B) (o : Option A) (b : B) → option_map f o ≡ Some b → (a : A) × (o ≡ Some a) × (f a ≡ b)
mapped f None b e = not_found b e
mapped f (Some a) b e = (a, refl, Some_inj (f a) b e)

module _ (P : List ℕ → json.Json → Type 0) (Q : List ℕ → Shape → Type 0) (one : (k : List ℕ) (j : json.Json) (t : Shape) → tree_from j ≡ Some t → P k j → Q k t) where
  each_read : (ms : json.Members) (found us : Members) → members_from ms found ≡ Some us → Each P ms → TreeEach Q found → TreeEach Q us
  each_read json.no_members found us e p q = subst (TreeEach Q) (Some_inj found us e) q
  each_read (json.member k j ms) found us e p q =
      let t = chained (λ t. members_from ms (put k t found)) (tree_from j) us e in
      each_read ms (put k t.0 found) us t.2 p.1 (put_each Q k t.0 found (one k j t.0 t.1 p.0) q)

chosen : (C : Shape → Type 0) → ((n : ℤ) → C (whole n)) → C other → (b : Bool) (n : ℤ) → C (cond b (whole n) other)
chosen C numbers none true n = numbers n
chosen C numbers none false n = none

number_is : (C : Shape → Type 0) → ((n : ℤ) → C (whole n)) → C other → (n : parsed.Num) → C (number_shape n)
number_is C numbers none (parsed.unsigned n) = chosen C numbers none (nat_lt n (2 ^ 53)) (pos n)
number_is C numbers none (parsed.negative z) = chosen C numbers none _ z
number_is C numbers none (parsed.float x) = none

module _ (P : List ℕ → json.Json → Type 0) (Q : List ℕ → Shape → Type 0) (one : (k : List ℕ) (j : json.Json) (t : Shape) → tree_from j ≡ Some t → P k j → Q k t) where
  object_read : (j : json.Json) (t : Shape) → tree_from j ≡ Some t → OfObject (Each P) j → TreeObject (TreeEach Q) t
  object_read json.null t e p = subst (TreeObject (TreeEach Q)) (Some_inj null t e) tt
  object_read (json.boolean b) t e p = subst (TreeObject (TreeEach Q)) (Some_inj (boolean b) t e) tt
  object_read (json.number s) t e p = let m = mapped number_shape (number_of s) t e in subst (TreeObject (TreeEach Q)) m.2 (number_is (TreeObject (TreeEach Q)) (λ n. tt) tt m.0)
  object_read (json.string s) t e p = subst (TreeObject (TreeEach Q)) (Some_inj (text s) t e) tt
  object_read (json.array js) t e p = let m = mapped list (items_from js) t e in subst (TreeObject (TreeEach Q)) m.2 tt
  object_read (json.object ms) t e p =
      let m = mapped object (members_from ms no_members) t e in
      subst (TreeObject (TreeEach Q)) m.2 (each_read P Q one ms no_members m.0 m.1 p tt)

definition_read : (k : List ℕ) (j : json.Json) (t : Shape) → tree_from j ≡ Some t → IsPlainDefinition k j → IsDefinitionTree k t
definition_read k = object_read (IsRead reader.Definition) (IsReadTree reader.Definition) (λ l j t is read. read)

flags_read : (j : json.Json) (t : Shape) → tree_from j ≡ Some t → OfObject ArePlainFlags j → AreFlagTrees t
flags_read = object_read IsPlainDefinition IsDefinitionTree definition_read

document_read : (j : json.Json) (t : Shape) → tree_from j ≡ Some t → IsPlainDocument j → TreeObject (TreeEach IsMemberTree) t
document_read = object_read IsPlainMember IsMemberTree (λ k j t is read. (read.0, λ named. flags_read j t is (read.1 named)))

-- ---- in such a tree each member is read

none_unread : (r : Reader) (Q : List ℕ → Shape → Type 0) → ((k : List ℕ) (t : Shape) → Q k t → reads r k ≡ true) → (ms : Members) → TreeEach Q ms → first_unread r ms ≡ None
none_unread r Q one no_members h = refl
none_unread r Q one (member k t ms) h = ap (λ b. cond b (first_unread r ms) (Some k)) (one k t h.0) ∙ none_unread r Q one ms h.1

definition_is_read : (k : List ℕ) (t : Shape) → IsDefinitionTree k t → is_unread (Some t) ≡ false
definition_is_read k null h = refl
definition_is_read k (boolean b) h = refl
definition_is_read k (whole n) h = refl
definition_is_read k other h = refl
definition_is_read k (text s) h = refl
definition_is_read k (list ts) h = refl
definition_is_read k (object ms) h = ap is_some (none_unread reader.Definition (IsReadTree reader.Definition) (λ l t read. read) ms h)

found_is_read : (b : Bool) (t : Shape) (o : Option Shape) → is_unread (Some t) ≡ false → is_unread o ≡ false → is_unread (cond b (Some t) o) ≡ false
found_is_read true t o h more = h
found_is_read false t o h more = more

each_is_read : (key : List ℕ) (ms : Members) → TreeEach IsDefinitionTree ms → is_unread (find_member key ms) ≡ false
each_is_read key no_members h = refl
each_is_read key (member k t ms) h = found_is_read (bytes_eq k key) t (find_member key ms) (definition_is_read k t h.0) (each_is_read key ms h.1)

abbrev definition_in : List ℕ → Option Shape → Option Shape
definition_in key o = find_member key (or_no_members (option_and_then as_object o))

in_flags : (key : List ℕ) (t : Shape) → AreFlagTrees t → is_unread (definition_in key (Some t)) ≡ false
in_flags key null h = refl
in_flags key (boolean b) h = refl
in_flags key (whole n) h = refl
in_flags key other h = refl
in_flags key (text s) h = refl
in_flags key (list ts) h = refl
in_flags key (object ms) h = each_is_read key ms h

flags_found : (key : List ℕ) (b : Bool) (t : Shape) (o : Option Shape) → (b ≡ true → AreFlagTrees t) → is_unread (definition_in key o) ≡ false → is_unread (definition_in key (cond b (Some t) o)) ≡ false
flags_found key true t o h more = in_flags key t (h refl)
flags_found key false t o h more = more

in_document : (key : List ℕ) (ms : Members) → TreeEach IsMemberTree ms → is_unread (definition_in key (find_member (codes "flags") ms)) ≡ false
in_document key no_members h = refl
in_document key (member k t ms) h = flags_found key (bytes_eq k (codes "flags")) t (find_member (codes "flags") ms) h.0.1 (in_document key ms h.1)

abbrev IsPlainTree : Shape → Type 0
IsPlainTree t = (unread_of reader.Document t ≡ None) × ((key : List ℕ) → is_unread (definition_of t key) ≡ false)

plain_tree : (t : Shape) → TreeObject (TreeEach IsMemberTree) t → IsPlainTree t
plain_tree null h = (refl, λ key. refl)
plain_tree (boolean b) h = (refl, λ key. refl)
plain_tree (whole n) h = (refl, λ key. refl)
plain_tree other h = (refl, λ key. refl)
plain_tree (text s) h = (refl, λ key. refl)
plain_tree (list ts) h = (refl, λ key. refl)
plain_tree (object ms) h = (none_unread reader.Document IsMemberTree (λ k t read. read.0) ms h, λ key. in_document key ms h)

-- ---- the tree of the bytes, with floats and without

abbrev IsPlainRead : Result Shape TextFault → Type 0
IsPlainRead r = IsPlainTree (or_null r)

refused : (e : TextFault) → IsPlainRead (Err e)
refused e = (refl, λ key. refl)

either : (b : Bool) (r s : Result Shape TextFault) → IsPlainRead r → IsPlainRead s → IsPlainRead (cond b r s)
either true r s p q = p
either false r s p q = q

plain_data : (o : Option parsed.Data) → ((d : parsed.Data) → o ≡ Some d → IsPlainTree (shape_of d)) → IsPlainRead (if_json o)
plain_data None h = refused NotJson
plain_data (Some d) h = h d refl

plain_value : (o : Option Shape) → ((t : Shape) → o ≡ Some t → IsPlainTree t) → IsPlainRead (if_tree o)
plain_value None h = refused NotJson
plain_value (Some t) h = h t refl

picked : {A : Type 0} (b : Bool) (o : Option A) (a : A) → cond b o None ≡ Some a → o ≡ Some a
picked true o a e = e
picked false o a e = not_found a e

last_read : (o : Option (json.Json × List Token)) (j : json.Json) → option_and_then (λ p. json.if_last p.0 p.1) o ≡ Some j → o ≡ Some (j, [])
last_read None j e = not_found j e
last_read (Some (i, [])) j e = ap (λ x. Some (x, [])) (Some_inj i j e)
last_read (Some (i, t ∷ ts)) j e = not_found j e

first_same : (p q : json.Json × List Token) → Some p ≡ Some q → p.0 ≡ q.0
first_same p q e = ap (λ x. x.0) (Some_inj p q e)

-- in a document of these bytes each member of it and of its definitions is read
pub record IsPlain (floats : Bool) (bytes : List ℕ) : Type 0 where
  pub document : unread_of reader.Document (tree_in floats bytes) ≡ None
  pub definitions : (key : List ℕ) → is_unread (definition_of (tree_in floats bytes) key) ≡ false

module _ (bytes : List ℕ) (told : are_all_read (json_of bytes) ≡ true) where
  -- the value of the bytes is the one of which it is told
  plain : (j : json.Json) → value_in bytes ≡ Some j → IsPlainDocument j
  plain j e =
      let it = same_document (json_of bytes) told in
      let object = json.object it.0 in
      let there = last_read (json.value json.max_depth (tokens bytes)) object (picked (is_utf8 bytes) (json.document bytes) object it.1) in
      let here = last_read (json.value json_levels (tokens bytes)) j e in
      subst IsPlainDocument (first_same (object, []) (j, []) (one_reading json.max_depth json_levels (tokens bytes) (object, []) (j, []) there here)) it.2

  from_value : (f : json.Json → json.Json) → ((j : json.Json) → IsPlainDocument j → IsPlainDocument (f j)) → (t : Shape) → option_and_then (λ j. tree_from (f j)) (value_in bytes) ≡ Some t → IsPlainTree t
  from_value f stays t e =
      let c = chained (λ j. tree_from (f j)) (value_in bytes) t e in
      plain_tree t (document_read (f c.0) t c.2 (stays c.0 (plain c.0 c.1)))

  from_text : (d : parsed.Data) → reading.json_of bytes ≡ Some d → IsPlainTree (shape_of d)
  unfolding reading.json_of
  from_text d e =
      let is : read bytes ≡ Some d = picked (is_utf8 bytes) (read bytes) d e in
      from_value (λ j. j) (λ j h. h) (shape_of d) (sym (tree_reads bytes) ∙ ap (option_map shape_of) is)

  tree : (floats : Bool) → IsPlainTree (tree_in floats bytes)
  tree true =
      let value = plain_value (option_and_then (λ j. tree_from (with_texts j)) (value_in bytes)) (from_value with_texts document_stays) in
      either (nat_lt 4194304 (length bytes)) (Err TooLarge) (cond (is_utf8 bytes) (text_with_floats bytes) (Err NotJson)) (refused TooLarge)
      (either (is_utf8 bytes) (text_with_floats bytes) (Err NotJson) value (refused NotJson))
  tree false = either (nat_lt 4194304 (length bytes)) (Err TooLarge) (if_json (reading.json_of bytes)) (refused TooLarge) (plain_data (reading.json_of bytes) from_text)

  pub plainly : (floats : Bool) → IsPlain floats bytes
  plainly floats = record { document = (tree floats).0; definitions = (tree floats).1 }
