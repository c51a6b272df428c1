-- The flags of a document with floats, of which its marks say so, have variants that are the spelling of floats.
use Rattle.std.proofs.Common.{◌≡◌, ℕ, List, [], ◌∷◌, length, codes, fold, Bool, true, false, ◌&&◌, ◌||◌, cond, nat_lt, Option, Some, None, option_and_then, Result, Ok, Err, refl, sym, ap, ap₂, ◌∙◌, subst}
use Rattle.std.specs.Prelude.{if◌then◌else◌}
use Rattle.std.specs.List.{AllByRecursion}
use Rattle.std.specs.Cmp.Lexicographic.{slice_cmp}
use Rattle.std.specs.Ordering.{nat_cmp}
use Rattle.std.specs.Str.{bytes_eq, is_utf8}
use Rattle.json.specs.Find.{get, get_member, later_or}
use Rattle.json.specs.Json as json
use Rattle.json.specs.Lex.{tokens}
use Rattle.json.specs.Token.{Token}
use Rattle.json.specs.Tree.{HasNumbers, MembersHaveNumbers}
use Rattle.json.proofs.Numbered.{ArePrintableOrBad-tokens, HasNumbers-get, value-HasNumbers}
use Rattle.flag_text.proofs.Bools.{left, right}
use Rattle.flag_text.proofs.Halving.{names_rise-whole}
use Rattle.flag_text.specs.Grammar.{tree_from, members_from, value_in}
use Rattle.flag_text.specs.Reading.{json_levels}
use Rattle.flag_text.specs.Readers.{as_object, find_member, member_of}
use Rattle.flag_text.specs.Shape.{Shape, null, boolean, whole, other, text, list, object, Members, no_members, member, comes_first, names_rise}
use Rattle.flag_text.specs.declared.fault.TextFault.{TextFault}
use Rattle.flag_text.specs.declared.fault.TextFault.TheVariants as text_fault
use Rattle.flag_text.specs.declared.fault.TextFault.TheVariants.{NotJson, TooLarge}
use Rattle.spelled_numbers.specs.Floats.{each_member, has_floats, in_object, of_document, of_flag, of_flags, of_variants, with_texts}
use Rattle.spelled_numbers.specs.Marks.{are_floats_in, if_flags, if_floats, marks_among, marks_in, marks_of, marks_of_text, marks_or_none}
use Rattle.spelled_numbers.specs.Reading.{doc_with_floats, if_tree, text_with_floats}
use Rattle.flag_defs.specs.Definition.{Definition, IsGood, Means, Rules, are_variants, broken, good, variants_of}
use Rattle.flag_defs.specs.Document.{AllMean, Definitions, FlagsMean, TextMeans, evaluators_in, flags_in, max_bytes, max_flags, printed}
use Rattle.flag_defs.specs.Entries.{AreMeant}
use Rattle.flag_defs.specs.Floats.{Marks, mark_of, marked, marked_with}
use Rattle.flag_defs.specs.SpelledLaw.{AreMarked, AreSpelled, DocumentsAreMarked, IsMarked, IsSpelled, MayBeMarked, as_texts}
use Rattle.flag_defs.specs.declared.fault.DefFault.{DefFault}
use Rattle.flag_defs.specs.declared.fault.DefFault.TheVariants as def_fault
use Rattle.flag_defs.proofs.Lasts.{is_less, member_read, members_rise, object_read, one_name, same_name}
use Rattle.flag_defs.proofs.Lawful.{whole_variants}
use Rattle.flag_defs.proofs.Marked.{told}
use Rattle.flag_defs.proofs.SortedTexts.{before_first, floats_sorted, numbers_sorted, other_name, sorted, texts_sorted}

-- ---- the variants of a flag

here : (b : Bool) (i j : json.Json) → b ≡ true → cond b i j ≡ i
here b i j e = ap (λ (c : Bool). cond c i j) e

one_list : (a b : Members) → ◌≡◌ {A = Option Members} (Some a) (Some b) → a ≡ b
one_list a b e = cc

spelled_variants : (j : json.Json) (vs : Members) → HasNumbers j → has_floats j ≡ true → tree_from (of_flag (codes "variants") j) ≡ Some (object vs) → names_rise vs ≡ true → AreSpelled vs
spelled_variants j vs n h e r =
    let o = object_read of_variants j vs (ap tree_from (sym (here (has_floats j) (in_object of_variants j) j h)) ∙ e) in
    let js = o.0 in
    let same = one_list (as_texts (sorted js json.no_members)) vs (sym (texts_sorted js json.no_members) ∙ o.2) in (
      sorted js json.no_members,
      numbers_sorted js json.no_members (subst HasNumbers o.1 n) tt,
      floats_sorted js (ap names_rise same ∙ r) (ap has_floats (sym o.1) ∙ h),
      same,
    )

variants_are : (o : Option Shape) (vs : Members) → variants_of o ≡ Some vs → o ≡ Some (object vs)
variants_are None vs e = cc
variants_are (Some null) vs e = cc
variants_are (Some (boolean b)) vs e = cc
variants_are (Some (whole n)) vs e = cc
variants_are (Some other) vs e = cc
variants_are (Some (text s)) vs e = cc
variants_are (Some (list ts)) vs e = cc
variants_are (Some (object ms)) vs e = by (are_variants ms) e
  where
    by : (b : Bool) → cond b (Some ms) None ≡ Some vs → Some (object ms) ≡ Some (object vs)
    by true p = ap (λ (xs : Members). Some (object xs)) (one_list ms vs p)
    by false p = cc

good_variants : (o : Option Shape) (vs : Members) → variants_of o ≡ Some vs → are_variants vs ≡ true
good_variants None vs e = cc
good_variants (Some null) vs e = cc
good_variants (Some (boolean b)) vs e = cc
good_variants (Some (whole n)) vs e = cc
good_variants (Some other) vs e = cc
good_variants (Some (text s)) vs e = cc
good_variants (Some (list ts)) vs e = cc
good_variants (Some (object ms)) vs e = by (are_variants ms) refl e
  where
    by : (b : Bool) → are_variants ms ≡ b → cond b (Some ms) None ≡ Some vs → are_variants vs ≡ true
    by true q p = ap are_variants (sym (one_list ms vs p)) ∙ q
    by false q p = cc

-- ---- a flag

spelled_good : (evaluators : Members) (j : json.Json) (ms : Members) (r : Rules) → HasNumbers j → tree_from (in_object of_flag j) ≡ Some (object ms) → IsGood evaluators ms r → IsSpelled (good r) (are_floats_in j)
spelled_good evaluators j ms r n e g =
    let o = object_read of_flag j ms e in
    let found = variants_are (find_member (codes "variants") ms) r.variants g.variants in
    let v = member_read of_flag (codes "variants") o.0 ms (object r.variants) o.2 found in
    let marks : are_floats_in j ≡ has_floats v.0 = ap are_floats_in o.1 ∙ ap if_floats v.1 in
    let numbers = HasNumbers-get (codes "variants") j v.0 n (sym (ap (get (codes "variants")) o.1 ∙ v.1)) in
    subst (IsSpelled (good r)) (sym marks) (by v.0 numbers v.2 (has_floats v.0) refl)
  where
    by : (i : json.Json) → HasNumbers i → tree_from (of_flag (codes "variants") i) ≡ Some (object r.variants) → (b : Bool) → has_floats i ≡ b → IsSpelled (good r) b
    by i m t false p = tt
    by i m t true p = spelled_variants i r.variants m p t (names_rise-whole r.variants (whole_variants r.variants (good_variants (find_member (codes "variants") ms) r.variants g.variants)))

spelled_flag : (evaluators : Members) (j : json.Json) (t : Shape) (d : Definition) → HasNumbers j → tree_from (in_object of_flag j) ≡ Some t → Means evaluators t d → IsSpelled d (marked_with d (are_floats_in j))
spelled_flag evaluators j t broken n e m = tt
spelled_flag evaluators j null (good r) n e m = absurd m
spelled_flag evaluators j (boolean b) (good r) n e m = absurd m
spelled_flag evaluators j (whole z) (good r) n e m = absurd m
spelled_flag evaluators j other (good r) n e m = absurd m
spelled_flag evaluators j (text s) (good r) n e m = absurd m
spelled_flag evaluators j (list ts) (good r) n e m = absurd m
spelled_flag evaluators j (object ms) (good r) n e m = spelled_good evaluators j ms r n e m

-- ---- the flags

-- what the marks say of a key is what is known of its last flag
abbrev mark_or : Option json.Json → Bool → Bool
mark_or None b = b
mark_or (Some j) b = are_floats_in j

one_mark : (g : Option json.Json) (b : Bool) (j : json.Json) (before : Bool) → mark_or g (if b then are_floats_in j else before) ≡ mark_or (later_or g (cond b (Some j) None)) before
one_mark (Some i) b j before = refl
one_mark None true j before = refl
one_mark None false j before = refl

last_mark : (key : List ℕ) (ms : json.Members) (before : Bool) → fold (told key) before (marks_of ms) ≡ mark_or (get_member key ms) before
last_mark key json.no_members before = refl
last_mark key (json.member k j ms) before = last_mark key ms (told key before (k, are_floats_in j)) ∙ one_mark (get_member key ms) (bytes_eq k key) j before

its_mark : (key : List ℕ) (ms : json.Members) (j : json.Json) → get_member key ms ≡ Some j → mark_of key (marks_of ms) ≡ are_floats_in j
its_mark key ms j e = last_mark key ms false ∙ ap (λ (g : Option json.Json). mark_or g false) e

-- a name in front is none of the names
not_found : (k : List ℕ) (ms : Members) → comes_first k ms ≡ true → names_rise ms ≡ true → find_member k ms ≡ None
not_found k no_members h r = refl
not_found k (member l t ms) h r =
    let less = is_less (slice_cmp nat_cmp k l) h in
    let rest = not_found k ms (before_first k l ms less (left (comes_first l ms) (names_rise ms) r)) (right (comes_first l ms) (names_rise ms) r) in
    ap₂ (λ (b : Bool) (o : Option Shape). cond b (Some t) o) (other_name k l less) rest

-- what is found behind the first is found
found_later : (name k : List ℕ) (t u : Shape) (ms : Members) → names_rise (member k t ms) ≡ true → find_member name ms ≡ Some u → find_member name (member k t ms) ≡ Some u
found_later name k t u ms r e = by (bytes_eq k name) refl
  where
    by : (b : Bool) → bytes_eq k name ≡ b → cond b (Some t) (find_member name ms) ≡ Some u
    by false p = e
    by true p =
        let none = not_found k ms (left (comes_first k ms) (names_rise ms) r) (right (comes_first k ms) (names_rise ms) r) in
        let gone : find_member name ms ≡ None = ap (λ (x : List ℕ). find_member x ms) (sym (same_name k name p)) ∙ none in
        cc

first_found : (k : List ℕ) (t : Shape) (ms : Members) → find_member k (member k t ms) ≡ Some t
first_found k t ms = ap (λ (b : Bool). cond b (Some t) (find_member k ms)) (one_name k k refl)

spelled_flags : (evaluators : Members) (js : json.Members) (all rest : Members) (fs : Definitions) → MembersHaveNumbers js → members_from (each_member of_flags js) no_members ≡ Some all
    → ((name : List ℕ) (t : Shape) → find_member name rest ≡ Some t → find_member name all ≡ Some t) → names_rise rest ≡ true → AllMean evaluators rest fs
    → AllByRecursion (λ f. IsSpelled f.1 (marked_with f.1 (mark_of f.0 (marks_of js)))) fs
spelled_flags evaluators js all no_members [] n e within r m = tt
spelled_flags evaluators js all no_members (f ∷ fs) n e within r m = absurd m
spelled_flags evaluators js all (member k t rest) [] n e within r m = absurd m
spelled_flags evaluators js all (member k t rest) (f ∷ fs) n e within r m =
    let o = member_read of_flags k js all t e (within k t (first_found k t rest)) in
    let numbers = HasNumbers-get k (json.object js) o.0 n (sym o.1) in
    let mark : mark_of f.0 (marks_of js) ≡ are_floats_in o.0 = its_mark f.0 js o.0 (ap (λ (x : List ℕ). get_member x js) m.0 ∙ o.1) in (
      subst (λ (b : Bool). IsSpelled f.1 (marked_with f.1 b)) (sym mark) (spelled_flag evaluators o.0 t f.1 numbers o.2 m.1),
      spelled_flags evaluators js all rest fs n e (λ name u found. within name u (found_later name k t u rest r found)) (right (comes_first k rest) (names_rise rest) r) m.2,
    )

-- ---- the document

object_in : (o : Option Shape) (ms : Members) → option_and_then as_object o ≡ Some ms → o ≡ Some (object ms)
object_in None ms e = cc
object_in (Some null) ms e = cc
object_in (Some (boolean b)) ms e = cc
object_in (Some (whole n)) ms e = cc
object_in (Some other) ms e = cc
object_in (Some (text s)) ms e = cc
object_in (Some (list ts)) ms e = cc
object_in (Some (object xs)) ms e = let same : xs ≡ ms = cc in ap (λ (x : Members). Some (object x)) same

flags_among : (t : Shape) (ms : Members) → flags_in t ≡ Some ms → (all : Members) × (t ≡ object all) × (find_member (codes "flags") all ≡ Some (object ms))
flags_among null ms e = cc
flags_among (boolean b) ms e = cc
flags_among (whole n) ms e = cc
flags_among other ms e = cc
flags_among (text s) ms e = cc
flags_among (list ts) ms e = cc
flags_among (object all) ms e = (all, refl, object_in (find_member (codes "flags") all) ms e)

spelled_document : (evaluators : Members) (t : Shape) (marks : Marks) (ms : Members) (fs : Definitions) → IsMarked t marks → flags_in t ≡ Some ms → AllMean evaluators ms fs
    → AllByRecursion (λ f. IsSpelled f.1 (marked_with f.1 (mark_of f.0 marks))) fs
spelled_document evaluators t marks ms fs is e m =
    let top = flags_among t ms e in
    let document = object_read of_document is.0 top.0 (is.2 ∙ ap Some top.1) in
    let flags = member_read of_document (codes "flags") document.0 top.0 (object ms) document.2 top.2 in
    let inner = object_read of_flags flags.0 ms flags.2 in
    let numbers = HasNumbers-get (codes "flags") is.0 flags.0 is.1 (sym (ap (get (codes "flags")) document.1 ∙ flags.1)) in
    let same : marks ≡ marks_of inner.0 = is.3 ∙ (ap marks_in document.1 ∙ (ap if_flags flags.1 ∙ ap marks_among inner.1)) in
    let rise = members_rise (each_member of_flags inner.0) no_members ms inner.2 refl in
    subst (λ (x : Marks). AllByRecursion (λ f. IsSpelled f.1 (marked_with f.1 (mark_of f.0 x))) fs) (sym same)
    (spelled_flags evaluators inner.0 ms ms fs (subst HasNumbers inner.1 numbers) inner.2 (λ name u found. found) rise m)

pub flags_may_be_marked : (t : Shape) (marks : Marks) (fs : Definitions) → IsMarked t marks → AreMeant (evaluators_in t) (flags_in t) fs → MayBeMarked marks fs
flags_may_be_marked t marks fs is m = by (flags_in t) refl m
  where
    by : (o : Option Members) → flags_in t ≡ o → AreMeant (evaluators_in t) o fs → MayBeMarked marks fs
    by None e h = absurd h
    by (Some ms) e h = spelled_document (evaluators_in t) t marks ms fs is e h

-- ---- what the bytes of a document are read as

one_value : (i j : json.Json) (rest : List Token) → json.if_last i rest ≡ Some j → i ≡ j
one_value i j [] e = cc
one_value i j (x ∷ rest) e = cc

pub numbers_in : (bytes : List ℕ) (j : json.Json) → value_in bytes ≡ Some j → HasNumbers j
numbers_in bytes j e = by (json.value json_levels (tokens bytes)) refl e
  where
    by : (o : Option (json.Json × List Token)) → json.value json_levels (tokens bytes) ≡ o → option_and_then (λ p. json.if_last p.0 p.1) o ≡ Some j → HasNumbers j
    by None is h = cc
    by (Some p) is h = subst HasNumbers (one_value p.0 j p.1 h) (value-HasNumbers json_levels (tokens bytes) p.1 p.0 (ArePrintableOrBad-tokens bytes) is)

its_tree : (o : Option Shape) (t : Shape) → if_tree o ≡ Ok t → o ≡ Some t
its_tree None t e = cc
its_tree (Some u) t e = let same : u ≡ t = cc in ap Some same

text_is : (many is_text : Bool) (r : Result Shape TextFault) (t : Shape) → (if many then Err TooLarge else (if is_text then r else Err NotJson)) ≡ Ok t → r ≡ Ok t
text_is true is_text r t e = cc
text_is false true r t e = e
text_is false false r t e = cc

pub read_marked : (bytes : List ℕ) (limit : ℕ) (t : Shape) → doc_with_floats bytes limit ≡ Ok t → (j : json.Json) × (value_in bytes ≡ Some j) × HasNumbers j × (tree_from (with_texts j) ≡ Some t)
read_marked bytes limit t e = by (value_in bytes) refl (text_is (nat_lt limit (length bytes)) (is_utf8 bytes) (text_with_floats bytes) t e)
  where
    by : (o : Option json.Json) → value_in bytes ≡ o → if_tree (option_and_then (λ j. tree_from (with_texts j)) o) ≡ Ok t
        → (j : json.Json) × (value_in bytes ≡ Some j) × HasNumbers j × (tree_from (with_texts j) ≡ Some t)
    by None is h = cc
    by (Some j) is h = (j, is, numbers_in bytes j is, its_tree (tree_from (with_texts j)) t h)

-- ---- the law

each_marked : (fs : Definitions) (marks : Marks) → AllByRecursion (λ f. IsSpelled f.1 (marked_with f.1 (mark_of f.0 marks))) fs → AreMarked fs (marked marks fs)
each_marked [] marks h = tt
each_marked (f ∷ fs) marks h = (refl, h.0, each_marked fs marks h.1)

not_limited : (few small : Bool) (fs gs : Definitions) → ◌≡◌ {A = Result Definitions DefFault} (Ok fs) (if few || small then Err def_fault.TooLarge else Ok gs) → gs ≡ fs
not_limited true small fs gs e = cc
not_limited false true fs gs e = cc
not_limited false false fs gs e = cc

flags_marked : (t : Shape) (marks : Marks) (fs : Definitions) → IsMarked t marks → (o : Option Members) → flags_in t ≡ o → FlagsMean (evaluators_in t) o (Ok fs) → AreMarked fs (marked marks fs)
flags_marked t marks fs is None e m = cc
flags_marked t marks fs is (Some ms) e m =
    let same = not_limited (nat_lt max_flags (length m.0)) (nat_lt max_bytes (length (printed m.0))) fs m.0 m.2 in
    subst (λ (gs : Definitions). AreMarked gs (marked marks gs)) same (each_marked m.0 marks (spelled_document (evaluators_in t) t marks ms m.0 is e m.1))

text_marked : (bytes : List ℕ) (fs : Definitions) (r : Result Shape TextFault) → doc_with_floats bytes max_bytes ≡ r → TextMeans r (Ok fs) → AreMarked fs (marked (marks_of_text bytes) fs)
text_marked bytes fs (Err text_fault.WantOfMemory) e m = cc
text_marked bytes fs (Err text_fault.TooLarge) e m = cc
text_marked bytes fs (Err text_fault.NotJson) e m = cc
text_marked bytes fs (Err text_fault.TooDeep) e m = cc
text_marked bytes fs (Err text_fault.NotWhole) e m = cc
text_marked bytes fs (Ok t) e m =
    let j = read_marked bytes max_bytes t e in flags_marked t (marks_of_text bytes) fs (j.0, j.2, j.3, ap marks_or_none j.1) (flags_in t) refl m

pub documents_are_marked : DocumentsAreMarked
documents_are_marked bytes fs m = text_marked bytes fs (doc_with_floats bytes max_bytes) refl m
