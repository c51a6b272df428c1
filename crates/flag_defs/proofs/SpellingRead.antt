-- What is printed for flags of which some have floats is read as these flags, with their marks.
use Rattle.std.proofs.Common.{◌≡◌, ℕ, suc, ◌≤◌, max, List, [], ◌∷◌, codes, length, map, fold, Bool, true, false, not, ◌&&◌, ◌||◌, cond, nat_lt, nat_le, Option, Some, None, option_and_then, Result, Ok, Err, Ordering, Less, Greater, refl, sym, ap, ap₂, ◌∙◌, subst, arith, append-nil, inl, inr}
use Rattle.std.specs.Prelude.{if◌then◌else◌}
use Rattle.std.specs.Cmp.Lexicographic.{slice_cmp}
use Rattle.std.specs.List.{AllByRecursion}
use Rattle.std.specs.List.Sorted.{IsStrictlySortedBy}
use Rattle.std.specs.Map.{keys_of}
use Rattle.std.specs.Ordering.{is_eq, nat_cmp, ordering_reverse}
use Rattle.std.specs.Str.{bytes_eq, is_utf8}
use Rattle.std.proofs.lemmas.Bool.{le-ltb}
use Rattle.std.proofs.lemmas.Cmp.{nat_list_cmp_total}
use Rattle.std.proofs.lemmas.Grind.{common_steps}
use Rattle.std.proofs.lemmas.List.Elements.{recursion_from_All}
use Rattle.std.proofs.lemmas.Map.Text.{is_eq-slice_cmp}
use Rattle.std.proofs.lemmas.Slice.Eq.{bytes_eq-Decides}
use Rattle.json.specs.Json as json
use Rattle.json.specs.Lex.{tokens}
use Rattle.json.specs.Print.{print}
use Rattle.json.specs.Tree.{HasNumbers, MembersHaveNumbers, depth, json_tokens, members_depth}
use Rattle.json.proofs.Printed.Tokens.{tokens-print}
use Rattle.json.proofs.Printed.Trees.{ArePrintable-json_tokens, value-json_tokens}
use Rattle.flag_text.proofs.Bools.{left, right}
use Rattle.flag_text.specs.Grammar.{tree_from, value_in, written, members_written}
use Rattle.flag_text.specs.Reading.{json_levels}
use Rattle.flag_text.specs.Shape.{Shape, object, members_levels, levels, is_whole, members_are_whole}
use Rattle.flag_text.specs.declared.fault.TextFault.{TextFault}
use Rattle.flag_text.specs.declared.fault.TextFault.TheVariants.{NotJson, TooLarge}
use Rattle.spelled_numbers.specs.Floats.{all_counting, are_within, has_whole_numbers, is_number, is_object, member_count as json_count, with_texts}
use Rattle.spelled_numbers.specs.Marks.{marks_of_text, marks_or_none}
use Rattle.spelled_numbers.specs.Reading.{doc_with_floats, if_tree, text_with_floats}
use Rattle.logic_ast.specs.Expression.{Expression}
use Rattle.logic_ast.specs.Size.{expression_size, is_too_big}
use Rattle.logic_ast.specs.Formed.{is_formed}
use Rattle.logic_ast.specs.Writing as writing
use Rattle.flag_defs.specs.Definition.{Rules, Definition, broken, good, are_of_one_kind, are_variants, member_count}
use Rattle.flag_defs.specs.Document.{Definitions, TextMeans, definitions_written, max_bytes, printed, state_text}
use Rattle.flag_defs.specs.Flag.{is_broken, is_definition}
use Rattle.flag_defs.specs.Flags.{AreFlags}
use Rattle.flag_defs.specs.Floats.{Marks, are_unmarked, mark_of, marked, marked_entry, marked_with}
use Rattle.flag_defs.specs.Law.{document_written}
use Rattle.flag_defs.specs.Rules.{are_rules, are_targetings, is_default}
use Rattle.flag_defs.specs.Spelled.{flags_spelled, printed_with_floats}
use Rattle.flag_defs.specs.SpelledLaw.{AreMarked, IsSpelled, PrintedWithFloatsReadsBack}
use Rattle.flag_defs.proofs.Deep.{levels-read}
use Rattle.flag_defs.proofs.Grown.{texts_grow}
use Rattle.flag_defs.proofs.Law.{all-back, limited-back}
use Rattle.flag_defs.proofs.Lawful.{whole_rules}
use Rattle.flag_defs.proofs.Marked.{told}
use Rattle.flag_defs.proofs.Printed.{formed_targeting, targetings_of, whole_document, whole_targeting}
use Rattle.flag_defs.proofs.Spelling.{document_json, document_marks, document_plain, document_texts, flag_json, flags_json, members_json, variants_json}
use Rattle.flag_defs.proofs.SpellingPrinted.{document_printed}
use Rattle.flag_defs.proofs.Targetings.{shallow}
use Rattle.flag_defs.proofs.Unreferred.{false_of_not}
use Rattle.flag_defs.proofs.Written.{depth-written, members_numbers-written, numbers-written, print-written, tree_from-written}

-- ---- its numbers are numbers

variants_numbers : (r : Rules) (b : Bool) (s : IsSpelled (good r) b) → are_rules r ≡ true → MembersHaveNumbers (variants_json r b s)
variants_numbers r false s h = members_numbers-written r.variants (whole_rules r h)
variants_numbers r true s h = s.1

members_numbers : (d : Option (List ℕ)) (state : List ℕ) (e : Option Expression) (v : json.Members) → are_targetings e ≡ true → MembersHaveNumbers v → MembersHaveNumbers (members_json d state e v)
members_numbers None state None v h n = (tt, (n, tt))
members_numbers None state (Some e) v h n = (tt, (numbers-written (writing.written e) (whole_targeting e h), (n, tt)))
members_numbers (Some x) state None v h n = (tt, (tt, (n, tt)))
members_numbers (Some x) state (Some e) v h n = (tt, (tt, (numbers-written (writing.written e) (whole_targeting e h), (n, tt))))

flag_numbers : (d : Definition) (b : Bool) (s : IsSpelled d b) → is_definition d ≡ true → HasNumbers (flag_json d b s)
flag_numbers broken false s h = tt
flag_numbers broken true s h = absurd s
flag_numbers (good r) b s h = members_numbers r.default_variant (state_text r) r.targeting (variants_json r b s) (targetings_of r h) (variants_numbers r b s h)

flags_numbers : (fs : Definitions) (ms : Marks) (h : AreMarked fs ms) → AllByRecursion (λ f. is_definition f.1 ≡ true) fs → MembersHaveNumbers (flags_json fs ms h)
flags_numbers [] [] h l = tt
flags_numbers [] (m ∷ ms) h l = absurd h
flags_numbers (f ∷ fs) [] h l = absurd h
flags_numbers (f ∷ fs) (m ∷ ms) h l = (flag_numbers f.1 m.1 h.1 l.0, flags_numbers fs ms h.2 l.1)

-- ---- how deep it nests

test_le : (n k : ℕ) → nat_le n k ≡ true → n ≤ k
test_le n k h = grind (arith, common_steps, h)

pub test_lt : (n k : ℕ) → nat_lt n k ≡ true → suc n ≤ k
test_lt n k h = grind (arith, common_steps, h)

plain_depth : (r : Rules) → are_rules r ≡ true → members_depth (members_written r.variants) ≤ 100
plain_depth r h =
    let vs = r.variants in
    let all = left (are_variants vs) (is_default vs r.default_variant && are_targetings r.targeting) h in
    let kinds = right (nat_le 1 (member_count vs) && nat_le (member_count vs) 64) (are_of_one_kind vs && (is_whole (object vs) && nat_le (levels (object vs)) 100)) all in
    let numbers = right (are_of_one_kind vs) (is_whole (object vs) && nat_le (levels (object vs)) 100) kinds in
    let flat = test_le (levels (object vs)) 100 (right (is_whole (object vs)) (nat_le (levels (object vs)) 100) numbers) in
    omega (arith, flat, depth-written (object vs))

variants_depth : (r : Rules) (b : Bool) (s : IsSpelled (good r) b) → are_rules r ≡ true → members_depth (variants_json r b s) ≤ 100
variants_depth r false s h = plain_depth r h
variants_depth r true s h =
    let ms = s.0 in
    let inside = left (are_within ms) ((all_counting is_number ms || all_counting is_object ms) && not (all_counting has_whole_numbers ms)) s.2 in
    let flat = test_lt (members_depth ms) 100 (right (nat_le (json_count ms) 64) (nat_lt (members_depth ms) 100) inside) in
    omega (arith, flat)

targeting_depth : (e : Expression) → are_targetings (Some e) ≡ true → depth (written (writing.written e)) ≤ 101
targeting_depth e h =
    let small = false_of_not (is_too_big (writing.written e)) (right (is_formed 0 e) (not (is_too_big (writing.written e))) (formed_targeting e h)) in
    omega (arith, depth-written (writing.written e), levels-read (writing.written e), shallow (expression_size (writing.written e)) small)

members_deep : (d : Option (List ℕ)) (state : List ℕ) (e : Option Expression) (v : json.Members) → are_targetings e ≡ true → members_depth v ≤ 100 → members_depth (members_json d state e v) ≤ 101
members_deep None state None v h n = omega (arith, n)
members_deep None state (Some e) v h n = omega (arith, n, targeting_depth e h)
members_deep (Some x) state None v h n = omega (arith, n)
members_deep (Some x) state (Some e) v h n = omega (arith, n, targeting_depth e h)

flag_deep : (d : Definition) (b : Bool) (s : IsSpelled d b) → is_definition d ≡ true → depth (flag_json d b s) ≤ 102
flag_deep broken false s h = omega arith
flag_deep broken true s h = absurd s
flag_deep (good r) b s h =
    let inner = members_deep r.default_variant (state_text r) r.targeting (variants_json r b s) (targetings_of r h) (variants_depth r b s h) in
    omega (arith, inner)

flags_deep : (fs : Definitions) (ms : Marks) (h : AreMarked fs ms) → AllByRecursion (λ f. is_definition f.1 ≡ true) fs → members_depth (flags_json fs ms h) ≤ 102
flags_deep [] [] h l = omega arith
flags_deep [] (m ∷ ms) h l = absurd h
flags_deep (f ∷ fs) [] h l = absurd h
flags_deep (f ∷ fs) (m ∷ ms) h l = omega (arith, flag_deep f.1 m.1 h.1 l.0, flags_deep fs ms h.2 l.1)

document_deep : (fs : Definitions) (ms : Marks) (h : AreMarked fs ms) → AllByRecursion (λ f. is_definition f.1 ≡ true) fs → depth (document_json fs ms h) ≤ json_levels
document_deep fs ms h l = omega (arith, flags_deep fs ms h l)

-- ---- it is the value of what is printed

pub value_back : (j : json.Json) → HasNumbers j → depth j ≤ json_levels → value_in (print (json_tokens j)) ≡ Some j
value_back j numbers deep =
    ap (option_and_then (λ p. json.if_last p.0 p.1))
    (ap (json.value json_levels) (tokens-print (json_tokens j) (ArePrintable-json_tokens j numbers) ∙ sym (append-nil (json_tokens j))) ∙ value-json_tokens j json_levels [] deep)

chosen : (b : Bool) (x p q : List ℕ) → (b ≡ true → x ≡ p) → (b ≡ false → x ≡ q) → x ≡ (if b then p else q)
chosen true x p q f g = f refl
chosen false x p q f g = g refl

-- bytes that are not too many, and text
within : (many is_text : Bool) (r : Result Shape TextFault) (t : Shape) → many ≡ false → is_text ≡ true → r ≡ Ok t → (if many then Err TooLarge else (if is_text then r else Err NotJson)) ≡ Ok t
within many is_text r t p q e = rw (p, q) e

-- ---- the marks are found by the keys

same_key : (k l : List ℕ) → k ≡ l → bytes_eq k l ≡ true
same_key k l e = (bytes_eq-Decides k l).1 e

other_key : (k l : List ℕ) → slice_cmp nat_cmp k l ≡ Less → bytes_eq l k ≡ false
other_key k l e = sym (is_eq-slice_cmp l k) ∙ ap is_eq (nat_list_cmp_total.antisymm l k ∙ ap ordering_reverse e)

keys_marked : (fs : Definitions) (ms : Marks) → AreMarked fs ms → keys_of ms ≡ keys_of fs
keys_marked [] [] h = refl
keys_marked [] (m ∷ ms) h = absurd h
keys_marked (f ∷ fs) [] h = absurd h
keys_marked (f ∷ fs) (m ∷ ms) h = ap₂ (λ (k : List ℕ) (ks : List (List ℕ)). k ∷ ks) h.0 (keys_marked fs ms h.2)

not_told : (b x found : Bool) → b ≡ false → (if b then x else found) ≡ found
not_told b x found e = ap (λ (c : Bool). if c then x else found) e

is_told : (b x found : Bool) → b ≡ true → (if b then x else found) ≡ x
is_told b x found e = ap (λ (c : Bool). if c then x else found) e

-- marks of later keys say nothing of a key
later_marks : (key : List ℕ) (found : Bool) (ms : Marks) → AllByRecursion (λ y. slice_cmp nat_cmp key y ≡ Less) (keys_of ms) → fold (told key) found ms ≡ found
later_marks key found [] h = refl
later_marks key found (m ∷ ms) h =
    later_marks key (told key found m) ms h.1 ∙ not_told (bytes_eq m.0 key) m.1 found (other_key key m.0 h.0)

own_mark : (d : Definition) (b : Bool) → IsSpelled d b → marked_with d b ≡ b
own_mark broken false s = refl
own_mark broken true s = absurd s
own_mark (good r) false s = refl
own_mark (good r) true s = refl

each_mark : (fs : Definitions) (ms : Marks) → AreMarked fs ms → IsStrictlySortedBy (slice_cmp nat_cmp) (keys_of fs) → (before : List ℕ → Bool)
    → map (λ (f : List ℕ × Definition). let m : List ℕ × Bool = (f.0, marked_with f.1 (fold (told f.0) (before f.0) ms)) in m) fs ≡ ms
unfolding IsStrictlySortedBy
each_mark [] [] h s before = refl
each_mark [] (m ∷ ms) h s before = absurd h
each_mark (f ∷ fs) [] h s before = absurd h
each_mark (f ∷ fs) (m ∷ ms) h s before =
    let above = subst (AllByRecursion (λ y. slice_cmp nat_cmp f.0 y ≡ Less)) (sym (keys_marked fs ms h.2)) s.0 in
    let found = later_marks f.0 (told f.0 (before f.0) m) ms above ∙ is_told (bytes_eq m.0 f.0) m.1 (before f.0) (same_key m.0 f.0 h.0) in
    ap₂ (λ (p : List ℕ × Bool) (ps : Marks). p ∷ ps)
    (ap₂ (λ (k : List ℕ) (b : Bool). let p : List ℕ × Bool = (k, b) in p) (sym h.0) (ap (marked_with f.1) found ∙ own_mark f.1 m.1 h.1))
    (each_mark fs ms h.2 s.1 (λ (key : List ℕ). told key (before key) m))

marks_found : (fs : Definitions) (ms : Marks) → AreMarked fs ms → IsStrictlySortedBy (slice_cmp nat_cmp) (keys_of fs) → marked ms fs ≡ ms
marks_found fs ms h s = each_mark fs ms h s (λ (key : List ℕ). false)

-- ---- the law

module _ (fs : Definitions) (ms : Marks) (flags : AreFlags fs) (h : AreMarked fs ms) where
  lawful : AllByRecursion (λ f. is_definition f.1 ≡ true) fs
  lawful = recursion_from_All (λ f. is_definition f.1 ≡ true) fs flags.each

  whole : is_whole (document_written fs) ≡ true
  whole = whole_document fs flags.rise lawful

  bytes_are : print (json_tokens (document_json fs ms h)) ≡ printed_with_floats fs ms
  bytes_are =
      let j = document_json fs ms h in
      chosen (are_unmarked ms) (print (json_tokens j)) (printed fs) (flags_spelled fs ms)
      (λ u. ap (λ (i : json.Json). print (json_tokens i)) (document_plain fs ms h u) ∙ print-written (document_written fs) whole) (λ u. document_printed fs ms h lawful)

  value_is : value_in (printed_with_floats fs ms) ≡ Some (document_json fs ms h)
  value_is = ap value_in (sym bytes_are) ∙ value_back (document_json fs ms h) (flags_numbers fs ms h lawful, tt) (document_deep fs ms h lawful)

  short : length (printed_with_floats fs ms) ≤ max_bytes
  short =
      let grown = texts_grow (document_json fs ms h) in
      let after = ap (λ (i : json.Json). length (print (json_tokens i))) (document_texts fs ms h lawful) ∙ ap length (print-written (document_written fs) whole) in
      let before = ap length bytes_are in
      omega (arith, grown, after, before, flags.small)

  read_is : is_utf8 (printed_with_floats fs ms) ≡ true → doc_with_floats (printed_with_floats fs ms) max_bytes ≡ Ok (document_written fs)
  read_is utf8 =
      let bytes = printed_with_floats fs ms in
      let tree = ap (λ (o : Option json.Json). if_tree (option_and_then (λ i. tree_from (with_texts i)) o)) value_is
      ∙ (ap (λ (i : json.Json). if_tree (tree_from i)) (document_texts fs ms h lawful) ∙ ap if_tree (tree_from-written (document_written fs) whole)) in
      within (nat_lt max_bytes (length bytes)) (is_utf8 bytes) (text_with_floats bytes) (document_written fs) (le-ltb max_bytes (length bytes) short) utf8 tree

  reads_back : is_utf8 (printed_with_floats fs ms) ≡ true → TextMeans (doc_with_floats (printed_with_floats fs ms) max_bytes) (Ok fs)
  reads_back utf8 = subst (λ r. TextMeans r (Ok fs)) (sym (read_is utf8)) (fs, all-back fs lawful, sym (limited-back fs flags.few flags.small))

  marks_back : marked (marks_of_text (printed_with_floats fs ms)) fs ≡ ms
  marks_back = ap (λ (x : Marks). marked x fs) (ap marks_or_none value_is ∙ document_marks fs ms h lawful) ∙ marks_found fs ms h flags.rise

pub printed_reads_back : PrintedWithFloatsReadsBack
printed_reads_back fs ms flags h utf8 = (reads_back fs ms flags h utf8, marks_back fs ms flags h)

pub printed_short : (fs : Definitions) (ms : Marks) → AreFlags fs → AreMarked fs ms → length (printed_with_floats fs ms) ≤ max_bytes
printed_short fs ms flags h = short fs ms flags h
