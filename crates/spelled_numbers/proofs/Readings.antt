-- The readings of a document, and of its text with texts in place of floats.
use Rattle.std.proofs.Common.{◌≡◌, ◌≢◌, ℕ, ◌≤◌, true, false, List, [], length, Option, Some, None, option_map, option_and_then, Result, Ok, Err, refl, sym, ap, ◌∙◌, subst, arith, inl, inr, append-nil}
use Rattle.std.proofs.lemmas.Bool.{cases_Bool}
use Rattle.std.proofs.lemmas.Str.{IsUtf8-from_is_utf8, is_utf8-from_IsUtf8}
use Rattle.std.specs.Prelude.{nat_lt, if◌then◌else◌}
use Rattle.std.specs.Str.{IsUtf8, is_utf8}
use Rattle.serde_json.specs.Data as parsed
use Rattle.serde_json.specs.Read.{read}
use Rattle.json.specs.Json.{Json, if_last, value}
use Rattle.json.specs.Lex.{tokens}
use Rattle.json.specs.Tree.{depth, json_tokens}
use Rattle.json.proofs.Printed.Trees.{value-json_tokens}
use Rattle.flag_text.specs.Grammar.{tree_from, value_in}
use Rattle.flag_text.specs.Outcome.{GivesUnless}
use Rattle.flag_text.specs.Reading.{doc_of, if_json, json_levels, json_of, shape_of}
use Rattle.flag_text.specs.Shape.{Shape}
use Rattle.flag_text.specs.declared.fault.TextFault.{TextFault}
use Rattle.flag_text.specs.declared.fault.TextFault.TheVariants.{NotJson, TooLarge}
use Rattle.flag_text.proofs.Trees.{tree_reads}
use Rattle.spelled_numbers.specs.Floats.{has_whole_numbers, with_texts}
use Rattle.spelled_numbers.specs.Reading.{doc_with_floats, if_tree, if_value, text_with_floats}
use Rattle.spelled_numbers.proofs.Nothing.{texts_same}
use Rattle.spelled_numbers.proofs.ShallowDocuments.{texts_nest}

-- ---- the tree of a text

seen : (o : Option parsed.Data) → if_json o ≡ if_tree (option_map shape_of o)
seen None = refl
seen (Some d) = refl

text_reads : (text : List ℕ) → if_json (read text) ≡ if_tree (option_and_then tree_from (value_in text))
text_reads text = seen (read text) ∙ ap if_tree (tree_reads text)

doc_within : (bytes : List ℕ) (limit : ℕ) → length bytes ≤ limit → is_utf8 bytes ≡ true → doc_of bytes limit ≡ if_json (read bytes)
unfolding json_of
doc_within bytes limit h u = let k : nat_lt limit (length bytes) ≡ false = grind (arith, h) in rw (k, u) refl

-- ---- the law

same_tree : (o : Option Json) (j : Json) → o ≡ Some j → has_whole_numbers j ≡ true → if_tree (option_and_then (λ i. tree_from (with_texts i)) o) ≡ if_tree (option_and_then tree_from o)
same_tree o j e h = ap (λ p. if_tree (option_and_then (λ i. tree_from (with_texts i)) p)) e ∙ ap (λ i. if_tree (tree_from i)) (texts_same j h) ∙ ap (λ p. if_tree (option_and_then tree_from p)) (sym e)

either_text : (bytes : List ℕ) → text_with_floats bytes ≡ if_json (read bytes) → (if is_utf8 bytes then text_with_floats bytes else Err NotJson) ≡ if_json (json_of bytes)
unfolding json_of
either_text bytes e = elim (cases_Bool (is_utf8 bytes)) [ inl u ↦ rw (e, u) refl | inr u ↦ rw u refl ]

pub nothing_changes : (bytes : List ℕ) (limit : ℕ) (j : Json) → value_in bytes ≡ Some j → has_whole_numbers j ≡ true → doc_with_floats bytes limit ≡ doc_of bytes limit
nothing_changes bytes limit j e h =
    ap (λ (r : Result Shape TextFault). if nat_lt limit (length bytes) then Err TooLarge else r) (either_text bytes (same_tree (value_in bytes) j e h ∙ sym (text_reads bytes)))

-- ---- the reading

pub within : (bytes : List ℕ) (limit : ℕ) → length bytes ≤ limit → is_utf8 bytes ≡ true → text_with_floats bytes ≡ doc_with_floats bytes limit
within bytes limit h u = let k : nat_lt limit (length bytes) ≡ false = grind (arith, h) in rw (k, u) refl

pub no_text : (bytes : List ℕ) (limit : ℕ) → length bytes ≤ limit → is_utf8 bytes ≡ false → doc_with_floats bytes limit ≡ Err NotJson
no_text bytes limit h u = let k : nat_lt limit (length bytes) ≡ false = grind (arith, h) in rw (k, u) refl

pub not_both : true ≡ false → ⊥
not_both e = cc

pub is_no_text : (bytes : List ℕ) → (IsUtf8 bytes → ⊥) → is_utf8 bytes ≡ false
is_no_text bytes n = elim (cases_Bool (is_utf8 bytes)) [ inl u ↦ absurd (n (IsUtf8-from_is_utf8 bytes u)) | inr u ↦ u ]

-- the value of tokens that are those of a value
pub read_back : (text : List ℕ) (j : Json) → tokens text ≡ json_tokens j → depth j ≤ json_levels → value_in text ≡ Some j
read_back text j same shallow =
    ap (option_and_then (λ p. if_last p.0 p.1)) (ap (value json_levels) (same ∙ sym (append-nil (json_tokens j))) ∙ value-json_tokens j json_levels [] shallow)

is_value : (o : Option Json) (j : Json) → if_value o ≡ Ok j → o ≡ Some j
is_value None j e = cc
is_value (Some i) j e = let same : i ≡ j = cc in ap Some same

-- what the text with texts in place of floats is read as
pub rewritten : (text bytes : List ℕ) (limit : ℕ) (j : Json) → if_value (value_in text) ≡ Ok j → depth j ≤ json_levels → tokens bytes ≡ json_tokens (with_texts j) → IsUtf8 bytes → length bytes ≤ limit
    → doc_of bytes limit ≡ text_with_floats text
rewritten text bytes limit j e shallow same utf8 h =
    doc_within bytes limit h (is_utf8-from_IsUtf8 bytes utf8) ∙ text_reads bytes
    ∙ ap (λ o. if_tree (option_and_then tree_from o)) (read_back bytes (with_texts j) same (texts_nest j json_levels shallow))
    ∙ ap (λ o. if_tree (option_and_then (λ i. tree_from (with_texts i)) o)) (sym (is_value (value_in text) j e))

-- a fault that is passed on
pub passed_on : {X Y E : Type 0} → (want e : E) (seen_by : X → Y) (r : Result X E) (w : Result Y E) → r ≡ Err e → (e ≢ want → w ≡ Err e) → GivesUnless want seen_by r w
passed_on want e seen_by r w is h = subst (λ x. GivesUnless want seen_by x w) (sym is) h
