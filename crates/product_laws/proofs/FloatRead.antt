-- A document whose numbers are all whole is read the same with floats and without.
use Rattle.std.proofs.Common.{◌≡◌, ◌∙◌, ℕ, Bool, true, false, cond, List, length, Option, Some, None, Result, Ok, Err, refl, sym, ap, subst}
use Rattle.std.specs.Prelude.{MatchBool, nat_lt, option_and_then, option_map}
use Rattle.std.specs.Str.{is_utf8}
use Rattle.json.specs.Json.{Json}
use Rattle.serde_json.specs.Data.{Data}
use Rattle.serde_json.specs.Read.{read}
use Rattle.flag_defs.specs.Document.{Definitions, TextMeans, max_bytes}
use Rattle.flag_defs.specs.Floats.{MeansAs}
use Rattle.flag_defs.specs.declared.fault.DefFault.{DefFault}
use Rattle.flag_text.proofs.Trees.{tree_reads}
use Rattle.flag_text.specs.Grammar.{tree_from, value_in}
use Rattle.flag_text.specs.Reading.{doc_of, if_json, json_of, shape_of}
use Rattle.flag_text.specs.Shape.{Shape}
use Rattle.flag_text.specs.declared.fault.TextFault.{TextFault}
use Rattle.flag_text.specs.declared.fault.TextFault.TheVariants.{NotJson, TooLarge}
use Rattle.spelled_numbers.specs.Floats.{with_texts}
use Rattle.spelled_numbers.specs.Law.{FloatsChangeNothing}
use Rattle.spelled_numbers.specs.Reading.{doc_with_floats, if_tree}
use Rattle.kept_document.specs.Kept.{tree_as}
use Rattle.source_merge.specs.Sources.{SetsAs, SourceList, is_source, with_read}
use Rattle.source_merge.specs.declared.fault.SourceFault.{SourceFault}
use Rattle.source_merge.specs.declared.fault.SourceFault.TheVariants.{Unknown}
use Rattle.product_laws.specs.FloatWhole.{IsWholeText}

-- ---- the tree of a text

no_data : (o : Option Data) → option_map shape_of o ≡ None → if_json o ≡ Err NotJson
no_data None e = refl
no_data (Some d) e = cc

-- what is no value has none, either way
no_value : (bytes : List ℕ) (limit : ℕ) → value_in bytes ≡ None → doc_with_floats bytes limit ≡ doc_of bytes limit
unfolding json_of
no_value bytes limit e = ap (λ (r : Result Shape TextFault). cond (nat_lt limit (length bytes)) (Err TooLarge) r) (by (is_utf8 bytes))
  where
    spelled : if_tree (option_and_then (λ j. tree_from (with_texts j)) (value_in bytes)) ≡ Err NotJson
    spelled = ap (λ (o : Option Json). if_tree (option_and_then (λ j. tree_from (with_texts j)) o)) e

    plain : if_json (read bytes) ≡ Err NotJson
    plain = no_data (read bytes) (tree_reads bytes ∙ ap (λ (o : Option Json). option_and_then tree_from o) e)

    by : (b : Bool) → cond b (if_tree (option_and_then (λ j. tree_from (with_texts j)) (value_in bytes))) (Err NotJson) ≡ if_json (cond b (read bytes) None)
    by true = spelled ∙ sym plain
    by false = refl

module _ (trees : FloatsChangeNothing) where
  pub tree_so : (bytes : List ℕ) (limit : ℕ) → IsWholeText bytes → doc_with_floats bytes limit ≡ doc_of bytes limit
  tree_so bytes limit whole = by (value_in bytes) refl
    where
      by : (o : Option Json) → value_in bytes ≡ o → doc_with_floats bytes limit ≡ doc_of bytes limit
      by None e = no_value bytes limit e
      by (Some j) e = trees bytes limit j e (whole j e)

  pub trees_stay : (floats other : Bool) (bytes : List ℕ) → IsWholeText bytes → tree_as floats bytes ≡ tree_as other bytes
  trees_stay true true bytes whole = refl
  trees_stay true false bytes whole = tree_so bytes max_bytes whole
  trees_stay false true bytes whole = sym (tree_so bytes max_bytes whole)
  trees_stay false false bytes whole = refl

  -- ---- its flags

  pub meanings_stay : (floats other : Bool) (bytes : List ℕ) (r : Result Definitions DefFault) → IsWholeText bytes → MeansAs floats bytes r → MeansAs other bytes r
  meanings_stay true true bytes r whole h = h
  meanings_stay true false bytes r whole h = subst (λ (t : Result Shape TextFault). TextMeans t r) (tree_so bytes max_bytes whole) h
  meanings_stay false true bytes r whole h = subst (λ (t : Result Shape TextFault). TextMeans t r) (sym (tree_so bytes max_bytes whole)) h
  meanings_stay false false bytes r whole h = h

  pub sources_stay : (floats other : Bool) (sources : SourceList) (name bytes : List ℕ) (after : Result SourceList SourceFault) → IsWholeText bytes
      → SetsAs floats sources name bytes after → SetsAs other sources name bytes after
  sources_stay floats other sources name bytes after whole h = by (is_source name sources) h
    where
      by : (b : Bool) → MatchBool b ((r : Result Definitions DefFault) × MeansAs floats bytes r × (after ≡ with_read sources name r)) (after ≡ Err Unknown)
          → MatchBool b ((r : Result Definitions DefFault) × MeansAs other bytes r × (after ≡ with_read sources name r)) (after ≡ Err Unknown)
      by true h = (h.0, meanings_stay floats other bytes h.0 whole h.1, h.2)
      by false h = h
