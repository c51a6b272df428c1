-- Which tree a document with floats stands for.
use Rattle.std.specs.Prelude.{ℕ, List, length, nat_lt, if◌then◌else◌, Option, Some, None, option_and_then, Result, Ok, Err}
use Rattle.std.specs.Str.{is_utf8}
use Rattle.json.specs.Json.{Json}
use Rattle.flag_text.specs.Grammar.{tree_from, value_in}
use Rattle.flag_text.specs.Shape.{Shape}
use Rattle.flag_text.specs.declared.fault.TextFault.{TextFault}
use Rattle.flag_text.specs.declared.fault.TextFault.TheVariants.{NotJson, TooLarge}
use Rattle.spelled_numbers.specs.Floats.{with_texts}

-- the value, where there is one
abbrev pub if_value : Option Json → Result Json TextFault
if_value None = Err NotJson
if_value (Some j) = Ok j

-- the tree, where there is one
abbrev pub if_tree : Option Shape → Result Shape TextFault
if_tree None = Err NotJson
if_tree (Some t) = Ok t

-- the tree of a text with the values of variants that have floats as texts
abbrev pub text_with_floats : List ℕ → Result Shape TextFault
text_with_floats text = if_tree (option_and_then (λ j. tree_from (with_texts j)) (value_in text))

-- the same of bytes that are not above the limit; the refusals in their order: too large, no JSON
abbrev pub doc_with_floats : List ℕ → ℕ → Result Shape TextFault
doc_with_floats bytes limit = if nat_lt limit (length bytes) then Err TooLarge else (if is_utf8 bytes then text_with_floats bytes else Err NotJson)
