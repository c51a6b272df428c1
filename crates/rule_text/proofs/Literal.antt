-- The buckets of a text that is a list of literal buckets are its entries.
use Rattle.std.proofs.Common.{◌≡◌, ℕ, ◌≤◌, false, List, Ok, option_and_then, ap, ◌∙◌, arith}
use Rattle.serde_json.specs.Read.{read}
use Rattle.flag_text.specs.Readers.{as_list}
use Rattle.flag_text.specs.Reading.{shape_of, if_json, if_whole}
use Rattle.flag_text.specs.Shape.{Shape, levels, has_other}
use Rattle.bucket_core.specs.Reading.{buckets_of}
use Rattle.bucket_core.specs.Rule.{Entries}
use Rattle.rule_text.specs.Buckets.{buckets_in, or_bad_rule}
use Rattle.rule_text.specs.Listed.{IsListed}
use Rattle.rule_text.proofs.Flat.{both, flat_list}

pub flat_tree : (t : Shape) → levels t ≤ 2 → has_other t ≡ false → if_whole (Ok t) ≡ Ok t
flat_tree t low whole = grind (arith, low, whole)

pub listed_buckets : (text : List ℕ) (es : Entries) → IsListed text es → buckets_in (if_whole (if_json (read text))) ≡ Ok es
listed_buckets text es is_listed =
    let d = both (λ d. option_and_then buckets_of (as_list (shape_of d))) (read text) es is_listed in
    let t = shape_of d.0 in
    let flat = flat_list t es d.2 in
    let tree : if_whole (if_json (read text)) ≡ Ok t = ap (λ o. if_whole (if_json o)) d.1 ∙ flat_tree t flat.0 flat.1 in
    ap buckets_in tree ∙ ap or_bad_rule d.2
