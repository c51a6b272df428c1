-- A list of asks that were read token by token, an ask at a time, and its tree.
use Rattle.std.proofs.Common.{◌≡◌, ◌∙◌, ◌≤◌, ◌^◌, nat_lt, ℕ, true, List, [], ◌∷◌, ◌++◌, length, Option, Some, None, Ok, refl, sym, ap, arith}
use Rattle.std.specs.Str.{IsUtf8}
use Rattle.json.specs.Json.{parse_map, items, value}
use Rattle.json.specs.Lex.{tokens}
use Rattle.json.specs.Token.{Token}
use Rattle.json.proofs.Grammar.{value-begin_array}
use Rattle.serde_json.specs.Read.{converted, read}
use Rattle.flag_text.specs.Grammar.{items_from, tree_from}
use Rattle.flag_text.specs.Reading.{if_json, if_whole, tree_of}
use Rattle.flag_text.specs.Shape.{Items, no_items, item, list, is_whole, items_are_whole, items_levels}
use Rattle.flag_text.proofs.Bools.{both}
use Rattle.flag_text.proofs.Printed.{has_other-whole, if_whole-kept}
use Rattle.flag_text.proofs.Readings.{doc_of-utf8}
use Rattle.flagops_drive.specs.Plain.{ask_shape, asks_shape}
use Rattle.flagops_drive.specs.declared.plain_ask.PlainAsk.{PlainAsk}
use Rattle.flag_text.proofs.Trees.{whole_read}
use Rattle.flag_text.proofs.Turns.{converted-list}

-- ---- a list that grows at its end

abbrev pub asks_before : List PlainAsk → Items → Items
asks_before [] rest = rest
asks_before (a ∷ more) rest = item (ask_shape a) (asks_before more rest)

pub asks_before-no_items : (asks : List PlainAsk) → asks_before asks no_items ≡ asks_shape asks
asks_before-no_items [] = refl
asks_before-no_items (a ∷ more) = ap (item (ask_shape a)) (asks_before-no_items more)

pushed : (asks : List PlainAsk) (a : PlainAsk) (rest : Items) → asks_before asks (item (ask_shape a) rest) ≡ asks_before (asks ++ a ∷ []) rest
pushed [] a rest = refl
pushed (b ∷ asks) a rest = ap (item (ask_shape b)) (pushed asks a rest)

pub one_more_ask : (asks : List PlainAsk) (a : PlainAsk) (o : Option (Items × List Token)) → parse_map (asks_before asks) (parse_map (item (ask_shape a)) o) ≡ parse_map (asks_before (asks ++ a ∷ [])) o
one_more_ask asks a None = refl
one_more_ask asks a (Some p) = ap (λ ts. Some (ts, p.1)) (pushed asks a p.0)

pub none_before : (o : Option (Items × List Token)) → o ≡ parse_map (asks_before []) o
none_before None = refl
none_before (Some p) = refl

-- ---- the whole text

pub list_read : (text : List ℕ) (ts r : List Token) (asks : List PlainAsk) → tokens text ≡ Token.begin_array ∷ ts → r ≡ [] → converted items_from (items (value 126) (length ts) ts) ≡ Some (asks_shape asks, r)
    → if_json (read text) ≡ Ok (list (asks_shape asks))
list_read text ts r asks begins end e =
    whole_read text (list (asks_shape asks))
    (ap (λ s. converted tree_from (value 127 s)) begins ∙ ap (converted tree_from) (value-begin_array 127 ts (omega arith)) ∙ converted-list (items (value 126) (length ts) ts) ∙ ap (parse_map list) e
    ∙ ap (λ s. Some (list (asks_shape asks), s)) end)

-- ---- the tree has whole numbers, and nests no deeper than it may

pub asks_are_whole : (asks : List PlainAsk) → items_are_whole (asks_shape asks) ≡ true
asks_are_whole [] = refl
asks_are_whole (a ∷ more) = both (is_whole (ask_shape a)) _ (ask_is_whole a) (asks_are_whole more)
  where
    ask_is_whole : (a : PlainAsk) → is_whole (ask_shape a) ≡ true
    ask_is_whole a = let counts : nat_lt a.moment (2 ^ 53) ≡ true = grind arith in rw (a.whole_context, a.whole_default, counts) refl

asks_shallow : (asks : List PlainAsk) → items_levels (asks_shape asks) ≤ 119
asks_shallow [] = omega arith
asks_shallow (a ∷ more) = let rest = asks_shallow more in omega (arith, a.shallow_default, a.shallow_context)

-- of bytes, by what was found of their text
pub tree_of_asks : (bytes read_as : List ℕ) (limit : ℕ) (asks : List PlainAsk) → length bytes ≤ limit → read_as ≡ bytes → IsUtf8 bytes → if_json (read read_as) ≡ Ok (list (asks_shape asks)) → tree_of bytes limit ≡ Ok (list (asks_shape asks))
tree_of_asks bytes read_as limit asks within same utf8 e =
    let t = list (asks_shape asks) in
    let shallow = asks_shallow asks in
    ap if_whole (doc_of-utf8 bytes limit within utf8 ∙ ap (λ b. if_json (read b)) (sym same) ∙ e) ∙ if_whole-kept t (omega arith) (has_other-whole t (asks_are_whole asks))
