-- The keys that bytes stand for, by whether they are a list of texts.
use Rattle.std.proofs.Common.{◌≡◌, ℕ, List, [], ◌∷◌, Option, Some, None, option_map, option_and_then, Ok, Err, refl, sym, ap, ap₂, ◌∙◌}
use Rattle.flag_text.specs.Readers.{as_text, as_list}
use Rattle.flag_text.specs.Reading.{tree_of}
use Rattle.flag_text.specs.Shape.{Shape, null, boolean, whole, other, text, list, object, Items, no_items, item}
use Rattle.rule_text.specs.Texts.{AreTexts, text_items}
use Rattle.flagops_files.specs.Loading.{max_text}
use Rattle.flagops_shell.specs.Outcomes.{◌>>=◌, refused_by}
use Rattle.flagops_commands.specs.declared.refusal.PriceMismatch.TheVariants.{BadKeys}
use Rattle.flagops_commands.specs.Price.{if_keys, keys_in, keys_of, texts_of}
use Rattle.flagops_commands.specs.declared.refusal.ListedRefusal.TheVariants.{Price}
use Rattle.flagops_commands.specs.Refusal.{no_tree}

texts_read : (ss : List (List ℕ)) → texts_of (text_items ss) ≡ Some ss
texts_read [] = refl
texts_read (s ∷ ss) = rw (texts_read ss) refl

-- texts are their own keys
pub keys_read : (bytes : List ℕ) (ss : List (List ℕ)) → AreTexts bytes max_text ss → keys_of bytes ≡ Ok ss
keys_read bytes ss are = ap (λ r. refused_by no_tree r >>= keys_in) are ∙ ap if_keys (texts_read ss)

text_of_tree : (t : Shape) (s : List ℕ) → as_text t ≡ Some s → t ≡ text s
text_of_tree null s e = absurd (cc)
text_of_tree (boolean b) s e = absurd (cc)
text_of_tree (whole z) s e = absurd (cc)
text_of_tree other s e = absurd (cc)
text_of_tree (text x) s e = let same : x ≡ s = cc in ap text same
text_of_tree (list ts) s e = absurd (cc)
text_of_tree (object ms) s e = absurd (cc)

step : (x : Option (List ℕ)) (xs : Option (List (List ℕ))) (ss : List (List ℕ)) → option_and_then (λ s. option_map (λ ss. s ∷ ss) xs) x ≡ Some ss
    → (s : List ℕ) × (more : List (List ℕ)) × (x ≡ Some s) × (xs ≡ Some more) × (ss ≡ s ∷ more)
step None xs ss e = absurd (cc)
step (Some s) None ss e = absurd (cc)
step (Some s) (Some more) ss e = let same : ss ≡ s ∷ more = cc in (s, more, refl, refl, same)

items_of_texts : (ts : Items) (ss : List (List ℕ)) → texts_of ts ≡ Some ss → ts ≡ text_items ss
items_of_texts no_items ss e = let none : ss ≡ [] = cc in ap text_items (sym none)
items_of_texts (item t ts) ss e =
    let p = step (as_text t) (texts_of ts) ss e in
    ap₂ item (text_of_tree t p.0 p.2) (items_of_texts ts p.1 p.3) ∙ ap text_items (sym p.4)

tree_of_texts : (t : Shape) (ss : List (List ℕ)) → option_and_then texts_of (as_list t) ≡ Some ss → t ≡ list (text_items ss)
tree_of_texts null ss e = absurd (cc)
tree_of_texts (boolean b) ss e = absurd (cc)
tree_of_texts (whole z) ss e = absurd (cc)
tree_of_texts other ss e = absurd (cc)
tree_of_texts (text x) ss e = absurd (cc)
tree_of_texts (list ts) ss e = ap list (items_of_texts ts ss e)
tree_of_texts (object ms) ss e = absurd (cc)

no_texts : (t : Shape) (o : Option (List (List ℕ))) → option_and_then texts_of (as_list t) ≡ o → ((ss : List (List ℕ)) → t ≡ list (text_items ss) → ⊥) → if_keys o ≡ Err (Price BadKeys)
no_texts t None e apart = refl
no_texts t (Some ss) e apart = absurd (apart ss (tree_of_texts t ss e))

-- a tree of other bytes has none
pub keys_refused : (bytes : List ℕ) (t : Shape) → tree_of bytes max_text ≡ Ok t → ((ss : List (List ℕ)) → AreTexts bytes max_text ss → ⊥) → keys_of bytes ≡ Err (Price BadKeys)
keys_refused bytes t is apart =
    ap (λ r. refused_by no_tree r >>= keys_in) is ∙ no_texts t (option_and_then texts_of (as_list t)) refl (λ ss same. apart ss (is ∙ ap Ok same))
