-- A list of texts.
use Rattle.std.specs.Prelude.{◌≡◌, ℕ, List, [], ◌∷◌, length, Some, Ok, map}
use Rattle.std.specs.Borrow.{Bor}
use Rattle.json.specs.Json as json
use Rattle.json.specs.Token.{Token}
use Rattle.flag_text.specs.Reading.{tree_of}
use Rattle.flag_text.specs.Shape.{list, text, Items, no_items, item}

-- these texts as items
abbrev pub text_items : List (List ℕ) → Items
text_items [] = no_items
text_items (s ∷ ss) = item (text s) (text_items ss)

-- the bytes, of which there are no more than the limit, are a list of just these texts
abbrev pub AreTexts : List ℕ → ℕ → List (List ℕ) → Type 0
AreTexts bytes limit texts = tree_of bytes limit ≡ Ok (list (text_items texts))

-- texts, without where they lie
abbrev pub texts_view : List (Bor (List ℕ)) → List (List ℕ)
texts_view ss = map (λ s. s.now) ss

-- these texts as the first items (in private contracts alone)
abbrev pub texts_then : List (List ℕ) → json.Items → json.Items
texts_then [] js = js
texts_then (s ∷ ss) js = json.item (json.string s) (texts_then ss js)

-- the tokens are those of a list of just these texts
abbrev pub AreTokensOf : List (List ℕ) → List Token → Type 0
AreTokensOf ss ts = (rest : List Token) × (ts ≡ Token.begin_array ∷ rest) × (json.items (json.value 126) (length rest) rest ≡ Some (texts_then ss json.no_items, []))
