-- Where the value at a path stands in a JSON text (RFC 8259), by the grammar of `json`.
use Rattle.std.specs.Prelude.{◌≡◌, ℕ, zero, suc, List, [], ◌∷◌, ◌++◌, length, Option, Some, None, option_and_then, if◌then◌else◌}
use Rattle.std.specs.Str.{bytes_eq}
use Rattle.json.specs.Json.{Json, array, object, Items, no_items, item, Members, no_members, member, document}
use Rattle.json.specs.Tree.{json_tokens}
use Rattle.text_spans.specs.Place.{behind, from_token}

-- to the member of this name, or to the item at this index
pub data Step : Type 0 where
  name : List ℕ → Step
  index : ℕ → Step

-- the text from a value on, and the text behind it
abbrev pub Place : Type 0
Place = List ℕ × List ℕ

-- the number of tokens that a value takes
abbrev pub token_count : Json → ℕ
token_count j = length (json_tokens j)

-- The place of the value at a path of j, whose tokens begin the text.
abbrev mutual
  pub place : List Step → Json → List ℕ → Option Place
  place [] j text = Some (from_token text, behind (token_count j) text)
  place (index i ∷ path) (array js) text = item_place i path js (behind 1 text)
  place (name k ∷ path) (object ms) text = member_place k path ms None (behind 1 text)
  place (s ∷ path) j text = None

  pub item_place : ℕ → List Step → Items → List ℕ → Option Place
  item_place i path no_items text = None
  item_place zero path (item j js) text = place path j text
  item_place (suc i) path (item j js) text = item_place i path js (behind (token_count j) text)

  -- of members of one name the last counts
  pub member_place : List ℕ → List Step → Members → Option Place → List ℕ → Option Place
  member_place k path no_members found text = found
  member_place k path (member l j ms) found text =
      member_place k path ms (if bytes_eq l k then place path j (behind 1 text) else found) (behind (suc (token_count j)) text)

-- the place of the value at a path of the value that a text is
abbrev pub place_of : List Step → List ℕ → Option Place
place_of path text = option_and_then (λ j. place path j text) (document text)

-- The bytes `old` are those of the value at the path, and stand between these.
pub record Stands (text : List ℕ) (path : List Step) (front old back : List ℕ) : Type 0 where
  pub whole : text ≡ front ++ (old ++ back)
  pub there : place_of path text ≡ Some (old ++ back, back)

-- a value stands at one place
abbrev pub StandsOnce : Type 0
StandsOnce =
    (text : List ℕ) (path : List Step) (front old back other_front other other_back : List ℕ) → Stands text path front old back → Stands text path other_front other other_back
    → (front ≡ other_front) × (old ≡ other) × (back ≡ other_back)
