-- The text of a value of JSON's grammar, piece by piece.
use Rattle.std.proofs.Common.{◌≡◌, ℕ, List, [], ◌∷◌, ◌++◌, codes, Bool, true, false, fold, append_assoc, append-nil, refl, ap, ◌∙◌}
use Rattle.std.proofs.lemmas.List.Sums.{fold-append}
use Rattle.json.specs.Json.{Json, null, boolean, number, string, array, object, Items, no_items, item, Members, no_members, member}
use Rattle.json.specs.Print.{ends, print, print_from, quoted}
use Rattle.json.specs.Token.{Token}
use Rattle.json.specs.Tree.{json_tokens, items_tokens, members_tokens}
use Rattle.json.proofs.Printed.Tokens.{print_from-append}
use Rattle.flag_text.specs.Printing.{text_of}
use Rattle.flag_text.specs.Shape.{text}

mutual
  value_ends : (j : Json) (c : Bool) → fold (λ (b : Bool) (t : Token). ends t) c (json_tokens j) ≡ true
  value_ends null c = refl
  value_ends (boolean b) c = refl
  value_ends (number s) c = refl
  value_ends (string s) c = refl
  value_ends (array js) c = items_end js false
  value_ends (object ms) c = members_end ms false

  items_end : (js : Items) (c : Bool) → fold (λ (b : Bool) (t : Token). ends t) c (items_tokens js) ≡ true
  items_end no_items c = refl
  items_end (item j js) c =
      fold-append (λ (b : Bool) (t : Token). ends t) c (json_tokens j) (items_tokens js) ∙ items_end js (fold (λ (b : Bool) (t : Token). ends t) c (json_tokens j))

  members_end : (ms : Members) (c : Bool) → fold (λ (b : Bool) (t : Token). ends t) c (members_tokens ms) ≡ true
  members_end no_members c = refl
  members_end (member k j ms) c =
      fold-append (λ (b : Bool) (t : Token). ends t) false (json_tokens j) (members_tokens ms) ∙ members_end ms (fold (λ (b : Bool) (t : Token). ends t) false (json_tokens j))

-- members with the brace that closes them, behind a value or in front of all
abbrev pub members_printed : Bool → Members → List ℕ
members_printed later ms = print_from later (members_tokens ms)

-- a member, and what follows it
abbrev pub member_printed : List ℕ → Json → Members → List ℕ
member_printed k j ms = text_of (text k) ++ (codes ":" ++ (print (json_tokens j) ++ members_printed true ms))

pub first_member : (k : List ℕ) (j : Json) (ms : Members) → members_printed false (member k j ms) ≡ member_printed k j ms
unfolding print_from text_of
first_member k j ms =
    ap (λ (l : List ℕ). (quoted k ++ 58 ∷ []) ++ l)
    (print_from-append false (json_tokens j) (members_tokens ms) ∙ ap (λ (c : Bool). print (json_tokens j) ++ print_from c (members_tokens ms)) (value_ends j false))
    ∙ append_assoc (quoted k) (58 ∷ []) (print (json_tokens j) ++ members_printed true ms)

pub later_member : (k : List ℕ) (j : Json) (ms : Members) → members_printed true (member k j ms) ≡ codes "," ++ member_printed k j ms
unfolding print_from text_of
later_member k j ms =
    ap (λ (l : List ℕ). 44 ∷ ((quoted k ++ 58 ∷ []) ++ l))
    (print_from-append false (json_tokens j) (members_tokens ms) ∙ ap (λ (c : Bool). print (json_tokens j) ++ print_from c (members_tokens ms)) (value_ends j false))
    ∙ ap (λ (l : List ℕ). 44 ∷ l) (append_assoc (quoted k) (58 ∷ []) (print (json_tokens j) ++ members_printed true ms))

pub none_printed : (later : Bool) → members_printed later no_members ≡ codes "}"
unfolding print_from
none_printed true = refl
none_printed false = refl

pub object_printed : (ms : Members) → print (json_tokens (object ms)) ≡ codes "{" ++ members_printed false ms
unfolding print_from
object_printed ms = refl

pub string_printed : (s : List ℕ) → print (json_tokens (string s)) ≡ text_of (text s)
unfolding print_from text_of
string_printed s = append-nil (quoted s)
