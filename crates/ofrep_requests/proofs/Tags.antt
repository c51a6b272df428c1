-- The tags of a list, quote by quote.
use Rattle.std.proofs.Common.{◌≡◌, ℕ, ◌+◌, ◌-◌, ◌<◌, ◌≤◌, Bool, true, false, ◌||◌, None, Some, List, [], ◌∷◌, length, take, drop, refl, sym, ap, ◌∙◌, arith, length-drop}
use Rattle.std.specs.List.{list_any, slice_split, position_or_len}
use Rattle.std.proofs.lemmas.List.{get_or_default, take_all}
use Rattle.std.proofs.lemmas.List.Sums.{position_or_len_is}
use Rattle.memchr.specs.Find.{IsFirstByte, is_byte}
use Rattle.std.specs.Str.{bytes_eq}
use Rattle.std.proofs.lemmas.List.Splits.{length-slice_split, slice_split_none, slice_split_first}
use Rattle.ofrep_requests.specs.Tag.{is_quote, is_tag_in, tags_behind, tags_of}

pub without_quote : (opaque field : List ℕ) → slice_split is_quote field ≡ field ∷ [] → is_tag_in opaque field ≡ false
without_quote opaque field e = ap (λ ps. list_any (λ t. bytes_eq t opaque) (tags_of ps)) e

pub unclosed : (opaque field before opened : List ℕ) → slice_split is_quote field ≡ before ∷ slice_split is_quote opened → slice_split is_quote opened ≡ opened ∷ [] → is_tag_in opaque field ≡ false
unclosed opaque field before opened e f =
    ap (λ ps. list_any (λ t. bytes_eq t opaque) (tags_of ps)) e ∙ ap (λ ps. list_any (λ t. bytes_eq t opaque) (tags_behind ps)) f

-- a tag is followed by what stands outside of quotes
behind : (tag : List ℕ) (parts : List (List ℕ)) → 0 < length parts → tags_behind (tag ∷ parts) ≡ tag ∷ tags_of parts
behind tag [] h = absurd (omega arith)
behind tag (outside ∷ parts) h = refl

pub closed : (opaque field before opened tag rest : List ℕ) → slice_split is_quote field ≡ before ∷ slice_split is_quote opened → slice_split is_quote opened ≡ tag ∷ slice_split is_quote rest
    → is_tag_in opaque field ≡ (bytes_eq tag opaque || is_tag_in opaque rest)
closed opaque field before opened tag rest e f =
    let some : 0 < length (slice_split is_quote rest) = omega (arith, length-slice_split is_quote rest) in
    ap (λ ps. list_any (λ t. bytes_eq t opaque) (tags_of ps)) e ∙ ap (λ ps. list_any (λ t. bytes_eq t opaque) (tags_behind ps)) f
    ∙ ap (list_any (λ t. bytes_eq t opaque)) (behind tag (slice_split is_quote rest) some)

not_true : (b : Bool) → (b ≡ true → ⊥) → b ≡ false
not_true true h = absurd (h refl)
not_true false h = refl

first_at : (bytes : List ℕ) (place : ℕ) → IsFirstByte (is_byte 34) bytes (Some place) → position_or_len is_quote bytes ≡ place
first_at bytes place first =
    let within : place < length bytes = first.0.high in
    position_or_len_is is_quote bytes place 0 (omega arith) (λ k h. not_true _ (first.0.before k (omega arith) h)) (λ _. first.1)

pub first_quote : (bytes : List ℕ) (place : ℕ) → IsFirstByte (is_byte 34) bytes (Some place)
    → slice_split is_quote bytes ≡ take place bytes ∷ slice_split is_quote (take (length bytes - (place + 1)) (drop (place + 1) bytes))
first_quote bytes place first =
    let at = first_at bytes place first in
    let within : place < length bytes = first.0.high in
    let whole : length (drop (place + 1) bytes) ≤ length bytes - (place + 1) = omega (arith, length-drop (place + 1) bytes) in
    slice_split_first is_quote bytes 0 (omega (arith, at)) ∙ ap (λ n. take n bytes ∷ slice_split is_quote (drop (n + 1) bytes)) at
    ∙ ap (λ xs. take place bytes ∷ slice_split is_quote xs) (sym (take_all (length bytes - (place + 1)) (drop (place + 1) bytes) whole))

pub no_quote : (bytes : List ℕ) → IsFirstByte (is_byte 34) bytes None → slice_split is_quote bytes ≡ bytes ∷ []
no_quote bytes none = slice_split_none is_quote bytes (λ k d within. not_true _ (λ e. none k (omega arith) within (ap is_quote (get_or_default bytes k 0 d within) ∙ e)))
