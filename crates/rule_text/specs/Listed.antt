-- A list of literal buckets, token by token.
use Rattle.std.specs.Prelude.{◌≡◌, ◌⊎◌, ℕ, List, ◌∷◌, Option, Some, option_and_then}
use Rattle.json.specs.Json as json
use Rattle.json.specs.Token.{Token}
use Rattle.serde_json.specs.Read.{of_json, of_items, number_of, read}
use Rattle.flag_text.specs.Readers.{as_list}
use Rattle.flag_text.specs.Reading.{shape_of, items_shape, number_shape}
use Rattle.bucket_core.specs.Reading.{weight_of, bucket_of, buckets_of}
use Rattle.bucket_core.specs.Rule.{Entries}

-- the literal bucket that a value is
abbrev pub bucket_in : json.Json → Option (List ℕ × ℕ)
bucket_in j = option_and_then (λ d. bucket_of (shape_of d)) (of_json j)

-- the literal buckets that values are
abbrev pub buckets_in : json.Items → Option Entries
buckets_in js = option_and_then (λ ds. buckets_of (items_shape ds)) (of_items js)

-- the literal weight that a number's text is
abbrev pub weight_in : List ℕ → Option ℕ
weight_in s = option_and_then (λ n. weight_of (number_shape n)) (number_of s)

-- a bucket's end comes first, or a weight and then the end
abbrev pub Closes : List Token → ℕ → List Token → Type 0
Closes old weight new = ((old ≡ Token.end_array ∷ new) × (weight ≡ 1)) ⊎ ((s : List ℕ) × (old ≡ Token.number s ∷ Token.end_array ∷ new) × (weight_in s ≡ Some weight))

-- the text is a list of literal buckets, with these entries
abbrev pub IsListed : List ℕ → Entries → Type 0
IsListed text entries = option_and_then (λ d. option_and_then buckets_of (as_list (shape_of d))) (read text) ≡ Some entries
