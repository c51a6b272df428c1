-- Entity tags, and the fields that name them (RFC 9110, 8.8.3 and 13.1.2).
use Rattle.std.specs.Prelude.{ℕ, ◌==◌, Bool, ◌||◌, List, [], ◌∷◌, ◌++◌, codes}
use Rattle.std.specs.List.{list_any, slice_split}
use Rattle.std.specs.Str.{bytes_eq}
use Rattle.hex.specs.Hex.{encode_lower}
use Rattle.sha2.specs.Sha256.{sha256}

-- the opaque tag of a representation
unfoldable pub opaque_tag : List ℕ → List ℕ
opaque_tag representation = encode_lower (sha256 representation)

-- a strong entity tag: the opaque tag in quotes
abbrev pub entity_tag : List ℕ → List ℕ
entity_tag opaque = 34 ∷ (opaque ++ 34 ∷ [])

-- a quote; no opaque tag has one
abbrev pub is_quote : ℕ → Bool
is_quote b = b == 34

-- of what stands between quotes, from behind one that opens: each second one is an opaque tag, where a quote closes it
abbrev pub tags_behind : List (List ℕ) → List (List ℕ)
tags_behind (tag ∷ (outside ∷ parts)) = tag ∷ tags_behind parts
tags_behind (tag ∷ []) = []
tags_behind [] = []

-- the same, from before a quote that opens
abbrev pub tags_of : List (List ℕ) → List (List ℕ)
tags_of (outside ∷ parts) = tags_behind parts
tags_of [] = []

-- the opaque tags of a list of entity tags, weak ones and strong ones
abbrev pub opaque_tags : List ℕ → List (List ℕ)
opaque_tags field = tags_of (slice_split is_quote field)

-- the list has the tag, by weak comparison
abbrev pub is_tag_in : List ℕ → List ℕ → Bool
is_tag_in opaque field = list_any (λ tag. bytes_eq tag opaque) (opaque_tags field)

-- the field If-None-Match names the tag: it is `*`, or its list has the tag
abbrev pub is_listed : List ℕ → List ℕ → Bool
is_listed opaque field = bytes_eq field (codes "*") || is_tag_in opaque field
