-- What is said of a key that no flag has.
use Rattle.std.specs.Prelude.{ℕ, nat_eq, ◌++◌, List, [], ◌∷◌, codes, length, map, if◌then◌else◌}
use Rattle.std.specs.List.{flat_map}
use Rattle.file_diagnostics.specs.Words.{list_words}
use Rattle.flag_defs.specs.Document.{Definitions}
use Rattle.near_names.specs.Near.{is_near}

-- a key, where it is near
abbrev pub key_if_near : List ℕ → List ℕ → List (List ℕ)
key_if_near key known = if is_near key known then known ∷ [] else []

-- the keys that are near, in their order
abbrev pub near_keys : List ℕ → Definitions → List (List ℕ)
near_keys key flags = flat_map (λ f. key_if_near key f.0) flags

-- the keys of all flags
abbrev pub all_words : Definitions → List ℕ
all_words flags = codes "known flags: " ++ list_words (map (λ f. f.0) flags)

abbrev pub similar_words : List (List ℕ) → List ℕ
similar_words near = codes "similar keys: " ++ list_words near

-- those that are near, and where none is all
unfoldable pub known_words : List ℕ → Definitions → List ℕ
known_words key flags = if nat_eq (length (near_keys key flags)) 0 then all_words flags else similar_words (near_keys key flags)
