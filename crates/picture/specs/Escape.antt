-- Texts as character data (Extensible Markup Language 1.0, fifth edition).
use Rattle.std.specs.Prelude.{◌≡◌, ℕ, zero, suc, ◌==◌, Bool, true, not, ◌&&◌, ◌||◌, nat_eq, nat_lt, List, [], ◌∷◌, ◌++◌, map, chars, codes, encode_utf8, encode_utf8_all, if◌then◌else◌}
use Rattle.std.specs.List.{flat_map, starts_with}

-- no document may have these: the controls but tab, line feed and carriage return, and U+FFFE and U+FFFF (section 2.2, Char)
abbrev pub is_forbidden : ℕ → Bool
is_forbidden c = (nat_lt c 32 && not ((c == 9) || ((c == 10) || (c == 13)))) || ((c == 65534) || (c == 65535))

-- the character, or U+FFFD in its place
abbrev pub allowed : ℕ → ℕ
allowed c = if is_forbidden c then 65533 else c

-- the predefined entities (section 4.6), and every other character as itself
abbrev pub escaped_char : ℕ → List ℕ
escaped_char c =
    if c == 38 then codes "&amp;" else
    (if c == 60 then codes "&lt;" else
    (if c == 62 then codes "&gt;" else
    (if c == 34 then codes "&quot;" else
    (if c == 39 then codes "&apos;" else encode_utf8 (allowed c)))))

-- each character of the text, escaped
unfoldable pub escaped : List ℕ → List ℕ
escaped text = flat_map escaped_char (chars text)

-- so many characters at most, escaped, and an ellipsis where there are more
abbrev pub begun : ℕ → List ℕ → List ℕ
begun n [] = []
begun zero (c ∷ cs) = encode_utf8 8230
begun (suc n) (c ∷ cs) = escaped_char c ++ begun n cs

-- where memory runs out: a beginning of what was to be added was added
abbrev pub AddsBeginning : List ℕ → List ℕ → List ℕ → Type 0
AddsBeginning wanted before after = (added : List ℕ) × (rest : List ℕ) × (after ≡ before ++ added) × (added ++ rest ≡ wanted)

-- ---- what it is for

-- what stands behind the ampersand of a predefined entity
abbrev pub begins_entity : List ℕ → Bool
begins_entity bs =
    starts_with nat_eq bs (codes "amp;") || (starts_with nat_eq bs (codes "lt;") || (starts_with nat_eq bs (codes "gt;") || (starts_with nat_eq bs (codes "quot;") || starts_with nat_eq bs (codes "apos;"))))

-- neither `<` nor `>`, nor a quote
abbrev pub is_data : ℕ → Bool
is_data b = not ((b == 60) || ((b == 62) || ((b == 34) || (b == 39))))

-- neither `<` nor `>` nor a quote stands in it, and each ampersand begins a predefined entity
abbrev pub is_escaped : List ℕ → Bool
is_escaped [] = true
is_escaped (b ∷ bs) = (is_data b && (not (b == 38) || begins_entity bs)) && is_escaped bs

-- the byte that the entity behind an ampersand stands for, and how many bytes name it
abbrev pub entity : List ℕ → ℕ
entity bs =
    if starts_with nat_eq bs (codes "amp;") then 38 else
    (if starts_with nat_eq bs (codes "lt;") then 60 else
    (if starts_with nat_eq bs (codes "gt;") then 62 else
    (if starts_with nat_eq bs (codes "quot;") then 34 else 39)))

abbrev pub entity_length : List ℕ → ℕ
entity_length bs =
    if starts_with nat_eq bs (codes "amp;") then 4 else
    (if starts_with nat_eq bs (codes "lt;") then 3 else
    (if starts_with nat_eq bs (codes "gt;") then 3 else 5))

-- what character data reads as, behind so many bytes that were read
abbrev pub read_behind : ℕ → List ℕ → List ℕ
read_behind n [] = []
read_behind (suc n) (b ∷ bs) = read_behind n bs
read_behind zero (b ∷ bs) = if b == 38 then entity bs ∷ read_behind (entity_length bs) bs else b ∷ read_behind zero bs

abbrev pub EscapedAreData : Type 0
EscapedAreData = (text : List ℕ) → is_escaped (escaped text) ≡ true

abbrev pub EscapedReadBack : Type 0
EscapedReadBack = (text : List ℕ) → read_behind 0 (escaped text) ≡ encode_utf8_all (map allowed (chars text))
