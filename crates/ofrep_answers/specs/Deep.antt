-- The levels of a text by its brackets alone, whatever else it is (RFC 8259, 2: structural characters; 7: strings; 9: limits of parsers).
use Rattle.std.specs.Prelude.{ℕ, ◌+◌, ◌-◌, ◌==◌, Bool, false, ◌&&◌, ◌||◌, List, [], ◌∷◌, nat_lt, if◌then◌else◌}
use Rattle.std.specs.Str.{is_utf8}
use Rattle.ofrep_answers.specs.declared.deep.Place.{Place}
use Rattle.ofrep_answers.specs.declared.deep.Place.TheVariants.{Between, Text, Escape}

-- the most levels of a text that is read
abbrev pub most_read : ℕ
most_read = 127

-- where the byte after this one stands: 34 is a quotation mark, 92 a backslash
abbrev pub after : Place → ℕ → Place
after Between b = if b == 34 then Text else Between
after Text b = if b == 34 then Between else (if b == 92 then Escape else Text)
after Escape b = Text

-- how many lists and objects are open after a byte: 91 and 123 open one, 93 and 125 close one
abbrev pub levels_after : Place → ℕ → ℕ → ℕ
levels_after Between b levels = if b == 91 || b == 123 then levels + 1 else (if b == 93 || b == 125 then levels - 1 else levels)
levels_after Text b levels = levels
levels_after Escape b levels = levels

-- somewhere more are open than a text may have
abbrev pub opens_from : Place → ℕ → List ℕ → Bool
opens_from place levels [] = false
opens_from place levels (b ∷ bytes) = nat_lt most_read (levels_after place b levels) || opens_from (after place b) (levels_after place b levels) bytes

-- so it is of a text in UTF-8
abbrev pub is_too_deep : List ℕ → Bool
is_too_deep bytes = is_utf8 bytes && opens_from Between 0 bytes
