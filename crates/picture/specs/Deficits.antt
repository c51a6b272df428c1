-- What the picture of a set of variants tells that shows that no rule fits, and how high it is.
use Rattle.std.specs.Prelude.{ℕ, List, [], ◌∷◌, ◌++◌}
use Rattle.bucket_core.specs.Rule.{Entries, total_of, total_weight}
use Rattle.price_core.specs.Limits.{Limits}
use Rattle.transport_core.specs.declared.certificate.CutKind.{CutKind}
use Rattle.transport_core.specs.declared.certificate.CutKind.TheVariants as kind
use Rattle.picture.specs.Told.{Item, text, name, bar_told, column, down, foot, heading, named_told, next_row, number, numbers_at, rows_told, spot, swatch}
use Rattle.picture.specs.declared.element.Content.TheVariants as content
use Rattle.picture.specs.declared.words.Style.TheVariants as style
use Rattle.picture.specs.declared.words.Word.{Word}
use Rattle.picture.specs.declared.words.Word.TheVariants as word

-- of which kind a set is, in words
abbrev pub kind_word : CutKind → Word
kind_word kind.Over = word.Over
kind_word kind.Under = word.Under

-- that no rule keeps the limits, the number of the points, and the kind of the set
abbrev pub none_head_told : CutKind → ℕ → List Item
none_head_told k total =
    text style.Title (spot 40 66) (content.Word word.NoRule) ∷ text style.Value (spot 1160 66) (content.Counted word.Points total) ∷ text style.Row (spot 40 114) (content.Word (kind_word k)) ∷ []

-- the names of a set, one below the other
abbrev pub set_told : Limits → ℕ → List (List ℕ) → List Item
set_told limits y names = rows_told (named_told limits) (λ z n. next_row z) y names

abbrev pub set_end : ℕ → List (List ℕ) → ℕ
set_end y names = foot (λ z n. next_row z) y names

-- a row below a bar
abbrev pub bar_end : ℕ → ℕ
bar_end y = next_row (down y 80)

-- ---- the variants

abbrev pub limit_headings : ℕ → List Item
limit_headings y = heading 100 y word.Variant ∷ column 820 y word.Points ∷ column 990 y word.AtLeast ∷ column 1160 y word.AtMost ∷ []

-- a variant with its points and its limits
abbrev pub limit_told : Limits → Entries → ℕ → List ℕ × (ℕ × ℕ) → List Item
limit_told limits old y l =
    swatch limits y l.0 ∷ name (spot 100 y) l.0 ∷ number 820 (numbers_at 34 y l.0) (total_of old l.0) ∷ number 990 (numbers_at 34 y l.0) l.1.0 ∷ number 1160 (numbers_at 34 y l.0) l.1.1 ∷ []

abbrev pub limit_end : ℕ → List ℕ × (ℕ × ℕ) → ℕ
limit_end y l = next_row (numbers_at 34 y l.0)

abbrev pub limits_told : Entries → Limits → ℕ → List Item
limits_told old limits y = limit_headings y ++ rows_told (limit_told limits old) limit_end (next_row y) limits

abbrev pub limits_end : Limits → ℕ → ℕ
limits_end limits y = foot limit_end (next_row y) limits

-- ---- the picture

-- the kind and the names of the set, the rule below them as a bar, and the variants
unfoldable pub none_told : Entries → Limits → CutKind → List (List ℕ) → List Item
none_told old limits k names =
    none_head_told k (total_weight old) ++ (set_told limits 170 names ++ (bar_told limits (set_end 170 names) old ++ limits_told old limits (bar_end (set_end 170 names))))

unfoldable pub none_height : Limits → List (List ℕ) → ℕ
none_height limits names = limits_end limits (bar_end (set_end 170 names))
