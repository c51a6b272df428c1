-- What the picture of a rule that replaces another tells, and how high it is.
use Rattle.std.specs.Prelude.{Bool, ℕ, max, ℤ, List, [], ◌∷◌, ◌++◌, length, nat_lt, ◌||◌, Option, Some, None, if◌then◌else◌}
use Rattle.std.specs.List.{range_with_len}
use Rattle.std.specs.Map.{keys_of, lookup}
use Rattle.std.specs.Str.{bytes_eq}
use Rattle.bucket_core.specs.Rule.{Entries, total_of, total_weight}
use Rattle.price_core.specs.Limits.{Limits}
use Rattle.price_core.specs.Pricing.{Pricing, is_forbidden, price_of}
use Rattle.rule_switches.specs.Runs.{Run}
use Rattle.rule_switches.specs.Table.{name_of, switch_at}
use Rattle.rule_switches.specs.declared.table.PairSwitches.{PairSwitches}
use Rattle.transport_core.specs.Certificate.{DualPrices}
use Rattle.picture.specs.Told.{Item, text, name, bar_told, column, foot, heading, next_row, number, numbers_at, rows_told, runs_told, spot, swatch}
use Rattle.picture.specs.declared.element.Content.TheVariants as content
use Rattle.picture.specs.declared.element.Place.{Place}
use Rattle.picture.specs.declared.words.Style.TheVariants as style
use Rattle.picture.specs.declared.words.Word.TheVariants as word

-- its cost, and the captions of both bars with the number of the points
abbrev pub head_told : ℕ → ℕ → List Item
head_told cost total =
    text style.Title (spot 40 66) (content.Counted word.Cost cost) ∷ text style.Row (spot 40 110) (content.Word word.Least) ∷ heading 40 170 word.Before ∷ text style.Value (spot 1160 170) (content.Counted word.Points total) ∷ heading 40 466 word.After ∷ []

-- the old rule below the one caption, the runs that move, and the new rule above the other
abbrev pub bars_told : Limits → Entries → Entries → List Run → List Item
bars_told limits old new runs = bar_told limits 184 old ++ (runs_told limits (total_weight old) 0 runs ++ bar_told limits 344 new)

-- ---- the variants

abbrev pub variant_headings : ℕ → List Item
variant_headings y = heading 100 y word.Variant ∷ column 600 y word.Before ∷ column 720 y word.After ∷ column 860 y word.AtLeast ∷ column 990 y word.AtMost ∷ column 1160 y word.DualPrice ∷ []

-- a variant at a height, with its points before and after, and its limits, at another
abbrev pub totals_told : Limits → Entries → Entries → ℕ → ℕ → List ℕ × (ℕ × ℕ) → List Item
totals_told limits old new y z l =
    swatch limits y l.0 ∷ name (spot 100 y) l.0 ∷ number 600 z (total_of old l.0) ∷ number 720 z (total_of new l.0) ∷ number 860 z l.1.0 ∷ number 990 z l.1.1 ∷ []

abbrev pub dual_told : ℕ → Option ℤ → List Item
dual_told y None = []
dual_told y (Some z) = text style.Value (spot 1160 y) (content.Signed z) ∷ []

-- the row of a variant, with its dual price
abbrev pub variant_told : Limits → Entries → Entries → List (List ℕ × ℤ) → ℕ → List ℕ × (ℕ × ℕ) → List Item
variant_told limits old new duals y l = totals_told limits old new y (numbers_at 26 y l.0) l ++ dual_told (numbers_at 26 y l.0) (lookup (bytes_eq l.0) duals)

abbrev pub variant_end : ℕ → List ℕ × (ℕ × ℕ) → ℕ
variant_end y l = next_row (numbers_at 26 y l.0)

-- all of them below their headings, and a row below them
abbrev pub variants_told : Entries → Entries → Limits → List (List ℕ × ℤ) → ℕ → List Item
variants_told old new limits duals y = variant_headings y ++ rows_told (variant_told limits old new duals) variant_end (next_row y) limits

abbrev pub variants_end : Limits → ℕ → ℕ
variants_end limits y = next_row (foot variant_end (next_row y) limits)

-- ---- the switches between them

abbrev pub switch_headings : ℕ → List Item
switch_headings y = heading 100 y word.From ∷ heading 410 y word.To ∷ column 820 y word.Points ∷ column 970 y word.Users ∷ column 1160 y word.Price ∷ []

-- the price of a change, where it is allowed
abbrev pub price_told : Pricing → List ℕ → List ℕ → Option ℕ
price_told pricing a b = if is_forbidden pricing a b then None else Some (price_of pricing a b)

-- whether the names of a switch have a row each
abbrev pub are_long : List ℕ → List ℕ → Bool
are_long a b = nat_lt 17 (max (length a) (length b))

-- where the second name stands: beside the first, or below it
abbrev pub second_at : ℕ → List ℕ → List ℕ → Place
second_at y a b = if are_long a b then spot 100 (next_row y) else spot 410 y

abbrev pub names_told : ℕ → List ℕ → List ℕ → List Item
names_told y a b = name (spot 100 y) a ∷ name (second_at y a b) b ∷ []

-- where its numbers stand
abbrev pub pair_end : ℕ → List ℕ → List ℕ → ℕ
pair_end y a b = if are_long a b then next_row (next_row y) else y

-- whether a switch is in the table: it has points or is not allowed
abbrev pub is_listed : Pricing → List ℕ → List ℕ → PairSwitches → Bool
is_listed pricing a b s = nat_lt 0 s.points || is_forbidden pricing a b

-- such a switch with its names, its points, its users and its price
abbrev pub switch_told : Pricing → ℕ → List ℕ → List ℕ → PairSwitches → List Item
switch_told pricing y a b s =
    if is_listed pricing a b s then names_told y a b ++ (number 820 (pair_end y a b) s.points ∷ number 970 (pair_end y a b) s.users ∷ text style.Value (spot 1160 (pair_end y a b)) (content.Price (price_told pricing a b)) ∷ []) else []

abbrev pub switch_end : Pricing → ℕ → List ℕ → List ℕ → PairSwitches → ℕ
switch_end pricing y a b s = if is_listed pricing a b s then next_row (pair_end y a b) else y

-- the switch from one variant to another, by their numbers
abbrev pub between_told : Pricing → List (List ℕ) → ℕ × List PairSwitches → ℕ → ℕ → ℕ → List Item
between_told pricing names t i y j = switch_told pricing y (name_of names i) (name_of names j) (switch_at t i j)

abbrev pub between_end : Pricing → List (List ℕ) → ℕ × List PairSwitches → ℕ → ℕ → ℕ → ℕ
between_end pricing names t i y j = switch_end pricing y (name_of names i) (name_of names j) (switch_at t i j)

-- those from one variant to each
abbrev pub row_told : Pricing → List (List ℕ) → ℕ × List PairSwitches → ℕ → ℕ → List Item
row_told pricing names t y i = rows_told (between_told pricing names t i) (between_end pricing names t i) y (range_with_len 0 t.0)

abbrev pub row_end : Pricing → List (List ℕ) → ℕ × List PairSwitches → ℕ → ℕ → ℕ
row_end pricing names t y i = foot (between_end pricing names t i) y (range_with_len 0 t.0)

-- those from each, below their headings
abbrev pub table_told : Pricing → List (List ℕ) → ℕ × List PairSwitches → ℕ → List Item
table_told pricing names t y = switch_headings y ++ rows_told (row_told pricing names t) (row_end pricing names t) (next_row y) (range_with_len 0 t.0)

abbrev pub table_end : Pricing → List (List ℕ) → ℕ × List PairSwitches → ℕ → ℕ
table_end pricing names t y = foot (row_end pricing names t) (next_row y) (range_with_len 0 t.0)

-- ---- the picture

-- the cost and the points, both rules and the runs that move between them, the variants, and the switches between these
unfoldable pub change_told : Entries → Entries → Limits → Pricing → List Run → ℕ × List PairSwitches → DualPrices → List Item
change_told old new limits pricing runs t duals =
    head_told duals.cost (total_weight old) ++ (bars_told limits old new runs ++ (variants_told old new limits duals.beta 540 ++ table_told pricing (keys_of limits) t (variants_end limits 540)))

unfoldable pub change_height : Limits → Pricing → ℕ × List PairSwitches → ℕ
change_height limits pricing t = table_end pricing (keys_of limits) t (variants_end limits 540)
