-- What the picture of an edit tells, and how high it is: what the edit of a rule does to recorded inputs.
use Rattle.std.specs.Prelude.{ℕ, List, [], ◌∷◌, ◌++◌, map}
use Rattle.bucket_core.specs.Rule.{Entries, total_of, total_weight}
use Rattle.price_core.specs.Limits.{Limits}
use Rattle.price_core.specs.Pricing.{Pair}
use Rattle.rule_switches.specs.Edit.{contiguous}
use Rattle.rule_switches.specs.Switches.{Rows}
use Rattle.picture.specs.Changes.{names_told, pair_end}
use Rattle.picture.specs.Told.{Item, text, name, bar_told, column, foot, heading, named_told, next_row, number, numbers_at, rows_told, spot}
use Rattle.picture.specs.declared.element.Content.TheVariants as content
use Rattle.picture.specs.declared.words.Style.TheVariants as style
use Rattle.picture.specs.declared.words.Word.{Word}
use Rattle.picture.specs.declared.words.Word.TheVariants as word

-- The names of both rules, each once: those of the old one by its order, and then those that are new. A name has its look by its place among
-- them; there are no limits on any.
abbrev pub names_of : Entries → Entries → Limits
names_of old new = map (λ e. (e.0, (0, 0))) (contiguous old new)

-- the key of the flag, the number of its site, how many inputs there are and how many of them switch
abbrev pub edit_head_told : List ℕ → ℕ → ℕ → ℕ → List Item
edit_head_told flag site inputs switched =
    name (spot 40 66) flag ∷ text style.Row (spot 40 114) (content.Counted word.Site site) ∷ text style.Value (spot 600 114) (content.Counted word.Inputs inputs) ∷ text style.Value (spot 1160 114) (content.Counted word.Switched switched) ∷ []

-- a caption above a bar, with the number of its points
abbrev pub caption_told : Word → ℕ → ℕ → List Item
caption_told w y total = heading 40 y w ∷ text style.Value (spot 1160 y) (content.Counted word.Points total) ∷ []

-- the old rule and the new one, each below its caption: a point is as wide as its rule has room for, and both bars are of one width
abbrev pub both_told : Limits → Entries → Entries → List Item
both_told names old new = caption_told word.Before 170 (total_weight old) ++ (bar_told names 184 old ++ (caption_told word.After 306 (total_weight new) ++ bar_told names 320 new))

-- ---- the variants

abbrev pub points_headings : ℕ → List Item
points_headings y = heading 100 y word.Variant ∷ column 990 y word.Before ∷ column 1160 y word.After ∷ []

-- a variant with its points before and after
abbrev pub points_told : Limits → Entries → Entries → ℕ → List ℕ × (ℕ × ℕ) → List Item
points_told names old new y l = named_told names y l.0 ++ (number 990 (numbers_at 34 y l.0) (total_of old l.0) ∷ number 1160 (numbers_at 34 y l.0) (total_of new l.0) ∷ [])

abbrev pub points_end : ℕ → List ℕ × (ℕ × ℕ) → ℕ
points_end y l = next_row (numbers_at 34 y l.0)

-- all of them below their headings, and a row below them
abbrev pub all_points_told : Limits → Entries → Entries → ℕ → List Item
all_points_told names old new y = points_headings y ++ rows_told (points_told names old new) points_end (next_row y) names

abbrev pub all_points_end : Limits → ℕ → ℕ
all_points_end names y = next_row (foot points_end (next_row y) names)

-- ---- the inputs that switch

abbrev pub input_headings : ℕ → List Item
input_headings y = heading 100 y word.From ∷ heading 410 y word.To ∷ column 1160 y word.Inputs ∷ []

-- how many inputs go from one name to another
abbrev pub inputs_told : ℕ → Pair × ℕ → List Item
inputs_told y r = names_told y r.0.0 r.0.1 ++ (number 1160 (pair_end y r.0.0 r.0.1) r.1 ∷ [])

abbrev pub inputs_end : ℕ → Pair × ℕ → ℕ
inputs_end y r = next_row (pair_end y r.0.0 r.0.1)

abbrev pub all_inputs_told : Rows → ℕ → List Item
all_inputs_told rows y = input_headings y ++ rows_told inputs_told inputs_end (next_row y) rows

abbrev pub all_inputs_end : Rows → ℕ → ℕ
all_inputs_end rows y = foot inputs_end (next_row y) rows

-- ---- the picture

-- where it is and what it comes to, both rules, the variants, and the inputs that go from each to each other one
unfoldable pub edit_told : List ℕ → ℕ → ℕ → ℕ → Entries → Entries → Rows → List Item
edit_told flag site inputs switched old new rows =
    edit_head_told flag site inputs switched ++ (both_told (names_of old new) old new ++ (all_points_told (names_of old new) old new 466 ++ all_inputs_told rows (all_points_end (names_of old new) 466)))

unfoldable pub edit_height : Entries → Entries → Rows → ℕ
edit_height old new rows = all_inputs_end rows (all_points_end (names_of old new) 466)

-- ---- no page that was compared

abbrev pub no_page_told : Item
no_page_told = text style.Title (spot 40 66) (content.Word word.NoPage)

abbrev pub no_page_height : ℕ
no_page_height = 100
