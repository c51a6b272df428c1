-- What a picture tells: its texts and names at their places, the points that each bar and each band stands for, and the look of each variant.
use Rattle.std.specs.Prelude.{ℕ, ◌+◌, ◌-◌, ◌*◌, ◌/◌, ◌%◌, ◌^◌, min, List, [], ◌∷◌, ◌++◌, map, length, nat_lt, position, unwrap_or, if◌then◌else◌}
use Rattle.std.specs.List.{flat_map}
use Rattle.std.specs.Str.{bytes_eq}
use Rattle.bucket_core.specs.Rule.{Entries, total_weight}
use Rattle.price_core.specs.Limits.{Limits}
use Rattle.rule_switches.specs.Runs.{Run}
use Rattle.picture.specs.declared.element.Content.{Content}
use Rattle.picture.specs.declared.element.Content.TheVariants as content
use Rattle.picture.specs.declared.element.Element.{Element}
use Rattle.picture.specs.declared.element.Element.TheVariants as element
use Rattle.picture.specs.declared.element.Extent.{Extent}
use Rattle.picture.specs.declared.element.Look.{Look}
use Rattle.picture.specs.declared.element.Place.{Place}
use Rattle.picture.specs.declared.words.Style.{Style}
use Rattle.picture.specs.declared.words.Style.TheVariants as style
use Rattle.picture.specs.declared.words.Word.{Word}
use Rattle.picture.specs.declared.words.Word.TheVariants as word

-- What an element tells: a text or a name at its place; a rectangle in the look of a variant; points that go from one variant to another with
-- their number and that of their users, as a rectangle in the look of the second.
pub data Item : Type 0 where
  text : Style → Place → Content → Item
  name : Place → List ℕ → Item
  piece : List ℕ → Look → Place → Extent → Item
  band : List ℕ → List ℕ → ℕ → ℕ → Look → Place → Extent → Item

-- The letters on bars and bands, the size of a name's letters, and the lines between points are for the eye.
abbrev pub told_element : Element → List Item
told_element (element.Text s p c) = text s p c ∷ []
told_element (element.Name p n t) = name p t.now ∷ []
told_element (element.Piece p) = piece p.name.now p.look p.place p.extent ∷ []
told_element (element.Band b) = band b.from.now b.to.now b.points b.users b.look b.place b.extent ∷ []
told_element (element.Line p e) = []

abbrev pub told : List Element → List Item
told es = flat_map told_element es

-- ---- places

abbrev pub spot : ℕ → ℕ → Place
spot x y = record { x = x; y = y }

-- so far down from a height, and no further than numbers go
abbrev pub down : ℕ → ℕ → ℕ
down y n = min (y + n) (2 ^ 64 - 1)

-- a row is 46 high
abbrev pub next_row : ℕ → ℕ
next_row y = down y 46

-- what rows tell one below the other, from a height on, by where each ends
abbrev pub rows_told : {A : Type 0} → (ℕ → A → List Item) → (ℕ → A → ℕ) → ℕ → List A → List Item
rows_told tell end y [] = []
rows_told tell end y (a ∷ rest) = tell y a ++ rows_told tell end (end y a) rest

-- where they end
abbrev pub foot : {A : Type 0} → (ℕ → A → ℕ) → ℕ → List A → ℕ
foot end y [] = y
foot end y (a ∷ rest) = foot end (end y a) rest

-- ---- texts

-- a number that ends at a place
abbrev pub number_element : ℕ → ℕ → ℕ → Element
number_element x y n = element.Text style.Value (spot x y) (content.Number n)

abbrev pub number : ℕ → ℕ → ℕ → Item
number x y n = text style.Value (spot x y) (content.Number n)

-- a heading over names, and one over numbers
abbrev pub heading : ℕ → ℕ → Word → Item
heading x y w = text style.Heading (spot x y) (content.Word w)

abbrev pub column : ℕ → ℕ → Word → Item
column x y w = text style.Value (spot x y) (content.Word w)

-- headings of the program, at a height
abbrev pub headings_told : ℕ → List (Style × ℕ × Word) → List Item
headings_told y hs = map (λ h. text h.0 (spot h.1 y) (content.Word h.2)) hs

-- ---- looks

-- a colour and a pattern for each place: no two of 64 have both
abbrev pub look_at : ℕ → Look
look_at i = record { colour = i % 8; pattern = (i + i / 8) % 8 }

-- the look of a variant, by its place among the limits
abbrev pub look_of : Limits → List ℕ → Look
look_of limits n = look_at (unwrap_or (position (λ l. bytes_eq l.0 n) limits) 0)

-- the look of a variant in the row of its name
abbrev pub swatch : Limits → ℕ → List ℕ → Item
swatch limits y n = piece n (look_of limits n) (spot 40 (y - 26)) (record { width = 44; height = 32 })

-- a name behind its look
abbrev pub named_told : Limits → ℕ → List ℕ → List Item
named_told limits y n = swatch limits y n ∷ name (spot 100 y) n ∷ []

-- where the numbers of such a row stand: below a name of more bytes than this, which has a row of its own
abbrev pub numbers_at : ℕ → ℕ → List ℕ → ℕ
numbers_at most y n = if nat_lt most (length n) then next_row y else y

-- ---- points over the width of a picture

-- how far from the left edge a point begins, of so many: the points share 1120 units, from 40 on
abbrev pub edge : ℕ → ℕ → ℕ
edge total p = 40 + (p * 1120) / total

-- the rectangle of the points from one to another, at a height
abbrev pub place_of : ℕ → ℕ → ℕ → Place
place_of y total p = record { x = edge total p; y = y }

abbrev pub extent_of : ℕ → ℕ → ℕ → Extent
extent_of total p q = record { width = edge total q - edge total p; height = 80 }

-- the bar of the entries of a rule, from a point on: each with its name and its look over its points
abbrev pub pieces_told : Limits → ℕ → ℕ → ℕ → Entries → List Item
pieces_told limits y total p [] = []
pieces_told limits y total p (e ∷ es) = piece e.0 (look_of limits e.0) (place_of y total p) (extent_of total p (p + e.1)) ∷ pieces_told limits y total (p + e.1) es

-- that of a rule
abbrev pub bar_told : Limits → ℕ → Entries → List Item
bar_told limits y rule = pieces_told limits y (total_weight rule) 0 rule

-- the point behind a run
abbrev pub behind : ℕ → ℕ → Run → ℕ
behind total p r = min (p + r.points) total

-- a run that moves, with its names, its points, its users and the look of its new name, between the two bars
abbrev pub run_told : Limits → ℕ → ℕ → Run → List Item
run_told limits total p r =
    if bytes_eq r.from r.to then [] else band r.from r.to r.points r.users (look_of limits r.to) (place_of 264 total p) (extent_of total p (behind total p r)) ∷ []

-- those of runs, from a point on
abbrev pub runs_told : Limits → ℕ → ℕ → List Run → List Item
runs_told limits total p [] = []
runs_told limits total p (r ∷ rs) = run_told limits total p r ++ runs_told limits total (behind total p r) rs

-- ---- the number of a step

abbrev pub step_told : ℕ → Item
step_told n = text style.Title (spot 40 96) (content.Counted word.Step n)

abbrev pub step_height : ℕ
step_height = 100
