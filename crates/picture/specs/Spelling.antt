-- How the elements of a picture are spelled (Scalable Vector Graphics 2, chapters 5, 10 and 11).
use Rattle.std.specs.Prelude.{◌≡◌, ℕ, List, [], ◌∷◌, ◌++◌, ◌==◌, chars, codes, map, if◌then◌else◌, Option, Some, None}
use Rattle.std.specs.Fmt.{decimal, signed_decimal}
use Rattle.std.specs.List.{flat_map}
use Rattle.picture.specs.Escape.{begun, escaped}
use Rattle.picture.specs.Told.{Item, down, foot, told}
use Rattle.picture.specs.Words.{class_of, text_of, title_of}
use Rattle.picture.specs.declared.element.Band.{Band}
use Rattle.picture.specs.declared.element.Content.{Content}
use Rattle.picture.specs.declared.element.Content.TheVariants as content
use Rattle.picture.specs.declared.element.Element.{Element}
use Rattle.picture.specs.declared.element.Element.TheVariants as element
use Rattle.picture.specs.declared.element.Extent.{Extent}
use Rattle.picture.specs.declared.element.Look.{Look}
use Rattle.picture.specs.declared.element.Piece.{Piece}
use Rattle.picture.specs.declared.element.Place.{Place}
use Rattle.picture.specs.declared.print.TheConstants.{HEAD}
use Rattle.picture.specs.declared.words.Style.{Style}
use Rattle.picture.specs.declared.words.Title.{Title}
use Rattle.picture.specs.declared.words.Word.TheVariants as word

-- where a text stands, and where and how large a rectangle is
unfoldable pub at : Place → List ℕ
at p = codes " x=\"" ++ (decimal p.x ++ (codes "\" y=\"" ++ (decimal p.y ++ codes "\"")))

unfoldable pub sized : Extent → List ℕ
sized e = codes " width=\"" ++ (decimal e.width ++ (codes "\" height=\"" ++ (decimal e.height ++ codes "\"/>")))

-- a rectangle of a colour, and one of a pattern
unfoldable pub coloured : Look → Place → Extent → List ℕ
coloured l p e = codes "<rect class=\"c" ++ (decimal l.colour ++ (codes "\"" ++ (at p ++ sized e)))

unfoldable pub patterned : Look → Place → Extent → List ℕ
patterned l p e = codes "<rect fill=\"url(#p" ++ (decimal l.pattern ++ (codes ")\"" ++ (at p ++ sized e)))

-- the one over the other
unfoldable pub rectangles : Look → Place → Extent → List ℕ
rectangles l p e = coloured l p e ++ patterned l p e

-- the beginning of a name on its piece
unfoldable pub label : Piece → List ℕ
label p = if p.label == 0 then [] else codes "<text class=\"l\" dx=\"8\" dy=\"50\"" ++ (at p.place ++ (codes ">" ++ (begun p.label (chars p.name.now) ++ codes "</text>")))

unfoldable pub spelled_piece : Piece → List ℕ
spelled_piece p = codes "<g><title>" ++ (escaped p.name.now ++ (codes "</title>" ++ (rectangles p.look p.place p.extent ++ (label p ++ codes "</g>\n"))))

-- a number of users, where there is a place for it
unfoldable pub users_label : Option Place → ℕ → List ℕ
users_label None n = []
users_label (Some p) n = codes "<text class=\"l\" dx=\"8\" dy=\"50\"" ++ (at p ++ (codes ">" ++ (decimal n ++ codes "</text>")))

-- its names and numbers, which are shown where one points at it
unfoldable pub band_title : Band → List ℕ
band_title b =
    codes "<g><title>" ++ (escaped b.from.now ++ (codes " &#8594; " ++ (escaped b.to.now ++ (codes ": " ++ (decimal b.points ++ (codes " points, " ++ (decimal b.users ++ codes " users</title>")))))))

unfoldable pub spelled_band : Band → List ℕ
spelled_band b = band_title b ++ (rectangles b.look b.place b.extent ++ (users_label b.label b.users ++ codes "</g>\n"))

unfoldable pub spelled_content : Content → List ℕ
spelled_content (content.Word w) = text_of w
spelled_content (content.Number n) = decimal n
spelled_content (content.Counted w n) = text_of w ++ (codes ": " ++ decimal n)
spelled_content (content.Signed z) = signed_decimal z
spelled_content (content.Price (Some n)) = decimal n
spelled_content (content.Price None) = text_of word.NotAllowed

unfoldable pub spelled_text : Style → Place → Content → List ℕ
spelled_text s p c = codes "<text class=\"" ++ (class_of s ++ (codes "\"" ++ (at p ++ (codes ">" ++ (spelled_content c ++ codes "</text>\n")))))

unfoldable pub spelled_name : Place → ℕ → List ℕ → List ℕ
spelled_name p size t = codes "<text class=\"r\" style=\"font-size:" ++ (decimal size ++ (codes "px\"" ++ (at p ++ (codes ">" ++ (escaped t ++ codes "</text>\n")))))

unfoldable pub spelled_line : Place → Extent → List ℕ
spelled_line p e = codes "<rect class=\"s\"" ++ (at p ++ sized e)

abbrev pub spelled : Element → List ℕ
spelled (element.Text s p c) = spelled_text s p c
spelled (element.Name p size t) = spelled_name p size t.now
spelled (element.Piece p) = spelled_piece p
spelled (element.Band b) = spelled_band b
spelled (element.Line p e) = spelled_line p e

-- the elements of a picture, so far below the top of its page
unfoldable pub placed : ℕ → List Element → List ℕ
placed y es = codes "<g transform=\"translate(0 " ++ (decimal y ++ (codes ")\">\n" ++ (flat_map spelled es ++ codes "</g>\n")))

-- pictures on a page of this height, below its title and its style sheet
unfoldable pub page : Title → ℕ → List ℕ → List ℕ
page title height pictures =
    codes "<svg xmlns=\"http://www.w3.org/2000/svg\" role=\"img\" viewBox=\"0 0 1200 " ++ (decimal height ++ (codes "\">\n<title>" ++ (title_of title ++ (codes "</title>\n" ++ (HEAD.now ++ (pictures ++ codes "</svg>\n"))))))

-- a picture that tells this was added to those that were there, so far below the top of the page
unfoldable pub Adds : ℕ → List Item → List ℕ → List ℕ → Type 0
Adds y items before after = (es : List Element) × (after ≡ before ++ placed y es) × (told es ≡ items)

-- pictures one below the other, from so far below the top on: how high each is, and its elements
abbrev pub stacked : ℕ → List (ℕ × List Element) → List ℕ
stacked y [] = []
stacked y (d ∷ ds) = placed y d.1 ++ stacked (down y d.0) ds

-- the pictures of a page: how high each is, and what it tells
abbrev pub Pictures : Type 0
Pictures = List (ℕ × List Item)

-- how far below the top of the page they end
abbrev pub depth : {X : Type 0} → List (ℕ × X) → ℕ
depth ps = foot (λ y p. down y p.0) 0 ps

-- they are on the page, from its top on
unfoldable pub IsBody : Pictures → List ℕ → Type 0
IsBody ps bytes = (ds : List (ℕ × List Element)) × (bytes ≡ stacked 0 ds) × (map (λ d. (d.0, told d.1)) ds ≡ ps)

-- these pictures were added below others, which end so far below the top of the page, and then all end so far below it
abbrev pub Continues : Pictures → ℕ → ℕ → List ℕ → List ℕ → Type 0
Continues ps y end before after = (above : Pictures) → IsBody above before → y ≡ depth above → IsBody (above ++ ps) after × (end ≡ depth (above ++ ps))

-- a page of this title that has these pictures, and is as high as they are
unfoldable pub IsPicture : Title → Pictures → List ℕ → Type 0
IsPicture title ps bytes = (pictures : List ℕ) × (bytes ≡ page title (depth ps) pictures) × IsBody ps pictures
