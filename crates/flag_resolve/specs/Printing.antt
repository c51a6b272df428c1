-- How a resolution is printed.
use Rattle.std.specs.Prelude.{ℕ, pos, Bool, List, [], ◌∷◌, ◌++◌, map, codes, Option, Some, None, option_map}
use Rattle.flag_text.specs.Printing.{text_of}
use Rattle.flag_text.specs.Shape.{Shape, null, whole, text, list, object, no_items, item, no_members, member}
use Rattle.flag_text.specs.View.{items_of}
use Rattle.logic_eval.specs.Run.{Reach}
use Rattle.flag_defs.specs.Spelled.{value_spelled}
use Rattle.flag_resolve.specs.Resolved.{Resolved}
use Rattle.flag_resolve.specs.Words.{reason_word, code_word}

-- a text, or null where there is none
abbrev pub text_or_null : Option (List ℕ) → Shape
text_or_null None = null
text_or_null (Some s) = text s

-- [site,input,total]
abbrev pub reach_shape : Reach → Shape
reach_shape r = list (item (whole (pos r.site)) (item (text r.input) (item (whole (pos r.total)) no_items)))

-- {"code":..,"reached":..,"reason":..,"value":..,"variant":..}
abbrev pub details : Shape → Shape → Shape → Shape → Shape → Shape
details code reached reason value variant =
    object (member (codes "code") code (member (codes "reached") reached (member (codes "reason") reason
    (member (codes "value") value (member (codes "variant") variant no_members)))))

-- a resolution as an object
abbrev pub resolution_shape : Resolved → Shape
resolution_shape r =
    details (text_or_null (option_map code_word r.code)) (list (items_of (map reach_shape r.reached))) (text (reason_word r.reason)) r.value (text_or_null r.variant)

-- ---- the text of a resolution

-- a resolution whose value has these bytes
abbrev pub resolution_around : List ℕ → Resolved → List ℕ
resolution_around value r =
    codes "{\"code\":" ++ (text_of (text_or_null (option_map code_word r.code)) ++ (codes ",\"reached\":" ++ (text_of (list (items_of (map reach_shape r.reached)))
    ++ (codes ",\"reason\":" ++ (text_of (text (reason_word r.reason)) ++ (codes ",\"value\":" ++ (value ++ (codes ",\"variant\":" ++ (text_of (text_or_null r.variant) ++ codes "}")))))))))

-- the same where the value may stand as a text that is its spelling
abbrev pub resolution_spelled : Bool → Resolved → List ℕ
resolution_spelled spelled r = resolution_around (value_spelled spelled r.value) r

-- a resolution as a compact JSON text
unfoldable pub resolution_text : Resolved → List ℕ
resolution_text r = text_of (resolution_shape r)

-- what follows the first item in the text of a list
abbrev pub others_text : List Shape → List ℕ
others_text [] = codes "]"
others_text (t ∷ ts) = codes "," ++ (text_of t ++ others_text ts)

abbrev pub list_text : List Shape → List ℕ
list_text [] = codes "[]"
list_text (t ∷ ts) = codes "[" ++ (text_of t ++ others_text ts)
