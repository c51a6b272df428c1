-- What `check` prints of documents.
use Rattle.std.specs.Prelude.{ℕ, Bool, not, List, ◌++◌, codes, flat_map, length, map, nat_eq, if◌then◌else◌}
use Rattle.std.specs.List.{filter}
use Rattle.flag_text.specs.Printing.{text_of}
use Rattle.flag_text.specs.Shape.{Shape, text, list, object, no_members, member}
use Rattle.flag_text.specs.View.{items_of}
use Rattle.flagops_checks.specs.Judged.{Checked, Judged, is_doubted}
use Rattle.flagops_checks.specs.declared.form.Form.{Form}
use Rattle.flagops_checks.specs.declared.objects.Listed.{Listed}
use Rattle.flagops_checks.specs.declared.objects.Listed.TheVariants.{Broken, Doubted, Good}

-- how documents are read and printed: with floats or without, as JSON or not, and whether there is one alone
abbrev pub form_of : Bool → Bool → List (List ℕ) → Form
form_of json floats paths = record { floats = floats; is_json = json; is_alone = nat_eq (length paths) 1 }

abbrev pub good_or_broken : Bool → List ℕ
good_or_broken is_broken = if is_broken then codes " broken\n" else codes " good\n"

-- a line for each flag: its key as a JSON text, and whether it is good
abbrev pub flag_line : Judged → List ℕ
flag_line j = text_of (text j.key) ++ good_or_broken j.is_broken

abbrev pub flag_lines : List Judged → List ℕ
flag_lines js = flat_map flag_line js

-- a line with the path as a JSON text
abbrev pub document_line : List ℕ → List ℕ
document_line path = codes "document " ++ (text_of (text path) ++ codes "\n")

-- A flag stands in the list of the broken, of the doubted, or of the good, which are those that are not broken, doubted or not.
abbrev pub in_list : Listed → Judged → Bool
in_list Broken j = j.is_broken
in_list Doubted j = is_doubted j
in_list Good j = not j.is_broken

-- the keys of such flags, in their order
abbrev pub keys_in : Listed → List Judged → List (List ℕ)
keys_in which js = map (λ j. j.key) (filter (in_list which) js)

abbrev pub keys_shape : Listed → List Judged → Shape
keys_shape which js = list (items_of (map text (keys_in which js)))

-- an object with the path and these keys
abbrev pub document_shape : List ℕ → List Judged → Shape
document_shape path js = object
    (member (codes "broken") (keys_shape Broken js)
    (member (codes "document") (text path)
    (member (codes "doubted") (keys_shape Doubted js)
    (member (codes "good") (keys_shape Good js) no_members))))

-- what is printed of one document: its object in a line, or the lines of its flags, and before them its own where there are others
unfoldable pub document_text : Form → List ℕ → List Judged → List ℕ
document_text form path js =
    if form.is_json then text_of (document_shape path js) ++ codes "\n"
    else (if form.is_alone then flag_lines js else document_line path ++ flag_lines js)

-- of all, one behind the other
abbrev pub report_text : Form → List Checked → List ℕ
report_text form cs = flat_map (λ c. document_text form c.path c.flags) cs
