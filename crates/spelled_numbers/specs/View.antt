-- What the types of this crate stand for.
use Rattle.std.specs.Prelude.{ℕ, List, Bool, string_bytes}
use Rattle.flag_text.specs.Shape.{Shape}
use Rattle.flag_text.specs.View.{view}
use Rattle.json.specs.Json.{Json}
use Rattle.spelled_numbers.specs.Floats.{has_whole_numbers, is_number, is_object, of_document, of_flag, of_flags, of_variants}
use Rattle.spelled_numbers.specs.declared.marks.Mark.{Mark}
use Rattle.spelled_numbers.specs.declared.read.Document.{Document}
use Rattle.spelled_numbers.specs.declared.texts.Level.{Level}
use Rattle.spelled_numbers.specs.declared.texts.Level.TheVariants as level
use Rattle.spelled_numbers.specs.declared.variants.Trait.{Trait}
use Rattle.spelled_numbers.specs.declared.variants.Trait.TheVariants as trait_of

-- what a value is tested for
abbrev pub test_of : Trait → Json → Bool
test_of trait_of.Number = is_number
test_of trait_of.Object = is_object
test_of trait_of.Whole = has_whole_numbers

-- what becomes of a member of an object
abbrev pub member_of : Level → List ℕ → Json → Json
member_of level.Document = of_document
member_of level.Flags = of_flags
member_of level.Flag = of_flag
member_of level.Variants = of_variants

-- how many levels are below it
abbrev pub rank : Level → ℕ
rank level.Document = 3
rank level.Flags = 2
rank level.Flag = 1
rank level.Variants = 0

-- a flag's key, and whether its variants have floats
abbrev pub mark_view : Mark → List ℕ × Bool
mark_view m = (string_bytes m.key, m.has_floats)

-- the tree of a document
abbrev pub tree_view : Document → Shape
tree_view d = view d.tree
