-- What is printed of flags of which some have floats means these flags, and which of them have floats.
use Rattle.std.specs.Prelude.{◌≡◌, ℕ, List, [], ◌∷◌, Bool, true, false, Some, Ok}
use Rattle.std.specs.List.{AllByRecursion}
use Rattle.std.specs.Str.{is_utf8}
use Rattle.json.specs.Json as json
use Rattle.json.specs.Print.{print}
use Rattle.json.specs.Tree.{json_tokens, HasNumbers, MembersHaveNumbers}
use Rattle.flag_text.specs.Grammar.{tree_from}
use Rattle.flag_text.specs.Shape.{Shape, text, Members, no_members, member}
use Rattle.spelled_numbers.specs.Floats.{has_floats, with_texts}
use Rattle.spelled_numbers.specs.Marks.{marks_in, marks_of_text}
use Rattle.flag_defs.specs.Definition.{Definition, broken, good}
use Rattle.flag_defs.specs.Document.{Definitions}
use Rattle.flag_defs.specs.Flags.{AreFlags}
use Rattle.flag_defs.specs.Floats.{Marks, MeansWithFloats, mark_of, marked, marked_with}
use Rattle.flag_defs.specs.Spelled.{printed_with_floats}

-- the values as texts, which are their spelling
abbrev pub as_texts : json.Members → Members
as_texts json.no_members = no_members
as_texts (json.member k j ms) = member k (text (print (json_tokens j))) (as_texts ms)

-- These texts are the spelling of variants with numbers that are not whole.
abbrev pub AreSpelled : Members → Type 0
AreSpelled vs = (ms : json.Members) × MembersHaveNumbers ms × (has_floats (json.object ms) ≡ true) × (as_texts ms ≡ vs)

-- so are the variants of a flag that has floats
abbrev pub IsSpelled : Definition → Bool → Type 0
IsSpelled broken false = Unit {0}
IsSpelled broken true = ⊥
IsSpelled (good r) false = Unit {0}
IsSpelled (good r) true = AreSpelled r.variants

-- the mark of each flag, under its key
abbrev pub AreMarked : Definitions → Marks → Type 0
AreMarked [] [] = Unit {0}
AreMarked [] (m ∷ ms) = ⊥
AreMarked (f ∷ fs) [] = ⊥
AreMarked (f ∷ fs) (m ∷ ms) = (m.0 ≡ f.0) × IsSpelled f.1 m.1 × AreMarked fs ms

-- a tree that a document with floats is read as, and the marks of its flags
abbrev pub IsMarked : Shape → Marks → Type 0
IsMarked t ms = (j : json.Json) × HasNumbers j × (tree_from (with_texts j) ≡ Some t) × (ms ≡ marks_in j)

-- each flag may have what the last mark of its key says
abbrev pub MayBeMarked : Marks → Definitions → Type 0
MayBeMarked ms fs = AllByRecursion (λ f. IsSpelled f.1 (marked_with f.1 (mark_of f.0 ms))) fs

-- What is printed for flags and their marks is a document with floats that means these flags, and gives them these marks.
abbrev pub PrintedWithFloatsReadsBack : Type 0
PrintedWithFloatsReadsBack = (fs : Definitions) (ms : Marks) → AreFlags fs → AreMarked fs ms → is_utf8 (printed_with_floats fs ms) ≡ true
    → MeansWithFloats (printed_with_floats fs ms) (Ok fs) × (marked (marks_of_text (printed_with_floats fs ms)) fs ≡ ms)

-- Flags that a document with floats means have the marks of the document so that they may be printed.
abbrev pub DocumentsAreMarked : Type 0
DocumentsAreMarked = (bytes : List ℕ) (fs : Definitions) → MeansWithFloats bytes (Ok fs) → AreMarked fs (marked (marks_of_text bytes) fs)
