-- What a flag document is, as bytes (flagd: flag configuration), and how flags are printed as one.
use Rattle.std.specs.Prelude.{◌≡◌, ℕ, List, [], ◌∷◌, codes, length, nat_lt, ◌||◌, if◌then◌else◌, Option, Some, None, option_and_then, Result, Ok, Err}
use Rattle.limits.specs.Limits.{flags, text_bytes}
use Rattle.flag_text.specs.Printing.{text_of}
use Rattle.flag_text.specs.Reading.{doc_of}
use Rattle.flag_text.specs.Readers.{as_object, member_of}
use Rattle.flag_text.specs.Shape.{Shape, text, object, Members, no_members, member}
use Rattle.flag_text.specs.declared.fault.TextFault.{TextFault}
use Rattle.flag_text.specs.declared.fault.TextFault.TheVariants as text_fault
use Rattle.logic_ast.specs.Expression.{Expression}
use Rattle.logic_ast.specs.Writing.{written}
use Rattle.flag_defs.specs.Definition.{Definition, broken, good, Rules, Means}
use Rattle.flag_defs.specs.declared.fault.DefFault.{DefFault}
use Rattle.flag_defs.specs.declared.fault.DefFault.TheVariants.{NotJson, NoFlags, TooLarge}

-- flags by their keys, in the order of the keys
abbrev pub Definitions : Type 0
Definitions = List (List ℕ × Definition)

-- ---- printing

abbrev pub with_default : Option (List ℕ) → Members → Members
with_default None ms = ms
with_default (Some name) ms = member (codes "defaultVariant") (text name) ms

abbrev pub with_targeting : Option Expression → Members → Members
with_targeting None ms = ms
with_targeting (Some e) ms = member (codes "targeting") (written e) ms

abbrev pub state_text : Rules → List ℕ
state_text r = if r.enabled then codes "ENABLED" else codes "DISABLED"

-- A flag as it is written: a broken one as `{}`.
abbrev pub definition_written : Definition → Shape
definition_written broken = object no_members
definition_written (good r) =
    object (with_default r.default_variant (member (codes "state") (text (state_text r)) (with_targeting r.targeting (member (codes "variants") (object r.variants) no_members))))

abbrev pub definitions_written : Definitions → Members
definitions_written [] = no_members
definitions_written (f ∷ fs) = member f.0 (definition_written f.1) (definitions_written fs)

abbrev pub printed : Definitions → List ℕ
printed fs = text_of (object (member (codes "flags") (object (definitions_written fs)) no_members))

-- ---- limits

abbrev pub max_flags : ℕ
max_flags = flags

abbrev pub max_bytes : ℕ
max_bytes = text_bytes

-- too many flags, or too many bytes when they are printed
abbrev pub limited : Definitions → Result Definitions DefFault
limited fs = if nat_lt max_flags (length fs) || nat_lt max_bytes (length (printed fs)) then Err TooLarge else Ok fs

-- ---- reading

-- each flag's key, and what its definition means
abbrev pub AllMean : Members → Members → Definitions → Type 0
AllMean evaluators no_members [] = Unit {0}
AllMean evaluators no_members (f ∷ fs) = ⊥
AllMean evaluators (member k t ms) [] = ⊥
AllMean evaluators (member k t ms) (f ∷ fs) = (f.0 ≡ k) × Means evaluators t f.1 × AllMean evaluators ms fs

abbrev pub or_no_members : Option Members → Members
or_no_members None = no_members
or_no_members (Some ms) = ms

-- the evaluators of a document: none, where they are no object
abbrev pub evaluators_in : Shape → Members
evaluators_in t = or_no_members (option_and_then as_object (member_of (codes "$evaluators") t))

abbrev pub flags_in : Shape → Option Members
flags_in t = option_and_then as_object (member_of (codes "flags") t)

abbrev pub FlagsMean : Members → Option Members → Result Definitions DefFault → Type 0
FlagsMean evaluators None r = r ≡ Err NoFlags
FlagsMean evaluators (Some ms) r = (fs : Definitions) × AllMean evaluators ms fs × (r ≡ limited fs)

-- The refusals of a document in their order: too many bytes, no JSON, no object of flags, and too much when printed.
abbrev pub TextMeans : Result Shape TextFault → Result Definitions DefFault → Type 0
TextMeans (Ok t) r = FlagsMean (evaluators_in t) (flags_in t) r
TextMeans (Err text_fault.TooLarge) r = r ≡ Err TooLarge
TextMeans (Err e) r = r ≡ Err NotJson

abbrev pub DocumentMeans : List ℕ → Result Definitions DefFault → Type 0
DocumentMeans bytes r = TextMeans (doc_of bytes max_bytes) r

-- a document means one thing
abbrev pub HasOneMeaning : Type 0
HasOneMeaning = (bytes : List ℕ) (r s : Result Definitions DefFault) → DocumentMeans bytes r → DocumentMeans bytes s → r ≡ s
