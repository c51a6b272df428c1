-- What a flag resolves to where flags may have floats: the values of these stand as texts, which are their spelling.
use Rattle.std.specs.Prelude.{◌≡◌, ◌↔◌, ◌⊎◌, ◌&&◌, ℕ, Bool, List, true, false, is_some, Option, Some, None, option_map}
use Rattle.flag_text.specs.Shape.{Shape, text}
use Rattle.flag_defs.specs.Document.{Definitions}
use Rattle.flag_defs.specs.Floats.{Marks, are_unmarked, floats_at}
use Rattle.flag_defs.specs.Kind.{is_of_kind}
use Rattle.flag_defs.specs.declared.kind.Kind.{Kind}
use Rattle.flag_defs.specs.declared.kind.Kind.TheVariants as kind
use Rattle.flag_resolve.specs.Printing.{resolution_spelled, resolution_text}
use Rattle.flag_resolve.specs.Resolution.{resolved_by}
use Rattle.flag_resolve.specs.Resolved.{Resolved}

-- What is asked for in place of the wanted kind, by the kind of the flag's floats: who wants that kind asks for a text, and
-- anyone else for a whole number, which no text is. A flag without floats is asked for what is wanted.
abbrev pub kind_asked : Option Kind → Kind → Kind
kind_asked None want = want
kind_asked (Some kind.Float) kind.Float = kind.Text
kind_asked (Some kind.Object) kind.Object = kind.Text
kind_asked (Some k) want = kind.Whole

-- flags, and which of them have floats
abbrev pub Marked : Type 0
Marked = Definitions × Marks

-- the kind of the floats of the flag of this key
abbrev pub floats_in : Option Marked → List ℕ → Option Kind
floats_in None key = None
floats_in (Some f) key = floats_at key f.0 f.1

-- the same of what a caller gives: the flags, the kind and the default, the context with the flag's key and the moment
abbrev pub resolved_with_floats : Option Marked → Kind → Shape → Shape → List ℕ → ℕ → Resolved
resolved_with_floats flags want default context key moment =
    resolved_by (option_map (λ f. f.0) flags) (kind_asked (floats_in flags key) want) default context key moment

-- the value of a resolution stands as a text that is its spelling: it is that of a variant of a flag with floats
abbrev pub is_spelled : Option Marked → List ℕ → Resolved → Bool
is_spelled flags key r = is_some r.variant && is_some (floats_in flags key)

-- ---- laws

-- Flags of which none has floats resolve as they do without floats.
abbrev pub FloatsChangeNothing : Type 0
FloatsChangeNothing = (flags : Definitions) (marks : Marks) (want : Kind) (default context : Shape) (key : List ℕ) (moment : ℕ) → are_unmarked marks ≡ true
    → resolved_with_floats (Some (flags, marks)) want default context key moment ≡ resolved_by (Some flags) want default context key moment

-- A value of a flag with floats is given to who wants the flag's kind, and to nobody else.
abbrev pub FloatsAreOfTheirKind : Type 0
FloatsAreOfTheirKind = (k want : Kind) (s : List ℕ) → (k ≡ kind.Float) ⊎ (k ≡ kind.Object) → ((is_of_kind (kind_asked (Some k) want) (text s) ≡ true) ↔ (k ≡ want))

-- Who wants a float has the value of a flag of whole numbers, too.
abbrev pub WholeNumbersAreFloats : Type 0
WholeNumbersAreFloats = (t : Shape) → is_of_kind (kind_asked None kind.Float) t ≡ is_of_kind kind.Whole t

-- A resolution whose value stands as it is has its own text.
abbrev pub PlainTextsStay : Type 0
PlainTextsStay = (r : Resolved) → resolution_spelled false r ≡ resolution_text r

-- No value of flags without floats stands as its spelling.
abbrev pub NothingIsSpelled : Type 0
NothingIsSpelled = (flags : Definitions) (marks : Marks) (key : List ℕ) (r : Resolved) → are_unmarked marks ≡ true → is_spelled (Some (flags, marks)) key r ≡ false
