-- Flags of which none has floats, and the kinds that flags with floats are asked for.
use Rattle.std.proofs.Common.{◌≡◌, ℕ, Bool, true, false, not, ◌&&◌, cond, List, [], ◌∷◌, Option, Some, None, refl, ap}
use Rattle.std.specs.Prelude.{option_and_then, unwrap_or}
use Rattle.std.specs.Map.{lookup}
use Rattle.std.specs.Str.{bytes_eq}
use Rattle.flag_text.proofs.Bools.{left, right}
use Rattle.flag_text.specs.Shape.{text}
use Rattle.flag_defs.specs.Definition.{Definition}
use Rattle.flag_defs.specs.Document.{Definitions}
use Rattle.flag_defs.specs.Floats.{Marks, are_unmarked, floats_at, floats_kind}
use Rattle.flag_defs.specs.Kind.{is_of_kind}
use Rattle.flag_defs.specs.declared.kind.Kind.{Kind}
use Rattle.flag_defs.specs.declared.kind.Kind.TheVariants as kind
use Rattle.flag_resolve.specs.Floats.{kind_asked}

-- no mark that is found says so
not_found : (b x : Bool) (o : Option Bool) → not x ≡ true → unwrap_or o false ≡ false → unwrap_or (cond b (Some x) o) false ≡ false
not_found true true o h e = cc
not_found true false o h e = refl
not_found false x o h e = e

unmarked : (key : List ℕ) (ms : Marks) → are_unmarked ms ≡ true → unwrap_or (lookup (bytes_eq key) ms) false ≡ false
unmarked key [] h = refl
unmarked key (m ∷ ms) h =
    not_found (bytes_eq key m.0) m.1 (lookup (bytes_eq key) ms) (left (not m.1) (are_unmarked ms) h) (unmarked key ms (right (not m.1) (are_unmarked ms) h))

no_kind : (o : Option Definition) (b : Bool) → b ≡ false → option_and_then (λ d. floats_kind d b) o ≡ None
no_kind None b e = refl
no_kind (Some d) b e = ap (floats_kind d) e

pub no_floats : (key : List ℕ) (fs : Definitions) (ms : Marks) → are_unmarked ms ≡ true → floats_at key fs ms ≡ None
no_floats key fs ms h = no_kind (lookup (bytes_eq key) fs) (unwrap_or (lookup (bytes_eq key) ms) false) (unmarked key ms h)

-- a text of a flag of floats, and of one of objects
pub float_asked : (want : Kind) (s : List ℕ) → is_of_kind (kind_asked (Some kind.Float) want) (text s) ≡ true → kind.Float ≡ want
float_asked kind.Bool s h = cc
float_asked kind.Text s h = cc
float_asked kind.Whole s h = cc
float_asked kind.Object s h = cc
float_asked kind.Float s h = refl

pub object_asked : (want : Kind) (s : List ℕ) → is_of_kind (kind_asked (Some kind.Object) want) (text s) ≡ true → kind.Object ≡ want
object_asked kind.Bool s h = cc
object_asked kind.Text s h = cc
object_asked kind.Whole s h = cc
object_asked kind.Object s h = refl
object_asked kind.Float s h = cc
