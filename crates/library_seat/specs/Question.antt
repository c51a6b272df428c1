-- What is asked of a seat, as bytes and numbers, and the first refusal of it.
use Rattle.std.specs.Prelude.{ℕ, List, Bool, nat_eq, nat_lt, if◌then◌else◌, Option, Some, None, Result, Ok, Err}
use Rattle.std.specs.Str.{is_utf8}
use Rattle.flag_text.specs.Reading.{tree_of}
use Rattle.flag_text.specs.Shape.{Shape}
use Rattle.flag_text.specs.declared.fault.TextFault.{TextFault}
use Rattle.flag_defs.specs.declared.kind.Kind.{Kind}
use Rattle.flag_defs.specs.declared.kind.Kind.TheVariants as kind
use Rattle.flag_resolve.specs.Floats.{Marked, is_spelled, resolved_with_floats}
use Rattle.flag_resolve.specs.Resolved.{Resolved}
use Rattle.library_seat.specs.Refusal.{of_default, of_context}
use Rattle.library_seat.specs.declared.refusal.Refusal.{Refusal}
use Rattle.library_seat.specs.declared.refusal.Refusal.TheVariants as refusal
use Rattle.spelled_numbers.specs.Sent.{sent_tree_of}

-- the bytes of a flag's key, the number of a kind of value, the bytes of the default, and the moment in seconds since 1970
pub record AskedBytes : Type 0 where
  pub key : List ℕ
  pub kind : ℕ
  pub default : List ℕ
  pub moment : ℕ

-- the same, read
pub record Question : Type 0 where
  pub key : List ℕ
  pub kind : Kind
  pub default : Shape
  pub moment : ℕ

-- the most bytes of a default and of a context
abbrev pub max_text : ℕ
max_text = 4194304

-- the kind of a number
abbrev pub kind_of : ℕ → Option Kind
kind_of n =
    if nat_eq n 0 then Some kind.Bool else (if nat_eq n 1 then Some kind.Text else (if nat_eq n 2 then Some kind.Whole else (if nat_eq n 3 then Some kind.Object else (if nat_eq n 4 then Some kind.Float else None))))

-- a key is a text in UTF-8
abbrev pub key_of : List ℕ → Option (List ℕ)
key_of bytes = if is_utf8 bytes then Some bytes else None

-- a moment is a whole number below 2 ^ 53
abbrev pub moment_of : ℕ → Option ℕ
moment_of m = if nat_lt m 9007199254740992 then Some m else None

abbrev pub refused_by : {A : Type 0} → (TextFault → Refusal) → Result A TextFault → Result A Refusal
refused_by f (Ok a) = Ok a
refused_by f (Err e) = Err (f e)

abbrev pub default_of : List ℕ → Result Shape Refusal
default_of bytes = refused_by of_default (tree_of bytes max_text)

abbrev pub context_of : List ℕ → Result Shape Refusal
context_of bytes = refused_by of_context (sent_tree_of bytes max_text)

abbrev pub or_refused : {A : Type 0} → Refusal → Option A → Result A Refusal
or_refused e (Some a) = Ok a
or_refused e None = Err e

infixl 10 ◌>>=◌
abbrev pub ◌>>=◌ : {A B : Type 0} → Result A Refusal → (A → Result B Refusal) → Result B Refusal
Ok a >>= f = f a
Err e >>= f = Err e

-- the refusals of what is asked, in their order: the kind, the key, the moment, the default
abbrev pub question_of : AskedBytes → Result Question Refusal
question_of asked = do
  kind ← or_refused refusal.Kind (kind_of asked.kind)
  key ← or_refused refusal.Key (key_of asked.key)
  moment ← or_refused refusal.Moment (moment_of asked.moment)
  default ← default_of asked.default
  Ok (record { key = key; kind = kind; default = default; moment = moment })

-- a resolution, and whether its value stands as a text that is its spelling, as the values of a flag with floats do
pub record Spelled : Type 0 where
  pub resolved : Resolved
  pub spelled : Bool

-- what a question resolves to in a context
abbrev pub resolved_in : Option Marked → Question → Shape → Resolved
resolved_in flags q context = resolved_with_floats flags q.kind q.default context q.key q.moment

abbrev pub spelled_in : Option Marked → Question → Shape → Spelled
spelled_in flags q context = record { resolved = resolved_in flags q context; spelled = is_spelled flags q.key (resolved_in flags q context) }

-- a context that was read, where one was
abbrev pub kept_context : Option Shape → Result Shape Refusal
kept_context context = or_refused refusal.NoContext context

-- after the refusals of what is asked come those of the context
abbrev pub resolve_of : Option Marked → AskedBytes → List ℕ → Result Spelled Refusal
resolve_of flags asked bytes = do
  q ← question_of asked
  context ← context_of bytes
  Ok (spelled_in flags q context)

-- where there is no context nothing else is looked at
abbrev pub resolve_kept_of : Option Marked → Option Shape → AskedBytes → Result Spelled Refusal
resolve_kept_of flags kept asked = do
  context ← kept_context kept
  q ← question_of asked
  Ok (spelled_in flags q context)
