-- The refusals that are known before any memory is taken, so that want of memory never stands in their place.
use Rattle.std.specs.Prelude.{ℕ, List, length, nat_lt, if◌then◌else◌, Option, Some, None}
use Rattle.std.specs.Str.{is_utf8}
use Rattle.flag_text.specs.declared.fault.TextFault.{TextFault}
use Rattle.flag_text.specs.declared.fault.TextFault.TheVariants.{TooLarge, NotJson}
use Rattle.library_seat.specs.Question.{AskedBytes, max_text, kind_of, key_of, moment_of}
use Rattle.library_seat.specs.declared.refusal.Refusal.{Refusal}
use Rattle.library_seat.specs.declared.refusal.Refusal.TheVariants as refusal

-- bytes that are too many, or no text
abbrev pub text_refusal : List ℕ → Option TextFault
text_refusal bytes = if nat_lt max_text (length bytes) then Some TooLarge else (if is_utf8 bytes then None else Some NotJson)

abbrev pub default_refusal : Option TextFault → Option Refusal
default_refusal None = None
default_refusal (Some e) = Some (refusal.Default e)

abbrev pub after_moment : Option ℕ → Option Refusal → Option Refusal
after_moment None rest = Some refusal.Moment
after_moment (Some m) rest = rest

abbrev pub after_key : Option (List ℕ) → Option Refusal → Option Refusal
after_key None rest = Some refusal.Key
after_key (Some k) rest = rest

abbrev pub after_kind : {K : Type 0} → Option K → Option Refusal → Option Refusal
after_kind None rest = Some refusal.Kind
after_kind (Some k) rest = rest

-- the first of them
abbrev pub early_refusal : AskedBytes → Option Refusal
early_refusal asked =
    after_kind (kind_of asked.kind) (after_key (key_of asked.key) (after_moment (moment_of asked.moment) (default_refusal (text_refusal asked.default))))
