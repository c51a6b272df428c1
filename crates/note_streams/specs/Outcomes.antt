-- What came of contexts, by what the evaluation of the flag ended in (OpenFeature: reasons and error codes; flagd: `targetingKey`).
use Rattle.std.specs.Prelude.{ℕ, ◌+◌, Bool, true, false, ◌||◌, Option, Some, option_and_then, is_some, codes, if◌then◌else◌}
use Rattle.flag_text.specs.Readers.{as_text, member_of}
use Rattle.flag_text.specs.Shape.{Shape}
use Rattle.flag_resolve.specs.Resolved.{Resolved}
use Rattle.flag_resolve.specs.declared.code.Code.{Code}
use Rattle.flag_resolve.specs.declared.code.Code.TheVariants as code
use Rattle.flag_resolve.specs.declared.reason.Reason.{Reason}
use Rattle.flag_resolve.specs.declared.reason.Reason.TheVariants as reason
use Rattle.note_streams.specs.declared.outcomes.Outcome.{Outcome}
use Rattle.note_streams.specs.declared.outcomes.Outcome.TheVariants.{Noted, TooLong, Disabled, ParseError, Unreached, Keyless}

-- ---- of one context

-- the reason is DISABLED
abbrev pub is_disabled : Reason → Bool
is_disabled reason.Disabled = true
is_disabled r = false

-- the error code is PARSE_ERROR: the targeting can't be evaluated
abbrev pub is_parse_error : Option Code → Bool
is_parse_error (Some code.ParseError) = true
is_parse_error c = false

-- the context has a targeting key, which is a text
abbrev pub has_key : Shape → Bool
has_key context = is_some (option_and_then as_text (member_of (codes "targetingKey") context))

-- where no line is noted of a context: the flag is disabled, the targeting can't be evaluated, an input that it reached is too long, or it
-- reached none, with a targeting key or without
abbrev pub unnoted : Bool → Shape → Resolved → Outcome
unnoted is_long context r =
    if is_disabled r.reason then Disabled else
    (if is_parse_error r.code then ParseError else
    (if is_long then TooLong else
    (if has_key context then Unreached else Keyless)))

abbrev pub outcome_of : Bool → Bool → Shape → Resolved → Outcome
outcome_of is_noted is_long context r = if is_noted then Noted else unnoted is_long context r

-- ---- of many

-- whether an input was too long to be noted, and the number of contexts of each outcome
pub record Outcomes : Type 0 where
  pub long : Bool
  pub noted : ℕ
  pub too_long : ℕ
  pub disabled : ℕ
  pub parse_error : ℕ
  pub unreached : ℕ
  pub keyless : ℕ

abbrev pub no_outcomes : Outcomes
no_outcomes = record { long = false; noted = 0; too_long = 0; disabled = 0; parse_error = 0; unreached = 0; keyless = 0 }

-- one context
abbrev pub one_of : Bool → Outcome → Outcomes
one_of long Noted = record no_outcomes { long = long; noted = 1 }
one_of long TooLong = record no_outcomes { long = long; too_long = 1 }
one_of long Disabled = record no_outcomes { long = long; disabled = 1 }
one_of long ParseError = record no_outcomes { long = long; parse_error = 1 }
one_of long Unreached = record no_outcomes { long = long; unreached = 1 }
one_of long Keyless = record no_outcomes { long = long; keyless = 1 }

-- these contexts and those
abbrev pub both : Outcomes → Outcomes → Outcomes
both a b = record {
  long = a.long || b.long;
  noted = a.noted + b.noted;
  too_long = a.too_long + b.too_long;
  disabled = a.disabled + b.disabled;
  parse_error = a.parse_error + b.parse_error;
  unreached = a.unreached + b.unreached;
  keyless = a.keyless + b.keyless;
}

-- how many contexts there are, each of which has one outcome
abbrev pub contexts : Outcomes → ℕ
contexts o = o.noted + o.too_long + o.disabled + o.parse_error + o.unreached + o.keyless
