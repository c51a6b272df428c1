-- What came of contexts and then of others.
use Rattle.std.proofs.Common.{◌≡◌, ◌+◌, ℕ, Bool, refl, arith}
use Rattle.std.proofs.Math.Bool.{or-false, or_assoc}
use Rattle.note_streams.specs.Outcomes.{Outcomes, both, contexts, no_outcomes, one_of}
use Rattle.note_streams.specs.declared.outcomes.Outcome.{Outcome}
use Rattle.note_streams.specs.declared.outcomes.Outcome.TheVariants.{Noted, TooLong, Disabled, ParseError, Unreached, Keyless}

none-first : (n : ℕ) → 0 + n ≡ n
none-first n = omega arith

none-last : (n : ℕ) → n + 0 ≡ n
none-last n = omega arith

sum_assoc : (a b c : ℕ) → a + b + c ≡ a + (b + c)
sum_assoc a b c = omega arith

pub both-first : (o : Outcomes) → both no_outcomes o ≡ o
both-first o = λ i. record {
  long = o.long;
  noted = none-first o.noted i;
  too_long = none-first o.too_long i;
  disabled = none-first o.disabled i;
  parse_error = none-first o.parse_error i;
  unreached = none-first o.unreached i;
  keyless = none-first o.keyless i;
}

pub both-last : (o : Outcomes) → both o no_outcomes ≡ o
both-last o = λ i. record {
  long = or-false o.long i;
  noted = none-last o.noted i;
  too_long = none-last o.too_long i;
  disabled = none-last o.disabled i;
  parse_error = none-last o.parse_error i;
  unreached = none-last o.unreached i;
  keyless = none-last o.keyless i;
}

pub both-assoc : (a b c : Outcomes) → both (both a b) c ≡ both a (both b c)
both-assoc a b c = λ i. record {
  long = or_assoc a.long b.long c.long i;
  noted = sum_assoc a.noted b.noted c.noted i;
  too_long = sum_assoc a.too_long b.too_long c.too_long i;
  disabled = sum_assoc a.disabled b.disabled c.disabled i;
  parse_error = sum_assoc a.parse_error b.parse_error c.parse_error i;
  unreached = sum_assoc a.unreached b.unreached c.unreached i;
  keyless = sum_assoc a.keyless b.keyless c.keyless i;
}

pub contexts-both : (a b : Outcomes) → contexts (both a b) ≡ contexts a + contexts b
contexts-both a b = omega arith

pub contexts-one : (long : Bool) (outcome : Outcome) → contexts (one_of long outcome) ≡ 1
contexts-one long Noted = refl
contexts-one long TooLong = refl
contexts-one long Disabled = refl
contexts-one long ParseError = refl
contexts-one long Unreached = refl
contexts-one long Keyless = refl
