use Rattle.std.proofs.Common.{◌≡◌, ℕ, ◌==◌, Bool, true, false, if◌then◌else◌, nat_lt, List, [], ◌∷◌, codes, length, Option, Some, None, Result, Ok, Err, refl, sym, ap, ◌∙◌, arith}
use Rattle.std.proofs.lemmas.Bool.{eqb-true, false≢true}
use Rattle.std.proofs.lemmas.Str.{IsUtf8-nil, is_utf8-from_IsUtf8}
use Rattle.std.specs.Str.{is_utf8}
use Rattle.flag_text.specs.Outcome.{seen_as}
use Rattle.flag_text.specs.Reading.{max_levels}
use Rattle.flag_text.specs.Readers.{find_member}
use Rattle.flag_text.specs.Shape.{Shape, object}
use Rattle.flag_text.specs.View.{view}
use Rattle.flag_text.specs.declared.fault.TextFault.TheVariants as text_fault
use Rattle.ofrep_answers.specs.Context.{context_as, context_in, context_within, read_as}
use Rattle.ofrep_answers.specs.Deep.{is_too_deep}
use Rattle.ofrep_answers.specs.declared.fault.ContextFault.{ContextFault}
use Rattle.ofrep_answers.specs.declared.fault.ContextFault.TheVariants as fault
use Rattle.ofrep_answers.proofs.context.read_context_with.Goals as goal
use Rattle.spelled_numbers.specs.Levels.{sent_levels, without_spelling}

-- an empty body is a text
not_utf8 : (bytes : List ℕ) → (length bytes == 0) ≡ true → is_utf8 bytes ≡ false → ⊥
not_utf8 [] e u = false≢true (sym u ∙ is_utf8-from_IsUtf8 [] IsUtf8-nil)
not_utf8 (b ∷ bytes) e u = let z = eqb-true (length (b ∷ bytes)) 0 e in absurd (omega (arith, z))

pub returns-then-is_empty-clause-no_text : goal.returns-then-is_empty-clause-no_text
returns-then-is_empty-clause-no_text c = λ _ u. absurd (not_utf8 c.args.body.now (sym c.is_empty.ensures ∙ c.if-is_empty.true) u)

-- a text that is not read as JSON is not refused for its length
not_large : {T : Type 0} (b : Bool) (why : ContextFault) → why ≡ (if b then fault.BodyTooDeep else fault.NotJson) → (r : Result T ContextFault) → r ≡ Err why → r ≡ Err fault.TooLarge → ⊥
not_large true why is r was large = cc
not_large false why is r was large = cc

pub returns-in-Err-NotJson-clause-large : goal.returns-in-Err-NotJson-clause-large
returns-in-Err-NotJson-clause-large c = (
  λ h. absurd (not_large (is_too_deep c.args.body.now) c.no_json.result c.no_json.ensures _ refl h),
  λ big. let why = c.in-Err-NotJson.ensures.large.1 big in let is = c.in-Err-NotJson.field-0-is in cc,
)

-- nor is a body that was read
shallow_not_large : (b : Bool) (t : Shape) → read_as (if b then Err text_fault.TooDeep else Ok t) ≡ Err fault.TooLarge → ⊥
shallow_not_large true t e = cc
shallow_not_large false t e = cc

as_not_large : (t : Shape) → context_as t ≡ Err fault.TooLarge → ⊥
as_not_large (object ms) e = shallow_not_large (nat_lt max_levels (sent_levels (object ms))) (without_spelling (object ms)) e
as_not_large t e = cc

in_not_large : (o : Option Shape) → context_in o ≡ Err fault.TooLarge → ⊥
in_not_large None e = cc
in_not_large (Some t) e = as_not_large (without_spelling t) e

within_not_large : (t : Shape) → context_within t ≡ Err fault.TooLarge → ⊥
within_not_large (object ms) e = in_not_large (find_member (codes "context") ms) e
within_not_large t e = cc

pub returns-in-Ok-clause-large : goal.returns-in-Ok-clause-large
returns-in-Ok-clause-large c = (
  λ h. absurd (within_not_large (without_spelling (view c.in-Ok.tree)) (sym c.body_context.ensures.exact ∙ ap (seen_as view) h)),
  λ big. let why = c.in-Ok.ensures.large.1 big in cc,
)
