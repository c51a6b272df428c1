use Rattle.std.proofs.Common.{◌≡◌, ◌∙◌, false, sym, true, rules}
use Rattle.text_spans.specs.Place.{is_mark}
use Rattle.text_spans.proofs.Lexing.{end_at}
use Rattle.text_spans.proofs.Marks.{past_mark}
use Rattle.text_spans.proofs.Passed.{mark_passed, nothing_starts, starts_here}
use Rattle.text_spans.proofs.lexemes.from_token.Goals as goal

pub bytes-preserved : goal.bytes-preserved
bytes-preserved c =
    let mark : is_mark c.in-Some.byte.now ≡ true = search rules in (
      λ ts h. past_mark _ _ _ c.in-Some.ensures.cases.0 mark ts (c.bytes.invariant.0 ts h),
      end_at _ _ _ _ c.in-Some.ensures.cases.0 c.bytes.invariant.1,
      c.bytes.invariant.2 ∙ mark_passed _ _ _ c.in-Some.ensures.cases.0 mark,
    )

pub returns-then-not-is_mark-clause-here : goal.returns-then-not-is_mark-clause-here
returns-then-not-is_mark-clause-here c =
    let none : is_mark c.in-Some.byte.now ≡ false = search rules in
    starts_here _ _ _ c.in-Some.ensures.cases.0 none ∙ sym c.bytes.invariant.2

pub returns-clause-here : goal.returns-clause-here
returns-clause-here c = nothing_starts c.bytes.rest.now c.in_default.ensures.cases ∙ sym c.bytes.invariant.2
