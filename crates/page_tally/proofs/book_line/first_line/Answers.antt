use Rattle.std.proofs.Common.{◌≡◌, ◌-◌, ◌<◌, [], ◌∷◌, length, take, drop, sym, ap, ◌∙◌}
use Rattle.std.proofs.lemmas.Bool.{eqb-true, eqb-false}
use Rattle.book_core.specs.Reading.{line_of, lines_of, neither}
use Rattle.book_core.proofs.Cut.{lines_of-cut, lines_of-empty, lines_of-none, lines_of-unended, nothing_left, some_bytes}
use Rattle.page_tally.proofs.book_line.first_line.Goals as goal

pub returns-then-is_empty-clause-next : goal.returns-then-is_empty-clause-next
returns-then-is_empty-clause-next c = lines_of-empty c.args.bytes.now (eqb-true _ _ (sym c.is_empty.ensures ∙ c.if-is_empty.true))

pub returns-in_ok-line-in-Some-clause-next : goal.returns-in_ok-line-in-Some-clause-next
returns-in_ok-line-in-Some-clause-next c =
    let line = c.in-Some.line.now in
    let rest = c.in-Some.rest.now in
    lines_of-cut c.args.bytes.now line rest c.in-Some.ensures.parts ∙ ap (λ l. l ∷ lines_of rest) (sym c.in_ok-line-in-Some.ensures)

pub returns-in-None-clause-next : goal.returns-in-None-clause-next
returns-in-None-clause-next c =
    let bytes = c.args.bytes.now in
    let some : 0 < length bytes = some_bytes bytes (eqb-false _ _ (sym c.is_empty.ensures ∙ c.if-is_empty.false)) in
    let left : take (length bytes - length bytes) (drop (length bytes) bytes) ≡ [] = nothing_left bytes in
    lines_of-unended bytes some c.in-None.ensures.parts ∙ ap (λ ls. neither ∷ ls) (sym (ap lines_of left ∙ lines_of-none))
