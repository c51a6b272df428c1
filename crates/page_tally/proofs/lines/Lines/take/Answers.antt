use Rattle.std.proofs.Common.{◌≡◌, ◌-◌, ◌<◌, [], ◌∷◌, length, take, drop, sym, ap, ◌∙◌}
use Rattle.std.proofs.lemmas.Bool.{eqb-true, eqb-false}
use Rattle.page_tally.specs.Lines.{line_view}
use Rattle.book_core.specs.Reading.{line_of, lines_of, neither}
use Rattle.book_core.proofs.Cut.{lines_of-cut, lines_of-empty, lines_of-none, lines_of-unended, line_within, some_bytes, nothing_left}
use Rattle.page_tally.proofs.lines.Lines.take.Goals as goal

pub returns-then-is_empty-clause-next : goal.returns-then-is_empty-clause-next
returns-then-is_empty-clause-next c = lines_of-empty c.args.self.now.rest.now (eqb-true _ _ (sym c.is_empty.ensures ∙ c.if-is_empty.true))

pub returns-in_ok-read_line-in-Some-clause-next : goal.returns-in_ok-read_line-in-Some-clause-next
returns-in_ok-read_line-in-Some-clause-next c =
    let line = c.in-Some.line.now in
    let rest = c.in-Some.rest.now in
    let seen : line_of line ≡ line_view c.in_ok-read_line-in-Some.field-0 = line_within _ _ c.in_ok-read_line-in-Some.ensures in
    lines_of-cut c.args.self.now.rest.now line rest c.in-Some.ensures.parts ∙ ap (λ l. l ∷ lines_of rest) seen

pub returns-in-None-clause-next : goal.returns-in-None-clause-next
returns-in-None-clause-next c =
    let bytes = c.args.self.now.rest.now in
    let some : 0 < length bytes = some_bytes bytes (eqb-false _ _ (sym c.is_empty.ensures ∙ c.if-is_empty.false)) in
    let left : take (length bytes - length bytes) (drop (length bytes) bytes) ≡ [] = nothing_left bytes in
    lines_of-unended bytes some c.in-None.ensures.parts ∙ ap (λ ls. neither ∷ ls) (sym (ap lines_of left ∙ lines_of-none))
