use Rattle.std.proofs.Common.{sym, ap, ◌∙◌}
use Rattle.std.specs.Ordering.{is_lt}
use Rattle.book_core.specs.Page.{bytes_cmp}
use Rattle.book_core.proofs.Listed.{above_last, above_none}
use Rattle.book_core.proofs.inputs.is_above.Goals as goal

pub returns-in-None : goal.returns-in-None
returns-in-None c = sym (above_none c.args.list.now c.args.input.now (sym c.in-None.ensures.value))

pub returns-in-Some : goal.returns-in-Some
returns-in-Some c =
    c.lt.ensures ∙ ap (λ t. is_lt (bytes_cmp t c.args.input.now)) c.as_str.ensures.value
    ∙ above_last c.args.list.now c.in-Some.last.now c.args.input.now c.requires (sym c.in-Some.ensures.value)
