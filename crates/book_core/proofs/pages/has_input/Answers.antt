use Rattle.std.proofs.Common.{sym, ap, ◌∙◌}
use Rattle.book_core.specs.Book.{is_among}
use Rattle.book_core.proofs.Paged.{held_lawful, inputs_on-found, inputs_on-none}
use Rattle.book_core.proofs.pages.has_input.Goals as goal

pub contains-requires : goal.contains-requires
contains-requires c = (held_lawful c.args.pages.now.entries c.args.page.now c.in-Some.inputs.now c.requires (sym c.in-Some.ensures.value)).rising

pub returns-in-Some : goal.returns-in-Some
returns-in-Some c =
    c.contains.ensures ∙ sym (ap (is_among c.args.input.now) (inputs_on-found c.args.pages.now.entries c.args.page.now c.in-Some.inputs.now (sym c.in-Some.ensures.value)))

pub returns-in-None : goal.returns-in-None
returns-in-None c = sym (ap (is_among c.args.input.now) (inputs_on-none c.args.pages.now.entries c.args.page.now (sym c.in-None.ensures.value)))
