use Rattle.std.proofs.Common.{sym, ap, ◌∙◌}
use Rattle.book_core.specs.Book.{inputs_view, is_among}
use Rattle.book_core.proofs.Noting.{is_among-texts}
use Rattle.book_core.proofs.inputs.PageInputs.contains.Goals as goal

pub returns-in-Gathered : goal.returns-in-Gathered
returns-in-Gathered c =
    c.contains.ensures ∙ is_among-texts c.args.input.now c.in-Gathered.set.keys ∙ sym (ap (λ inputs. is_among c.args.input.now (inputs_view inputs)) c.in-Gathered.is)
