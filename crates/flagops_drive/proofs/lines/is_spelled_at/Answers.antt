use Rattle.std.proofs.Common.{◌≡◌, ◌<◌, ◌≤◌, List, ap, arith, drop_of_length-le, get_or, length, sym, ◌∙◌}
use Rattle.book_share.specs.declared.ask.Ask.{Ask}
use Rattle.flag_defs.specs.Floats.{marked_view}
use Rattle.flag_resolve.specs.Views.{resolution_view}
use Rattle.flagops_drive.proofs.Spelled.{from_there}
use Rattle.flagops_drive.specs.Floats.{is_first_spelled}
use Rattle.flagops_drive.proofs.lines.is_spelled_at.Goals as goal

pub returns-in-Some : goal.returns-in-Some
returns-in-Some c =
    let xs = c.args.asks.now in
    let within : c.args.index < length xs = grind arith in
    let at : c.in-Some.ask.now ≡ get_or xs c.args.index c.in-Some.ask.now = grind arith in
    c.is_spelled.ensures ∙ ap (λ (l : List Ask). is_first_spelled (marked_view c.args.flags.now) l (resolution_view c.args.answer.now)) (sym (from_there xs c.args.index c.in-Some.ask.now within at))

pub returns-in-None : goal.returns-in-None
returns-in-None c =
    let past : length c.args.asks.now ≤ c.args.index = grind arith in
    sym (ap (λ (l : List Ask). is_first_spelled (marked_view c.args.flags.now) l (resolution_view c.args.answer.now)) (drop_of_length-le c.args.asks.now past))
