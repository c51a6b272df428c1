use Rattle.std.proofs.Common.{◌∙◌, sym}
use Rattle.flagops_filters.proofs.Recorded.{given_quietly, given_up}
use Rattle.flagops_filters.proofs.recording.give_up.Goals as goal

pub returns-then-is_broken_off : goal.returns-then-is_broken_off
returns-then-is_broken_off g c = given_quietly c.args.console.now c.args.stop c.requires.broken (sym c.is_broken_off.ensures ∙ c.if-is_broken_off.true)

pub returns : goal.returns
returns g c =
    given_up c.args.console.now c.refuse.new.console c.refuse.result c.args.stop c.stopped.result (sym c.is_broken_off.ensures ∙ c.if-is_broken_off.false) c.stopped.ensures.refusal c.stopped.ensures.names c.refuse.ensures
