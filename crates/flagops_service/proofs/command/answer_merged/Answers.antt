use Rattle.std.proofs.Common.{◌∙◌, length, sym}
use Rattle.flag_defs.specs.Flags.{flags_view}
use Rattle.flagops_service.specs.Starting.{stops_on}
use Rattle.flagops_service.specs.Words.{answering_view}
use Rattle.flagops_service.proofs.Started.{not_begun, not_stopped}
use Rattle.flagops_service.proofs.command.answer_merged.Goals as goal

-- a flag is broken, and none is to be
pub returns-then-stops_broken : goal.returns-then-stops_broken
returns-then-stops_broken g c =
    not_begun (g.O.Outlet.bytes c.args.out.now) (g.O.Outlet.bytes c.refuse_start.new.out) (g.O.Outlet.is_broken c.refuse_start.new.out) (g.E.Outlet.bytes c.args.err.now) (g.E.Outlet.bytes c.refuse_start.new.err) (g.E.Outlet.is_broken c.refuse_start.new.err) c.refuse_start.result
    (answering_view c.args.answering.now) (stops_on c.args.answering.now.broken (flags_view c.args.flags)) (length c.args.texts.items) (sym c.stops_broken.ensures ∙ c.if-stops_broken.true) c.refuse_start.ensures

-- no flag stops it
pub returns : goal.returns
returns g c =
    not_stopped (g.O.Outlet.bytes c.args.out.now) (g.O.Outlet.bytes c.answer_flags.new.out) (g.O.Outlet.is_broken c.answer_flags.new.out) (g.E.Outlet.bytes c.args.err.now) (g.E.Outlet.bytes c.answer_flags.new.err) (g.E.Outlet.is_broken c.answer_flags.new.err) c.answer_flags.result
    (answering_view c.args.answering.now) (stops_on c.args.answering.now.broken (flags_view c.args.flags)) (length c.args.texts.items) (sym c.stops_broken.ensures ∙ c.if-stops_broken.false) c.answer_flags.ensures
