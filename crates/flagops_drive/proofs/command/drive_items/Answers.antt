use Rattle.std.proofs.Common.{arith, map, refl}
use Rattle.flag_defs.specs.Floats.{marked_view}
use Rattle.flag_resolve.specs.Views.{resolution_view}
use Rattle.flagops_drive.specs.File.{items_of}
use Rattle.flagops_drive.specs.Asks.{ask_view, asks_in}
use Rattle.flagops_drive.specs.Driven.{reached_view}
use Rattle.flagops_drive.proofs.Driving.{not_both, output_is, reached_of, refused_of, tally_is}
use Rattle.flagops_drive.proofs.command.drive_items.Goals as goal

pub returns-in-Ok-clause-driven : goal.returns-in-Ok-clause-driven
returns-in-Ok-clause-driven g c =
    let flags = marked_view c.args.flags.now in
    let given = c.as_slice-asked.result.now in
    let reached = reached_view flags given c.in-Ok.driven in
    output_is flags (asks_in (items_of c.args.items)) (map ask_view c.in_ok-asks.asks.items) c.args.workers c.args.before c.args.json reached c.output_of.result c.in_ok-asks.ensures.exact
    (λ e h. not_both (c.in-Ok.ensures.workers e h))
    (reached_of flags _ given c.want_spellings.new.asks.items reached (map resolution_view c.in-Ok.driven.answers.items) c.want_spellings.ensures c.as_slice-asked.ensures.value refl refl c.in-Ok.ensures.answers c.in-Ok.ensures.noted c.in-Ok.ensures.long)
    c.output_of.ensures.output c.output_of.ensures.refused

pub returns-in-Err-clause-driven : goal.returns-in-Err-clause-driven
returns-in-Err-clause-driven g c =
    refused_of (marked_view c.args.flags.now) (asks_in (items_of c.args.items)) (map ask_view c.in_ok-asks.asks.items) c.args.workers c.args.before c.args.json c.in-Err.fault c.in_ok-asks.ensures.exact c.in-Err.ensures.refused
    (λ is. (c.in-Err.ensures.stalled is).2 0 (omega arith))

pub returns-in-Ok-clause-tally : goal.returns-in-Ok-clause-tally
returns-in-Ok-clause-tally g c =
    let flags = marked_view c.args.flags.now in
    let given = c.as_slice-asked.result.now in
    let reached = reached_view flags given c.in-Ok.driven in
    tally_is flags (asks_in (items_of c.args.items)) (map ask_view c.in_ok-asks.asks.items) c.args.before c.args.json reached c.output_of.result c.in_ok-asks.ensures.exact
    (reached_of flags _ given c.want_spellings.new.asks.items reached (map resolution_view c.in-Ok.driven.answers.items) c.want_spellings.ensures c.as_slice-asked.ensures.value refl refl c.in-Ok.ensures.answers c.in-Ok.ensures.noted c.in-Ok.ensures.long)
    c.output_of.ensures.tally
