use Rattle.std.proofs.Common.{◌≡◌, ◌∙◌, ℕ, Ok, Err, ap, sym, subst, false}
use Rattle.book_core.specs.Reading.{book_of}
use Rattle.flagops_drive.specs.Asks.{asks_of}
use Rattle.flagops_drive.specs.Driven.{drive_output_view, refusal_of}
use Rattle.flagops_drive.specs.File.{file_view}
use Rattle.flagops_commands.specs.Drive.{IsAnswered, IsDriveOutputOf, admitted, recorded}
use Rattle.flagops_commands.specs.Refusal.{is_want}
use Rattle.flagops_commands.specs.declared.refusal.ListedRefusal.{ListedRefusal}
use Rattle.flagops_commands.specs.declared.refusal.ListedRefusal.TheVariants.{Drive}
use Rattle.flagops_commands.proofs.Driving.{driven_admitted, driven_so, gives_one, undriven_first, undriven_so}
use Rattle.flagops_commands.proofs.Summary.{if_same}
use Rattle.flagops_drive.specs.Tally.{IsTallied}
use Rattle.flag_defs.specs.Floats.{marked_view}
use Rattle.flagops_commands.proofs.books.driving.drive_output.Goals as goal

pub returns-in-Err-clause-refused : goal.returns-in-Err-clause-refused
returns-in-Err-clause-refused g c = λ e is.
    c.undriven.ensures.refusal
    ∙ undriven_first c.args.strict (refusal_of (asks_of (file_view c.args.asks.now)) c.from-workers.result) (file_view c.args.asks.now) c.in-Err.refusal c.in_ok-check_members.ensures.ok c.in-Err.ensures.refused e
    (ap (λ (n : ℕ). admitted c.args.strict (refusal_of (asks_of (file_view c.args.asks.now)) n) (file_view c.args.asks.now)) c.from-workers.ensures ∙ is)

pub returns-in-Err-clause-exact : goal.returns-in-Err-clause-exact
returns-in-Err-clause-exact g c =
    let asks = file_view c.args.asks.now in
    let flags = marked_view c.args.flags.now in
    subst (λ (e : ListedRefusal). is_want e ≡ false → IsAnswered (admitted c.args.strict (refusal_of (asks_of asks) c.args.workers) asks) flags asks c.args.before c.args.workers c.args.strict c.args.json (Err e)) (sym c.undriven.ensures.refusal)
    (subst (λ (n : ℕ). is_want (Drive c.in-Err.refusal) ≡ false → IsAnswered (admitted c.args.strict (refusal_of (asks_of asks) n) asks) flags asks c.args.before n c.args.strict c.args.json (Err (Drive c.in-Err.refusal))) c.from-workers.ensures
    (undriven_so c.args.strict asks flags c.from-workers.result c.args.before c.args.json c.in-Err.refusal (refusal_of (asks_of asks) c.from-workers.result) c.in_ok-check_members.ensures.ok c.in-Err.ensures.refused c.in-Err.ensures.driven))

pub returns-in-Ok-clause-exact : goal.returns-in-Ok-clause-exact
returns-in-Ok-clause-exact g c =
    let asks = file_view c.args.asks.now in
    let flags = marked_view c.args.flags.now in
    let d = drive_output_view c.in-Ok.drive_output in
    gives_one drive_output_view c.recorded.result (recorded c.args.strict d) (IsDriveOutputOf (Ok flags) (Ok asks) (Ok c.args.before) c.args.workers c.args.strict c.args.json) c.recorded.ensures.exact
    (subst (λ (n : ℕ). IsAnswered (admitted c.args.strict (refusal_of (asks_of asks) n) asks) flags asks c.args.before n c.args.strict c.args.json (recorded c.args.strict d)) c.from-workers.ensures
    (driven_so c.args.strict asks flags c.from-workers.result c.args.before c.args.json d c.in_ok-check_members.ensures.ok c.in-Ok.ensures.driven))

pub returns-in-Ok-clause-refused : goal.returns-in-Ok-clause-refused
returns-in-Ok-clause-refused g c = λ e is.
    let asks = file_view c.args.asks.now in
    driven_admitted c.args.strict asks (marked_view c.args.flags.now) c.from-workers.result c.args.before c.args.json (drive_output_view c.in-Ok.drive_output) c.in_ok-check_members.ensures.ok c.in-Ok.ensures.driven e
    (ap (λ (n : ℕ). admitted c.args.strict (refusal_of (asks_of asks) n) asks) c.from-workers.ensures ∙ is)

pub returns-in-Ok-clause-tally : goal.returns-in-Ok-clause-tally
returns-in-Ok-clause-tally g c = if_same c.recorded.result c.in-Ok.drive_output (IsTallied (marked_view c.args.flags.now) (asks_of (file_view c.args.asks.now)) c.args.before c.args.json) c.recorded.ensures.same c.in-Ok.ensures.tally

pub returns-in-Ok-clause-file : goal.returns-in-Ok-clause-file
returns-in-Ok-clause-file g c = if_same c.recorded.result c.in-Ok.drive_output (λ d. book_of d.book.items ≡ Ok d.rest.book) c.recorded.ensures.same c.in-Ok.ensures.file
