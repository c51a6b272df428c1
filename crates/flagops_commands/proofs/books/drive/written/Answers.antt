use Rattle.flagops_drive.specs.Driven.{drive_output_view}
use Rattle.flagops_commands.proofs.Losing.{failed_after, not_written, stored_by, told_stored, written_so}
use Rattle.flagops_shell.proofs.Kept.{kept_after, others_after}
use Rattle.std.proofs.Common.{refl, rules}
use Rattle.flagops_commands.proofs.books.drive.written.Goals as goal

pub returns-in_err-check_losses-clause-exact : goal.returns-in_err-check_losses-clause-exact
returns-in_err-check_losses-clause-exact g c =
    let told = not_written _ _ c.args.book.now c.args.lossy c.args.drive_output.rest.book (drive_output_view c.args.drive_output) c.requires c.in_err-check_losses.field-0.0 c.check_losses.ensures.kept c.in_err-check_losses.ensures.exact in search rules

pub returns-clause-exact : goal.returns-clause-exact
returns-clause-exact g c =
    written_so _ _ c.args.book.now c.args.lossy c.args.drive_output.rest.book (drive_output_view c.args.drive_output) c.requires _ _ c.check_losses.ensures.kept c.in_ok-check_losses.ensures.exact c.saved.ensures.exact

pub returns-clause-others : goal.returns-clause-others
returns-clause-others g c = others_after _ _ _ _ c.check_losses.ensures.kept c.saved.ensures.others

pub returns-clause-kept : goal.returns-clause-kept
returns-clause-kept g c = kept_after _ _ _ _ _ refl c.check_losses.ensures.kept c.saved.ensures.kept

pub returns-clause-calls : goal.returns-clause-calls
returns-clause-calls g c = stored_by c.saved.result c.saved.ensures.calls

pub returns-clause-failed : goal.returns-clause-failed
returns-clause-failed g c = failed_after _ _ _ _ c.in_ok-check_losses.ensures.failed c.saved.ensures.failed

pub returns-clause-names : goal.returns-clause-names
returns-clause-names g c = told_stored c.args.book.now c.saved.result c.saved.ensures.names
