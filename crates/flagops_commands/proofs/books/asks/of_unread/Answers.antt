use Rattle.std.proofs.Common.{IfOk, subst, sym}
use Rattle.std.specs.Prelude.{string_bytes}
use Rattle.flagops_drive.specs.File.{file_view}
use Rattle.flagops_drive.specs.declared.asks_file.AsksFile.{AsksFile}
use Rattle.flagops_commands.specs.DriveSummary.{IsUnreadText, asks_listed}
use Rattle.flagops_commands.proofs.UnreadAsks.{plain_told}
use Rattle.flagops_commands.proofs.books.asks.of_unread.Goals as goal

pub returns-in-Plain-clause-text : goal.returns-in-Plain-clause-text
returns-in-Plain-clause-text c =
    subst (λ (f : AsksFile). IfOk c.of_unread_asks.result (λ s. IsUnreadText c.args.path.now (asks_listed (file_view f)) (string_bytes s))) (sym c.in-Plain.is)
    (plain_told c.args.path.now c.in-Plain.field-0.items c.of_unread_asks.result c.of_unread_asks.ensures.text)
