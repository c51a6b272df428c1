use Rattle.std.proofs.Common.{ap, ◌∙◌, sym}
use Rattle.flagops_drive.specs.File.{file_view}
use Rattle.flagops_drive.specs.Unread.{has_unread_ask}
use Rattle.flagops_drive.proofs.PlainFile.{none_unread}
use Rattle.flagops_drive.proofs.unread.has_unread_ask.Goals as goal

pub returns-in-Plain : goal.returns-in-Plain
returns-in-Plain c = sym (ap (λ f. has_unread_ask (file_view f)) c.in-Plain.is ∙ none_unread c.in-Plain.field-0.items)
