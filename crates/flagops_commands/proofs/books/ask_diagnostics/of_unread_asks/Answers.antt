use Rattle.file_diagnostics.specs.Lines.{text_so_far}
use Rattle.flag_text.specs.View.{items_view}
use Rattle.flagops_commands.proofs.UnreadAsks.{unread_told}
use Rattle.flagops_commands.proofs.books.ask_diagnostics.of_unread_asks.Goals as goal

pub returns-clause-text : goal.returns-clause-text
returns-clause-text c =
    unread_told c.args.path.now (items_view c.args.asks.now) c.unread_count.result (text_so_far c.new-lines.result) (text_so_far c.put_unread_count.new.lines) (text_so_far c.put_first_unread.new.lines) c.headed.result
    c.unread_count.ensures c.new-lines.ensures c.put_unread_count.ensures c.put_first_unread.ensures c.headed.ensures.text
