use Rattle.std.proofs.Common.{◌≡◌, ℕ, List, Some, rules, subst}
use Rattle.file_diagnostics.specs.Lines.{Grows, text_so_far}
use Rattle.flag_text.specs.View.{items_view}
use Rattle.flagops_commands.proofs.UnreadAsks.{member_told}
use Rattle.flagops_commands.specs.DriveSummary.{first_unread, unread_member_text}
use Rattle.flagops_commands.proofs.books.ask_diagnostics.put_first_unread.Goals as goal

pub returns-in-Some : goal.returns-in-Some
returns-in-Some c =
    let before = text_so_far c.args.lines.now in
    let mid = text_so_far c.write.new.self in
    let is : first_unread 1 (items_view c.args.asks.now) ≡ Some (c.in-Some.number, c.in-Some.name.now) = search rules in
    let grown = subst (λ (n : List ℕ). Grows before (Some (unread_member_text (c.in-Some.number, n))) mid) c.name.ensures c.write.ensures in
    member_told (first_unread 1 (items_view c.args.asks.now)) c.in-Some.number c.in-Some.name.now c.put_meant.ensures.0 before mid (text_so_far c.put_meant.new.lines) is c.put_meant.ensures.1 grown c.put_meant.ensures.2
