use Rattle.std.proofs.Common.{◌≡◌, ◌∙◌, rules}
use Rattle.std.specs.Prelude.{count_by, is_some}
use Rattle.flag_text.specs.View.{view}
use Rattle.flag_text.specs.declared.tree.Tree.{Tree}
use Rattle.flagops_commands.proofs.UnreadAsks.{counted}
use Rattle.flagops_commands.proofs.books.ask_diagnostics.unread_count.Goals as goal
use Rattle.member_names.specs.Unread.{unread_of}
use Rattle.member_names.specs.declared.reader.Reader.TheVariants as reader

pub returns : goal.returns
returns c =
    let many : c.count.result ≡ count_by (λ (t : Tree). is_some (unread_of reader.Ask (view t))) c.args.asks.now = search rules in
    many ∙ counted c.args.asks.now
