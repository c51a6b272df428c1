use Rattle.std.proofs.Common.{◌≡◌, ◌∙◌, sym, true}
use Rattle.flag_text.specs.Shape.{is_tidy}
use Rattle.flag_text.specs.View.{view}
use Rattle.flagops_checks.specs.Judged.{tree_in}
use Rattle.flagops_checks.specs.Names.{HasUnread}
use Rattle.flagops_checks.proofs.Null.{as_read, both_ok, nothing_unread}
use Rattle.flagops_checks.proofs.PlainTrees.{plainly}
use Rattle.flagops_checks.proofs.names.unread_in.Goals as goal

pub returns-then-all_read : goal.returns-then-all_read
returns-then-all_read c = nothing_unread c.args.floats c.args.bytes.now (plainly c.args.bytes.now (sym c.requires ∙ c.if-all_read.true) c.args.floats)

pub returns-else-all_read : goal.returns-else-all_read
returns-else-all_read c =
    both_ok (λ t. view t ≡ tree_in c.args.floats c.args.bytes.now) (λ t. is_tidy (view t) ≡ true) (λ t. HasUnread c.args.floats c.args.bytes.now (view t)) c.tree_of.result (λ t same tidy. as_read c.args.floats c.args.bytes.now (view t) same tidy) c.tree_of.ensures.tree
    c.tree_of.ensures.tidy
