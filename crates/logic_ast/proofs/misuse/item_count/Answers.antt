use Rattle.std.proofs.Common.{sym}
use Rattle.logic_ast.proofs.Sizes.{item_count-items_view}
use Rattle.logic_ast.proofs.misuse.item_count.Goals as goal

pub returns : goal.returns
returns c = sym (item_count-items_view c.args.items.now)
