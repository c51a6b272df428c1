use Rattle.std.specs.Prelude.{codes}
use Rattle.flag_text.specs.View.{view}
use Rattle.flagops_drive.proofs.Asked.{whole_context, whole_member}
use Rattle.flagops_drive.proofs.reading.ask_in.Goals as goal

pub invariant_of-result : goal.invariant_of-result
invariant_of-result c = record {
  whole_default = whole_member (codes "default") (view c.args.tree.now) (view c.in_ok-default.default.now) c.in_ok-default.ensures c.requires;
  whole_context = whole_context (view c.args.tree.now) (view c.in_ok-context.context.now) c.in_ok-context.ensures c.requires;
  countable = c.in_ok-moment.ensures.small;
}
