use Rattle.std.proofs.Common.{◌≡◌, drop, map, take, true}
use Rattle.flag_text.proofs.Views.{named_view}
use Rattle.flag_text.specs.Shape.{members_are_whole}
use Rattle.flagops_commands.specs.Price.{total_members}
use Rattle.flagops_commands.proofs.Members.{whole_member}
use Rattle.flagops_commands.proofs.rules.price.total_tree.Given as goal

abbrev pub invariant-loop-name : goal.invariant-loop-name
invariant-loop-name l = record {
  made : map named_view l.members.items ≡ map whole_member (map (λ e. (e.0.now, e.1)) (take l.name-index l.totals));
  whole : members_are_whole (total_members (map (λ e. (e.0.now, e.1)) (drop l.name-index l.totals))) ≡ true;
}
