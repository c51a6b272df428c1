use Rattle.std.proofs.Common.{◌≡◌, length, reverse}
use Rattle.flag_text.specs.View.{view}
use Rattle.text_spans.specs.View.{path_of}
use Rattle.kept_document.specs.Following.{followed}
use Rattle.kept_document.proofs.following.followed.Given as goal

abbrev pub invariant-steps : goal.invariant-steps
invariant-steps l =
    followed (path_of l.fn.done.items) (view l.tree) (reverse (path_of l.fn.way.items)) ≡ followed (path_of l.done.items) (view l.part) (reverse (path_of l.way.items))

abbrev pub decreases-steps : goal.decreases-steps
decreases-steps l = length l.way.items
