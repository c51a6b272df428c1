use Rattle.std.proofs.Common.{rules, [], ap, ◌∙◌, ◌∷◌, ◌++◌}
use Rattle.book_lock.specs.declared.call.Sight.{Sight}
use Rattle.book_lock.proofs.Ends.{adds_seat, split_off}
use Rattle.book_lock.proofs.blanks.seated.Goals as goal

pub loop-left-preserved : goal.loop-left-preserved
loop-left-preserved g c = (
  search rules,
  split_off c.loop-left.left c.loop-left.root.me c.split-place.new.place.me (search rules) c.loop-left.invariant.1 c.split-place.ensures.rest,
  adds_seat c.loop-left.left c.loop-left.all.items _ _ (search rules) c.loop-left.invariant.2 (c.in_ok-push.ensures.items ∙ ap (λ (x : Sight). c.loop-left.all.items ++ x ∷ []) c.first_seat.ensures),
  search rules,
)
