use Rattle.std.proofs.Common.{◌≡◌, [], drop, ◌∙◌, arith}
use Rattle.std.proofs.lemmas.List.{drop_all}
use Rattle.transport_core.proofs.Lengths.{whole_next}
use Rattle.transport_core.proofs.rows.joined.Goals as goal

pub overflow_add-amount : goal.overflow_add-amount
overflow_add-amount g c =
    let l = c.loop-next in
    let next = whole_next c.in-Some.rest.now l.next-index c.loop-next-item.result (omega arith) c.loop-next-item.is in
    omega (arith, next, l.invariant.left, c.requires)

pub returns : goal.returns
returns g c =
    let l = c.loop-next in
    let none : drop l.next-index c.in-Some.rest.now ≡ [] = drop_all l.next-index c.in-Some.rest.now (omega arith) in
    c.in_ok-push-2.ensures.items ∙ rw none at l.invariant.done
