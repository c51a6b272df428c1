use Rattle.std.proofs.Common.{◌≡◌, List, ◌∷◌, Result, Ok, rules, sym, subst, inl}
use Rattle.std.specs.Vec.Iter.{into_iter_items}
use Rattle.note_tallies.specs.Join.{Joins}
use Rattle.note_tallies.specs.Tally.{PageTally}
use Rattle.note_tallies.specs.declared.joining.JoinFault.{JoinFault}
use Rattle.note_tallies.specs.Joined.{JoinsAll}
use Rattle.note_tallies.proofs.filter_join.join_all.Goals as goal

pub loop-next-preserved : goal.loop-next-preserved
loop-next-preserved c = λ r later.
    let items : into_iter_items c.loop-next.next-iterator ≡ c.in-Some.next ∷ into_iter_items c.next.new.self = search rules in
    let ok : c.join.result ≡ Ok c.in_ok-all.all = search rules in
    let joins : Joins c.loop-next.all c.in-Some.next (Ok c.in_ok-all.all) = subst (Joins c.loop-next.all c.in-Some.next) ok c.join.ensures in
    c.loop-next.invariant r (subst (λ (ts : List PageTally). JoinsAll c.loop-next.all ts r) (sym items) (inl (c.in_ok-all.all, joins, later)))
