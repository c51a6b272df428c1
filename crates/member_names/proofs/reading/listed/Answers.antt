use Rattle.std.proofs.Common.{sym, ◌∙◌}
use Rattle.std.proofs.lemmas.List.{map-id}
use Rattle.std.proofs.lemmas.Map.Iter.{iter_end}
use Rattle.member_names.proofs.reading.listed.Goals as goal

pub returns : goal.returns
returns c =
    let given = c.into_iter-member-iterator.ensures.into_iter_gives in
    let all = iter_end (λ p. p) c.args.members.entries c.loop-member.yielded _ _ _ _ given.0 c.loop-member.yielded_by c.in-None.is c.next.ensures.steps in
    c.loop-member.invariant ∙ sym (map-id c.loop-member.yielded) ∙ all.0
