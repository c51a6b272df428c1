use Rattle.std.proofs.Common.{sym, ap, ◌∙◌}
use Rattle.std.proofs.lemmas.List.{map-id}
use Rattle.std.proofs.lemmas.Map.Iter.{iter_end}
use Rattle.rule_text.specs.Parts.{both, extents_view, all_extents}
use Rattle.rule_text.proofs.Extents.{all_push}
use Rattle.rule_text.proofs.part.extent_of.Goals as goal

pub loop-member-preserved : goal.loop-member-preserved
loop-member-preserved c =
    c.and-extent.ensures ∙ ap (λ e. both e c.in-Some.member) c.loop-member.invariant ∙ sym (all_push c.loop-member.yielded (c.in-Some.field-0-0, c.in-Some.member))

pub returns : goal.returns
returns c =
    let given = c.into_iter-member-iterator.ensures.into_iter_gives in
    let all = iter_end (λ p. p) c.args.members.entries c.loop-member.yielded _ _ _ _ given.0 c.loop-member.yielded_by c.in-None.is c.next.ensures.steps in
    c.loop-member.invariant ∙ ap (λ es. all_extents (extents_view es)) (sym (map-id c.loop-member.yielded) ∙ all.0)
