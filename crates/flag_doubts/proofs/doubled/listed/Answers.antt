use Rattle.std.proofs.Common.{◌≡◌, sym, subst, ◌∙◌, List, String, Global}
use Rattle.std.proofs.lemmas.List.{map-id}
use Rattle.std.proofs.lemmas.Map.Iter.{iter_end}
use Rattle.std.specs.List.Sorted.{IsStrictlySortedBy}
use Rattle.std.specs.String.{string_cmp}
use Rattle.flag_doubts.proofs.Keys.{rising_bytes}
use Rattle.flag_doubts.proofs.doubled.listed.Goals as goal

pub returns-clause-items : goal.returns-clause-items
returns-clause-items c =
    let given = c.into_iter-key-iterator.ensures.into_iter_gives in
    let all = iter_end (λ k. k) c.args.keys.keys c.loop-key.yielded _ _ _ _ given.0 c.loop-key.yielded_by c.in-None.is c.next.ensures.steps in
    c.loop-key.invariant ∙ sym (map-id c.loop-key.yielded) ∙ all.0

pub returns-clause-rising : goal.returns-clause-rising
returns-clause-rising c =
    let given = c.into_iter-key-iterator.ensures.into_iter_gives in
    let all = iter_end (λ k. k) c.args.keys.keys c.loop-key.yielded _ _ _ _ given.0 c.loop-key.yielded_by c.in-None.is c.next.ensures.steps in
    let same : c.args.keys.keys ≡ c.loop-key.list.items = sym (c.loop-key.invariant ∙ sym (map-id c.loop-key.yielded) ∙ all.0) in
    rising_bytes c.loop-key.list.items (subst (λ (ks : List (String Global)). IsStrictlySortedBy string_cmp ks) same c.len.ensures.ordered)
