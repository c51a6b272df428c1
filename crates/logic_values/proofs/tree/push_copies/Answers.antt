use Rattle.std.proofs.Common.{◌≡◌, ◌<◌, [], length, drop, ap, sym, ◌∙◌, arith}
use Rattle.std.proofs.lemmas.List.{drop_all}
use Rattle.flag_text.specs.View.{members_view}
use Rattle.logic_values.specs.Views.{before}
use Rattle.logic_values.proofs.Members.{before_none}
use Rattle.logic_values.proofs.Items.{drop_at}
use Rattle.logic_values.proofs.tree.push_copies.Goals as goal

pub loop-key-preserved : goal.loop-key-preserved
loop-key-preserved c =
    let xs = c.args.members.now in
    let h : c.loop-key.key-index < length xs = omega arith in
    c.in_ok-push_copy.ensures _ ∙ (ap (λ ms. before c.loop-key.all.items (members_view ms)) (sym (drop_at xs c.loop-key.key-index c.loop-key-item.result h c.loop-key-item.is)) ∙ c.loop-key.invariant)

pub returns : goal.returns
returns c =
    let xs = c.args.members.now in
    let end : drop c.loop-key.key-index xs ≡ [] = drop_all c.loop-key.key-index xs (omega arith) in
    sym (before_none c.loop-key.all.items) ∙ (ap (λ ms. before c.loop-key.all.items (members_view ms)) (sym end) ∙ c.loop-key.invariant)
