use Rattle.std.proofs.Common.{ℕ, List, map, ap, ◌∙◌, arith, rules}
use Rattle.std.proofs.lemmas.List.{take_all}
use denote.Ref.{Bor}
use Rattle.flag_text.specs.Shape.{object}
use Rattle.flag_text.specs.declared.tree.Tree.{the_lemmas}
use Rattle.flagops_commands.proofs.Members.{members_made, whole_member}
use Rattle.flagops_commands.proofs.rules.price.total_tree.Goals as goal

pub returns : goal.returns
returns c =
    let seen : List (Bor (List ℕ) × ℕ) → List (List ℕ × ℕ) = λ es. map {B = List ℕ × ℕ} (λ e. (e.0.now, e.1)) es in
    let all = ap (λ es. map whole_member (seen es)) (take_all c.loop-name.name-index c.args.totals.now (omega arith)) in
    let made = ap object (members_made c.loop-name.members.items (seen c.args.totals.now) (c.loop-name.invariant.made ∙ all)) in
    search (rules, the_lemmas, made)
