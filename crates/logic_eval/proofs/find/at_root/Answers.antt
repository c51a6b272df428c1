use Rattle.std.proofs.Common.{◌≡◌, false, option_map, sym, ap, ◌∙◌}
use Rattle.std.specs.Prelude.{codes}
use Rattle.std.specs.Str.{bytes_eq}
use Rattle.flag_text.specs.View.{view, members_view}
use Rattle.flag_text.proofs.Halving.{names_rise-tidy, is_tidy-find_member}
use Rattle.logic_eval.proofs.Parts.{held}
use Rattle.logic_eval.proofs.Paths.{same_name, other_name}
use Rattle.logic_eval.proofs.find.at_root.Goals as goal

pub returns-then-eq : goal.returns-then-eq
returns-then-eq c = same_name c.args.name.now (view c.args.root.flagd.now) (members_view c.args.root.members.now) (sym c.eq.ensures ∙ c.if-eq.true)

pub member_by_halving-requires : goal.member_by_halving-requires
member_by_halving-requires c = record { rising = names_rise-tidy (members_view c.args.root.members.now) c.args.root.tidy }

pub returns-in_err-tree : goal.returns-in_err-tree
returns-in_err-tree c =
    let other : bytes_eq c.args.name.now (codes "$flagd") ≡ false = sym c.eq.ensures ∙ c.if-eq.false in
    ap (option_map (λ p. view p.tree.now)) c.from_residual.ensures ∙ (c.in_err-tree.ensures.found ∙ sym (other_name c.args.name.now (view c.args.root.flagd.now) (members_view c.args.root.members.now) other))

pub invariant_of-result-2 : goal.invariant_of-result-2
invariant_of-result-2 c = record { tidy = held _ (view c.in_ok-tree.tree.now) c.in_ok-tree.ensures.found (is_tidy-find_member c.args.name.now (members_view c.args.root.members.now) c.args.root.tidy) }

pub returns : goal.returns
returns c =
    let other : bytes_eq c.args.name.now (codes "$flagd") ≡ false = sym c.eq.ensures ∙ c.if-eq.false in
    c.in_ok-tree.ensures.found ∙ sym (other_name c.args.name.now (view c.args.root.flagd.now) (members_view c.args.root.members.now) other)
