use Rattle.std.proofs.Common.{◌≡◌, ◌<◌, true, List, codes, sym, ap, ◌∙◌, subst}
use Rattle.std.specs.Borrow.{Bor}
use Rattle.std.specs.Prelude.{option_and_then}
use Rattle.flag_text.proofs.Bools.{Holds}
use Rattle.flag_text.specs.Readers.{as_list}
use Rattle.flag_text.specs.Shape.{items_are_whole, items_levels}
use Rattle.flag_text.specs.Reading.{max_levels}
use Rattle.ramp.proofs.Levels.{steps_levels}
use Rattle.flag_text.specs.View.{view, items_view}
use Rattle.flag_text.specs.declared.tree.Tree.{Tree}
use Rattle.ramp.proofs.Requests.{some_weaker}
use Rattle.ramp.proofs.Whole.{items_whole}
use Rattle.ramp.proofs.steps.steps_in.Goals as goal

pub returns-clause-whole : goal.returns-clause-whole
returns-clause-whole c =
    let ts = c.in_ok-as_list.field-0.now in
    let is = ap (option_and_then as_list) (sym c.in_ok-member.ensures) ∙ sym c.in_ok-as_list.ensures in
    let whole : items_are_whole (items_view ts) ≡ true = subst (Holds items_are_whole) is (items_whole (codes "steps") (view c.args.tree.now) c.requires.whole) in
    some_weaker (λ (b : Bor (List Tree)). b.now ≡ ts) (λ b. items_are_whole (items_view b.now) ≡ true) (λ b e. subst (λ (us : List Tree). items_are_whole (items_view us) ≡ true) (sym e) whole) c.some_steps.result c.some_steps.ensures.same

pub returns-clause-flat : goal.returns-clause-flat
returns-clause-flat c =
    let ts = c.in_ok-as_list.field-0.now in
    let is = ap (option_and_then as_list) (sym c.in_ok-member.ensures) ∙ sym c.in_ok-as_list.ensures in
    let flat : items_levels (items_view ts) < max_levels = steps_levels (codes "steps") (view c.args.tree.now) (items_view ts) is c.requires.shallow in
    some_weaker (λ (b : Bor (List Tree)). b.now ≡ ts) (λ b. items_levels (items_view b.now) < max_levels) (λ b e. subst (λ (us : List Tree). items_levels (items_view us) < max_levels) (sym e) flat) c.some_steps.result c.some_steps.ensures.same
