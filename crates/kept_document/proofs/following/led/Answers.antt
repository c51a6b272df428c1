use Rattle.std.proofs.Common.{◌≡◌, ◌<◌, ◌≤◌, Some, get_or, length, ap, ◌∙◌, sym, arith}
use Rattle.flag_text.specs.Readers.{as_list}
use Rattle.flag_text.specs.View.{items_view, view}
use Rattle.text_spans.specs.View.{step_of}
use Rattle.kept_document.specs.Following.{led}
use Rattle.kept_document.proofs.Trees.{index_led, index_past}
use Rattle.kept_document.proofs.following.led.Goals as goal

pub returns-in-Some-get : goal.returns-in-Some-get
returns-in-Some-get c =
    let items : as_list (view c.args.tree.now) ≡ Some (items_view c.in-Some-as_list.items.now) = grind arith in
    let within : c.in-Index.index < length c.in-Some-as_list.items.now = grind arith in
    let is : c.in-Some-get.item.now ≡ get_or c.in-Some-as_list.items.now c.in-Index.index c.in-Some-get.item.now = grind arith in
    index_led _ _ _ _ items within is ∙ ap (λ s. led (step_of s) (view c.args.tree.now)) (sym c.in-Index.is)

pub returns-in-None-get : goal.returns-in-None-get
returns-in-None-get c =
    let items : as_list (view c.args.tree.now) ≡ Some (items_view c.in-Some-as_list.items.now) = grind arith in
    let past : length c.in-Some-as_list.items.now ≤ c.in-Index.index = grind arith in
    index_past _ _ _ items past ∙ ap (λ s. led (step_of s) (view c.args.tree.now)) (sym c.in-Index.is)
