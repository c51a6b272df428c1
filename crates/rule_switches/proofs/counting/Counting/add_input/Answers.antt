-- the names of the input are those at its points
use Rattle.std.proofs.Common.{◌≡◌, ap, ◌∙◌}
use Rattle.bucket_core.specs.Rule.{total_weight}
use Rattle.rule_switches.specs.Counting.{Counted}
use Rattle.rule_switches.proofs.Counts.{counted_more}
use Rattle.rule_switches.proofs.Placed.{input_added, named_input}
use Rattle.rule_switches.proofs.counting.Counting.add_input.Goals as goal

pub returns-clause-adds : goal.returns-clause-adds
returns-clause-adds c =
    let s = c.args.self.now in
    let input = c.args.input.now in
    let before = c.total.ensures.value ∙ ap (λ (s : Counted). total_weight s.before) c.self.view_is in
    let after = c.total-2.ensures.value ∙ ap (λ (s : Counted). total_weight s.after) c.self.view_is in
    let old = named_input s.before c.total.result c.hash-hash.result c.scale-before.result input before c.hash-hash.ensures c.scale-before.ensures.value in
    let new = named_input s.after c.total-2.result c.hash-hash.result c.scale-after.result input after c.hash-hash.ensures c.scale-after.ensures.value in
    input_added s c.add.new.self input c.scale-before.result c.scale-after.result c.add.ensures old new

pub returns-clause-counts : goal.returns-clause-counts
returns-clause-counts c = λ inputs had.
    let s = c.args.self.now in
    let input = c.args.input.now in
    let before = c.total.ensures.value ∙ ap (λ (s : Counted). total_weight s.before) c.self.view_is in
    let after = c.total-2.ensures.value ∙ ap (λ (s : Counted). total_weight s.after) c.self.view_is in
    let old = named_input s.before c.total.result c.hash-hash.result c.scale-before.result input before c.hash-hash.ensures c.scale-before.ensures.value in
    let new = named_input s.after c.total-2.result c.hash-hash.result c.scale-after.result input after c.hash-hash.ensures c.scale-after.ensures.value in
    counted_more s c.add.new.self input inputs (input_added s c.add.new.self input c.scale-before.result c.scale-after.result c.add.ensures old new) had
