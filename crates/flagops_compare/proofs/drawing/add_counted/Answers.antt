use Rattle.std.proofs.Common.{◌≡◌, rules, ap, string_bytes}
use Rattle.rule_switches.specs.Rules.{rules_view}
use Rattle.rule_switches.specs.Switches.{rows_view}
use Rattle.flagops_compare.proofs.Drawings.{drawn_so}
use Rattle.flagops_compare.proofs.drawing.add_counted.Goals as goal

pub returns-in-Both : goal.returns-in-Both
returns-in-Both c =
    let count = c.args.count in
    let flag : c.as_str.result.now ≡ c.args.page.now.flag = search rules in
    let site : c.page.inside.site ≡ c.args.page.now.site = search rules in
    drawn_so (rules_view c.args.rules.now) c.args.page.now c.as_str.result.now c.page.inside.site c.in-Both.old c.in-Both.new count.inputs count.switched (rows_view count.switches.now) c.args.y (string_bytes c.args.pictures.now) (string_bytes c.draw_edit.new.pictures) c.draw_edit.result
    c.draw_edit.ensures.adds c.draw_edit.ensures.below (ap rules_view c.in-Both.is) flag site
