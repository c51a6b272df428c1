use Rattle.std.proofs.Common.{codes, string_bytes, option_map, ap, ◌++◌, ◌∙◌}
use Rattle.flag_text.specs.Printing.{text_of}
use Rattle.flag_text.specs.Shape.{text}
use Rattle.logic_ast.specs.Expr.{view}
use Rattle.flag_defs.specs.Document.{state_text}
use Rattle.flag_defs.specs.Flag.{rules_view}
use Rattle.flag_defs.specs.Spelled.{default_spelled, targeting_spelled}
use Rattle.flag_defs.proofs.Pieces.{four_added}
use Rattle.flag_defs.proofs.Printed.{targetings_of}
use Rattle.flag_defs.proofs.spelled.push_head.Goals as goal

pub push_targeting-requires : goal.push_targeting-requires
push_targeting-requires c = targetings_of (rules_view c.args.rules.now) c.args.rules.now.lawful

pub returns : goal.returns
returns c =
    let r = c.args.rules.now in
    four_added (string_bytes c.args.out.now) _ _ _ _ (default_spelled (option_map string_bytes r.default_variant)) (codes "\"state\":") (text_of (text (state_text (rules_view r)))) (targeting_spelled (option_map view r.targeting))
    c.in_ok-push_default.ensures c.in_ok-push_str.ensures.bytes (c.in_ok-push_string.ensures.ok ∙ ap (λ k. string_bytes c.push_str.new.self ++ text_of (text k)) c.state_text.ensures) c.in_ok-push_targeting.ensures
