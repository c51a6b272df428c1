use Rattle.std.proofs.Common.{string_bytes, ap, ◌++◌, ◌∙◌}
use Rattle.flag_text.specs.View.{members_view}
use Rattle.flag_defs.specs.Flag.{rules_view}
use Rattle.flag_defs.specs.Rules.{are_rules}
use Rattle.flag_defs.specs.Spelled.{head_spelled, tail_spelled}
use Rattle.flag_defs.proofs.Lawful.{whole_rules}
use Rattle.flag_defs.proofs.Pieces.{two_added}
use Rattle.flag_defs.proofs.spelled.push_rules.Goals as goal
use Rattle.flag_text.specs.Shape.{members_are_whole}

pub push_tail-requires : goal.push_tail-requires
push_tail-requires c = ap (λ ms. members_are_whole (members_view ms)) c.as_slice.ensures.value ∙ whole_rules (rules_view c.args.rules.now) c.args.rules.now.lawful

pub returns : goal.returns
returns c =
    let r = c.args.rules.now in
    two_added (string_bytes c.args.out.now) _ _ (head_spelled (rules_view r)) (tail_spelled r.has_floats (members_view r.variants.items))
    c.in_ok-push_head.ensures (c.in_ok-push_tail.ensures ∙ ap (λ ms. string_bytes c.push_head.new.out ++ tail_spelled r.has_floats (members_view ms)) c.as_slice.ensures.value)
