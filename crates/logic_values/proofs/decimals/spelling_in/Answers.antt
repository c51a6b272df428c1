use Rattle.std.proofs.Common.{sym, ap, ◌∙◌}
use Rattle.flag_text.specs.Shape.{member, no_members}
use Rattle.flag_text.specs.View.{view}
use Rattle.logic_values.specs.Decimals.{spelling_in}
use Rattle.logic_values.proofs.Objects.{no_member, one_member, two_members}
use Rattle.logic_values.proofs.decimals.spelling_in.Goals as goal

pub returns-in-empty : goal.returns-in-empty
returns-in-empty c = sym (no_member c.args.members.now c.in-empty.len_below)

pub returns-in-len1 : goal.returns-in-len1
returns-in-len1 c =
    c.spelling_at.ensures ∙ (ap (λ name. spelling_in (member name (view c.member-item.result.1) no_members)) c.as_str.ensures.value
    ∙ sym (one_member c.args.members.now c.member-item.result c.in-len1.len_at_least c.in-len1.len_below c.member-item.is))

pub returns-in-len2-up : goal.returns-in-len2-up
returns-in-len2-up c = sym (two_members c.args.members.now c.in-len2-up.len_at_least)
