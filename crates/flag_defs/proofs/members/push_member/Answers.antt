use Rattle.std.proofs.Common.{ap, ◌∙◌}
use Rattle.flag_text.specs.Shape.{member}
use Rattle.flag_text.specs.View.{view}
use Rattle.flag_defs.specs.Members.{followed_by}
use Rattle.flag_defs.proofs.Followed.{followed_push}
use Rattle.flag_defs.proofs.members.push_member.Goals as goal

pub returns : goal.returns
returns c = λ rest.
    let ms = c.args.members.now.items in
    ap (λ xs. followed_by xs rest) c.in_ok-push.ensures.items ∙ (followed_push ms (c.in_ok-name.name, c.args.value) rest ∙ ap (λ k. followed_by ms (member k (view c.args.value) rest)) c.in_ok-name.ensures.ok)
