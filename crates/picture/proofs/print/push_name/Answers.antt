use Rattle.std.proofs.Common.{◌∙◌, append_assoc}
use Rattle.picture.specs.Spelling.{spelled_name}
use Rattle.picture.proofs.print.push_name.Goals as goal

pub returns : goal.returns
unfolding spelled_name
returns c = c.in_ok-push_str-2.ensures.bytes ∙ rw (c.in_ok-push_escaped.ensures.all, c.in_ok-push_str.ensures.bytes, c.in_ok-push_at.ensures, c.in_ok-write.ensures.bytes) (simp append_assoc)
