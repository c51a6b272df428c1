use Rattle.std.proofs.Common.{◌∙◌, append_assoc}
use Rattle.picture.specs.Spelling.{patterned}
use Rattle.picture.proofs.print.push_patterned.Goals as goal

pub returns : goal.returns
unfolding patterned
returns c = c.in_ok-push_extent.ensures ∙ rw (c.in_ok-push_at.ensures, c.in_ok-write.ensures.bytes) (simp append_assoc)
