use Rattle.std.proofs.Common.{◌∙◌, append_assoc}
use Rattle.picture.specs.Spelling.{page}
use Rattle.picture.proofs.print.page_text.Goals as goal

pub returns : goal.returns
unfolding page
returns c =
    c.in_ok-push_str-5.ensures.bytes
    ∙ rw (c.in_ok-push_str-4.ensures.bytes, c.in_ok-push_str-3.ensures.bytes, c.in_ok-push_str-2.ensures.bytes, c.in_ok-push_str.ensures.bytes, c.text.ensures, c.in_ok-write.ensures.bytes, c.new-out.ensures.bytes) (simp append_assoc)
