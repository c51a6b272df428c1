use Rattle.std.proofs.Common.{codes, string_bytes, ap, ◌++◌, ◌∙◌}
use Rattle.flag_text.specs.Printing.{text_of}
use Rattle.flag_text.specs.Shape.{text}
use Rattle.flag_defs.specs.Flag.{flag_view}
use Rattle.flag_defs.specs.Floats.{floats_of}
use Rattle.flag_defs.specs.Spelled.{members_spelled}
use Rattle.flag_defs.proofs.Pieces.{four_added}
use Rattle.flag_defs.proofs.spelled.push_entry.Goals as goal

pub returns : goal.returns
returns c =
    let old = string_bytes c.args.out.now in
    let f = c.args.entry.now.1 in
    four_added old _ _ _ _ (text_of (text (string_bytes c.args.entry.now.0))) (codes ":{") (members_spelled (floats_of f) (flag_view f)) (codes "}")
    (c.in_ok-push_string.ensures.ok ∙ ap (λ k. old ++ text_of (text k)) c.as_str.ensures.value) c.in_ok-push_str.ensures.bytes c.in_ok-push_members.ensures c.in_ok-push_str-2.ensures.bytes
