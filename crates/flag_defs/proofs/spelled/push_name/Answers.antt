use Rattle.std.proofs.Common.{codes, string_bytes}
use Rattle.flag_text.specs.Printing.{text_of}
use Rattle.flag_text.specs.Shape.{text}
use Rattle.flag_defs.proofs.Pieces.{three_added}
use Rattle.flag_defs.proofs.spelled.push_name.Goals as goal

pub returns : goal.returns
returns c =
    three_added (string_bytes c.args.out.now) _ _ _ (codes "\"defaultVariant\":") (text_of (text c.args.name.now)) (codes ",") c.in_ok-push_str.ensures.bytes c.in_ok-push_string.ensures.ok c.in_ok-push_str-2.ensures.bytes
