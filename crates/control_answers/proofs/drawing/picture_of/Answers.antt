use Rattle.std.proofs.Common.{[], ◌∷◌, string_bytes}
use Rattle.picture.proofs.Bodies.{alone}
use Rattle.control_answers.proofs.drawing.picture_of.Goals as goal

pub returns : goal.returns
returns c =
    let added = c.in_ok-height.ensures in
    let body = alone added.0 (string_bytes c.new-pictures.result) (string_bytes c.add_answer.new.pictures) c.new-pictures.ensures.bytes added.2 in
    (added.0, added.1, c.in_ok-text.ensures (added.0 ∷ []) (rw c.as_str.ensures.value body) added.3)
