use Rattle.std.proofs.Common.{◌≡◌, length, ap, ◌∙◌}
use Rattle.note_tallies.specs.File.{Head}
use Rattle.note_tallies.proofs.Told.{counted_with}
use Rattle.note_tallies.proofs.file_reading.with_counts.Goals as goal

pub returns-in-Ok : goal.returns-in-Ok
returns-in-Ok c =
    let size : length c.in-Ok.counts.items ≡ c.args.head.total = c.in-Ok.ensures.whole ∙ ap (λ (g : Head). g.total) c.head.view_is in
    counted_with c.args.head c.args.bytes.now c.in-Ok.counts.items c.with_inputs.result c.in-Ok.ensures.text size c.in-Ok.ensures.small c.with_inputs.ensures
