use Rattle.std.proofs.Common.{◌≡◌, ◌-◌, ◌∙◌, length, take, rules}
use Rattle.note_tallies.proofs.FileHeads.{take_is}
use Rattle.note_tallies.proofs.ends.text_of.Goals as goal

pub returns : goal.returns
returns c =
    let line = c.args.line.now in
    let own : c.unwrap.result.now ≡ take (length line - 1) line = search rules in
    own ∙ take_is line c.requires
