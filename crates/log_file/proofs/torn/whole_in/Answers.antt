use Rattle.std.proofs.Common.{◌≡◌, length, rules}
use Rattle.log_file.proofs.Pieces.{of_piece}
use Rattle.log_file.proofs.torn.whole_in.Goals as goal

pub returns-clause-whole : goal.returns-clause-whole
returns-clause-whole g c =
    let part = c.read_exact_at.new.buf in
    let long : length part ≡ c.args.count = search rules in
    of_piece (g.F.LogFile.bytes c.args.file.now) c.args.start c.args.count c.whole_lines.result part long c.in_ok-read_exact_at.ensures.shown c.whole_lines.ensures
