use Rattle.std.proofs.lemmas.List.Filters.{dedup_is}
use Rattle.note_streams.proofs.Once.{distinct, same_line}
use Rattle.note_streams.specs.LogLines.{files_view}
use Rattle.note_streams.proofs.distinct.distinct_lines.Goals as goal

pub returns : goal.returns
returns c =
    let lines = c.in_ok-lines.lines.items in
    let sorted = c.sort_unstable.new.self.items in
    let once = c.dedup.new.self.items in
    distinct lines sorted once c.sort_unstable.ensures.permutation (dedup_is same_line sorted once c.dedup.ensures.filtered) (files_view c.args.files.now) c.in_ok-lines.ensures c.sort_unstable.ensures.sorted
