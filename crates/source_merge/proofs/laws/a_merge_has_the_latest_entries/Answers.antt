use Rattle.source_merge.proofs.Merged.{merges}
use Rattle.source_merge.proofs.laws.a_merge_has_the_latest_entries.Goals as goal

pub returns : goal.returns
returns c = merges
