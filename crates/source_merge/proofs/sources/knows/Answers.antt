use Rattle.std.proofs.Common.{sym, ◌∙◌}
use Rattle.std.specs.Str.{bytes_eq}
use Rattle.source_merge.proofs.Viewed.{is_some-viewed}
use Rattle.source_merge.proofs.sources.knows.Goals as goal

pub returns : goal.returns
returns c = c.contains_key.ensures ∙ sym (is_some-viewed (bytes_eq c.args.name.now) c.args.documents.now.entries)
