use Rattle.page_tally.proofs.Lacking.{pages_behind}
use Rattle.page_tally.proofs.foreign.behind_plain.Goals as goal

pub returns-clause-pages : goal.returns-clause-pages
returns-clause-pages g c = pages_behind c.args.bytes.now _ c.plain_stretch.result c.plain_stretch.ensures
