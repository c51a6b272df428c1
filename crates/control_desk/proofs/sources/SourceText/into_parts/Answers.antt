use Rattle.std.proofs.Common.{subst}
use Rattle.control_desk.specs.Sources.{IsDocumentOf, Source}
use Rattle.control_desk.proofs.sources.SourceText.into_parts.Goals as goal

-- the document means the flags that were published last
pub returns-clause-means : goal.returns-clause-means
returns-clause-means g c = subst (λ (s : Source). IsDocumentOf s.published s.document) c.self.view_is c.self.invariant
