use Rattle.std.proofs.Common.{refl}
use Rattle.ofrep_service.specs.Page.{page_text}
use Rattle.ofrep_service.proofs.source.page_html.Goals as goal

-- Both are computed, byte by byte.
pub returns : goal.returns
unfolding page_text
returns c = refl
