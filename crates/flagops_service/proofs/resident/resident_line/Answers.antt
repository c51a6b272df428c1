use Rattle.std.proofs.Common.{rules, tests}
use Rattle.std.proofs.lemmas.Iterator.Search.{find_from_yields_List}
use Rattle.std.proofs.lemmas.Iterator.Splits.{YieldsList-from_lines}
use Rattle.flagops_service.specs.Sizes.{is_resident}
use Rattle.flagops_service.proofs.resident.resident_line.Goals as goal

-- the first line that begins so
pub returns : goal.returns
returns c = find_from_yields_List is_resident _ _ _ c.find.ensures.ran (YieldsList-from_lines c.args.text.now c.lines.ensures.rest) (λ x b q k. search (rules, tests))
