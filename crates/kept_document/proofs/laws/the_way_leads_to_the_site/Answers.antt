use Rattle.kept_document.proofs.Sought.{sought}
use Rattle.kept_document.proofs.laws.the_way_leads_to_the_site.Goals as goal

pub returns : goal.returns
returns c = λ e n s h found. sought e 0 n s h found
