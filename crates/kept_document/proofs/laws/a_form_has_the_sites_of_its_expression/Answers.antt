use Rattle.kept_document.proofs.Counted.{counted}
use Rattle.kept_document.proofs.laws.a_form_has_the_sites_of_its_expression.Goals as goal

pub returns : goal.returns
returns c = λ e n h. counted e 0 h n
