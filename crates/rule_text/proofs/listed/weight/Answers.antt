use Rattle.std.proofs.Common.{sym, ◌∙◌}
use Rattle.serde_json.specs.Read.{number_of}
use Rattle.rule_text.proofs.Lending.{weight_known}
use Rattle.rule_text.proofs.listed.weight.Goals as goal

pub returns-in-Some : goal.returns-in-Some
returns-in-Some c = weight_known (number_of c.args.text.now) c.in-Some.weight _ (sym c.in-Some.is ∙ c.number.ensures)
