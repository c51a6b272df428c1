use Rattle.std.proofs.Common.{◌≡◌, ℕ, List, IfOk, string_bytes, subst}
use Rattle.httpdate.specs.Date.{date_text}
use Rattle.ofrep_connections.specs.Refused.{closing_text}
use Rattle.ofrep_connections.proofs.refusals.closing_text.Goals as goal

pub returns : goal.returns
returns c =
    subst (λ (status : List ℕ). IfOk c.closing_with.result (λ text. string_bytes text ≡ closing_text status (date_text c.args.date))) c.status_text.ensures c.closing_with.ensures
