use Rattle.std.proofs.Common.{◌∙◌, ap, sym}
use Rattle.ofrep_connections.proofs.Statuses.{bad, long, uri_code, uri_text}
use Rattle.ofrep_connections.proofs.refusals.uri_status.Goals as goal

pub returns-then-is_too_long-clause-number : goal.returns-then-is_too_long-clause-number
returns-then-is_too_long-clause-number c = long ∙ ap uri_code (sym c.if-is_too_long.true)

pub returns-else-is_too_long-clause-number : goal.returns-else-is_too_long-clause-number
returns-else-is_too_long-clause-number c = bad ∙ ap uri_code (sym c.if-is_too_long.false)

pub returns-then-is_too_long-clause-text : goal.returns-then-is_too_long-clause-text
returns-then-is_too_long-clause-text c = ap uri_text (sym c.if-is_too_long.true)

pub returns-else-is_too_long-clause-text : goal.returns-else-is_too_long-clause-text
returns-else-is_too_long-clause-text c = ap uri_text (sym c.if-is_too_long.false)
