use Rattle.std.proofs.Common.{◌∙◌, ap, sym}
use Rattle.http_server.specs.Refusal.{part_status}
use Rattle.ofrep_connections.proofs.Statuses.{many, other_part, other_part_text, part_code, uri_code, uri_text}
use Rattle.ofrep_connections.proofs.refusals.part_status.Goals as goal

pub returns-in-HeaderName-clause-number : goal.returns-in-HeaderName-clause-number
returns-in-HeaderName-clause-number c = many ∙ ap part_code (sym c.in-HeaderName.is)

pub returns-in-MaxSizeReached-clause-number : goal.returns-in-MaxSizeReached-clause-number
returns-in-MaxSizeReached-clause-number c = many ∙ ap part_code (sym c.in-MaxSizeReached.is)

pub returns-in-Uri-clause-number : goal.returns-in-Uri-clause-number
returns-in-Uri-clause-number c = c.uri_status.ensures.number ∙ ap uri_code c.is_too_long.ensures ∙ ap part_code (sym c.in-Uri.is)

pub returns-in_default-clause-number : goal.returns-in_default-clause-number
returns-in_default-clause-number c = other_part c.args.error c.in_default.not-HeaderName c.in_default.not-MaxSizeReached c.in_default.not-Uri

pub returns-in-HeaderName-clause-text : goal.returns-in-HeaderName-clause-text
returns-in-HeaderName-clause-text c = ap part_status (sym c.in-HeaderName.is)

pub returns-in-MaxSizeReached-clause-text : goal.returns-in-MaxSizeReached-clause-text
returns-in-MaxSizeReached-clause-text c = ap part_status (sym c.in-MaxSizeReached.is)

pub returns-in-Uri-clause-text : goal.returns-in-Uri-clause-text
returns-in-Uri-clause-text c = c.uri_status.ensures.text ∙ ap uri_text c.is_too_long.ensures ∙ ap part_status (sym c.in-Uri.is)

pub returns-in_default-clause-text : goal.returns-in_default-clause-text
returns-in_default-clause-text c = other_part_text c.args.error c.in_default.not-HeaderName c.in_default.not-MaxSizeReached c.in_default.not-Uri
