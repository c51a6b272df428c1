use Rattle.std.proofs.Common.{◌∙◌, decimal, ap, sym}
use Rattle.http_server.specs.Refusal.{refusal_status}
use Rattle.ofrep_connections.specs.Refused.{status_text}
use Rattle.ofrep_connections.proofs.Statuses.{bad, broken, large, refusal_code, unknown, unreadable, unreadable_text}
use Rattle.ofrep_connections.proofs.refusals.status_of.Goals as goal

pub returns-in-Truncated-clause-number : goal.returns-in-Truncated-clause-number
returns-in-Truncated-clause-number c = bad ∙ ap refusal_code (sym c.in-Truncated.is)

pub returns-in-Unreadable-clause-number : goal.returns-in-Unreadable-clause-number
returns-in-Unreadable-clause-number c = ap decimal c.status.ensures ∙ unreadable c.in-Unreadable.error ∙ ap refusal_code (sym c.in-Unreadable.is)

pub returns-in-BodyTooLarge-clause-number : goal.returns-in-BodyTooLarge-clause-number
returns-in-BodyTooLarge-clause-number c = large ∙ ap refusal_code (sym c.in-BodyTooLarge.is)

pub returns-in-InvalidPart-clause-number : goal.returns-in-InvalidPart-clause-number
returns-in-InvalidPart-clause-number c = c.part_status.ensures.number ∙ ap refusal_code (sym c.in-InvalidPart.is)

pub returns-in-InvalidHost-clause-number : goal.returns-in-InvalidHost-clause-number
returns-in-InvalidHost-clause-number c = bad ∙ ap refusal_code (sym c.in-InvalidHost.is)

pub returns-in-UnknownCoding-clause-number : goal.returns-in-UnknownCoding-clause-number
returns-in-UnknownCoding-clause-number c = unknown ∙ ap refusal_code (sym c.in-UnknownCoding.is)

pub returns-in-InvalidResponse-clause-number : goal.returns-in-InvalidResponse-clause-number
returns-in-InvalidResponse-clause-number c = broken ∙ ap refusal_code (sym c.in-InvalidResponse.is)

pub returns-in-Truncated-clause-text : goal.returns-in-Truncated-clause-text
returns-in-Truncated-clause-text c = ap refusal_status (sym c.in-Truncated.is)

pub returns-in-Unreadable-clause-text : goal.returns-in-Unreadable-clause-text
returns-in-Unreadable-clause-text c = ap status_text c.status.ensures ∙ unreadable_text c.in-Unreadable.error ∙ ap refusal_status (sym c.in-Unreadable.is)

pub returns-in-BodyTooLarge-clause-text : goal.returns-in-BodyTooLarge-clause-text
returns-in-BodyTooLarge-clause-text c = ap refusal_status (sym c.in-BodyTooLarge.is)

pub returns-in-InvalidPart-clause-text : goal.returns-in-InvalidPart-clause-text
returns-in-InvalidPart-clause-text c = c.part_status.ensures.text ∙ ap refusal_status (sym c.in-InvalidPart.is)

pub returns-in-InvalidHost-clause-text : goal.returns-in-InvalidHost-clause-text
returns-in-InvalidHost-clause-text c = ap refusal_status (sym c.in-InvalidHost.is)

pub returns-in-UnknownCoding-clause-text : goal.returns-in-UnknownCoding-clause-text
returns-in-UnknownCoding-clause-text c = ap refusal_status (sym c.in-UnknownCoding.is)

pub returns-in-InvalidResponse-clause-text : goal.returns-in-InvalidResponse-clause-text
returns-in-InvalidResponse-clause-text c = ap refusal_status (sym c.in-InvalidResponse.is)
