use Rattle.std.proofs.Common.{◌∙◌, Option, ap}
use Rattle.http_header.specs.FieldValue.{FieldValue}
use Rattle.service_layers.specs.Asked.{trace_given, value_of}
use Rattle.service_layers.proofs.logged.trace_of.Goals as goal

pub returns : goal.returns
returns c = c.trace_given.ensures ∙ ap (λ (o : Option FieldValue). trace_given (value_of o)) c.parent_of.ensures
