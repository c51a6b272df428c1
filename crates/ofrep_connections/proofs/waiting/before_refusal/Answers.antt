use Rattle.std.proofs.Common.{Some, ◌∙◌}
use Rattle.std.proofs.lemmas.Bool.Decides.{Decides-eqb}
use Rattle.std.proofs.lemmas.Slice.Eq.{strip_suffix_is}
use Rattle.http_server.specs.Refusal.{refusal_text}
use Rattle.ofrep_connections.proofs.Fronts.{ending, front_before, start, text_before}
use Rattle.ofrep_connections.proofs.waiting.before_refusal.Goals as goal

pub returns-clause-text : goal.returns-clause-text
returns-clause-text c =
    text_before _ c.strip_suffix-3.result c.args.waiting.now c.in_ok-rest.rest.now c.in_ok-rest-2.rest.now c.as_bytes.result.now c.args.why
    (strip_suffix_is Decides-eqb c.args.waiting.now ending (Some c.in_ok-rest.rest) c.in_ok-rest.ensures.cases)
    (strip_suffix_is Decides-eqb c.in_ok-rest.rest.now c.as_bytes.result.now (Some c.in_ok-rest-2.rest) c.in_ok-rest-2.ensures.cases)
    (c.as_bytes.ensures.value ∙ c.status_text.ensures ∙ c.status_of.ensures.text)
    (strip_suffix_is Decides-eqb c.in_ok-rest-2.rest.now start c.strip_suffix-3.result c.strip_suffix-3.ensures.cases)

pub returns-clause-front : goal.returns-clause-front
returns-clause-front c = front_before c.strip_suffix-3.result c.args.waiting.now (refusal_text c.args.why) (returns-clause-text c)
