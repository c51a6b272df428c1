use Rattle.std.proofs.Common.{◌++◌, ap, ◌∙◌}
use Rattle.std.specs.Str.{bytes_eq}
use Rattle.logic_eval.proofs.Joined.{joined_some, joined_none}
use Rattle.logic_eval.proofs.choice.is_joined.Goals as goal

pub returns-in-Some : goal.returns-in-Some
returns-in-Some c =
    let text = c.as_bytes.result.now in
    let flag = c.as_bytes-2.result.now in
    let key = c.as_bytes-in-Some.result.now in
    c.eq.ensures ∙ (joined_some flag key text c.in-Some.rest.now c.in-Some.ensures.cases.0 c.in-Some.ensures.cases.1
    ∙ (ap (λ x. bytes_eq x (flag ++ key)) c.as_bytes.ensures.value
    ∙ (ap (λ x. bytes_eq c.args.text.now (x ++ key)) c.as_bytes-2.ensures.value
    ∙ ap (λ x. bytes_eq c.args.text.now (c.args.flag.now ++ x)) c.as_bytes-in-Some.ensures.value)))

pub returns-in-None : goal.returns-in-None
returns-in-None c =
    let text = c.as_bytes.result.now in
    let flag = c.as_bytes-2.result.now in
    let key = c.args.key.now in
    joined_none flag key text c.in-None.ensures.cases
    ∙ (ap (λ x. bytes_eq x (flag ++ key)) c.as_bytes.ensures.value
    ∙ ap (λ x. bytes_eq c.args.text.now (x ++ key)) c.as_bytes-2.ensures.value)
