use Rattle.std.proofs.Common.{ℕ, List, IfOk, subst}
use Rattle.flagops_rollouts.specs.Beside.{Tells}
use Rattle.flagops_rollouts.specs.Doubts.{request_parts}
use Rattle.flagops_commands.specs.declared.rules.price.NotedRequest.{NotedRequest}
use Rattle.flagops_commands.proofs.Noted.{request_told_at}
use Rattle.flagops_commands.proofs.rules.price.load_request.Goals as goal

pub returns-clause-parts : goal.returns-clause-parts
returns-clause-parts g c =
    request_told_at (λ (r : NotedRequest). r.remark) c.args.path.now c.in_ok-bytes.bytes.items (g.F.FileSet.holding c.args.files.now) c.request_in.result c.in_ok-bytes.ensures.exact
    (subst (λ (b : List ℕ). IfOk c.request_in.result (λ r. Tells (request_parts c.args.path.now b) r.remark)) c.as_slice.ensures.value c.request_in.ensures.parts)
