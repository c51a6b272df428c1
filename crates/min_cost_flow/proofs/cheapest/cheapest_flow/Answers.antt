-- The first pass begins with potentials of 0.
use Rattle.std.proofs.Common.{◌≡◌, ◌+◌, ◌∙◌, subst, arith}
use Rattle.min_cost_flow.specs.Problem.{names_of}
use Rattle.min_cost_flow.specs.Found.{HasSize}
use Rattle.min_cost_flow.proofs.PassEnds.{first_pass_begins}
use Rattle.min_cost_flow.proofs.cheapest.cheapest_flow.Goals as goal

pub pass-requires-clause-first_pass : goal.pass-requires-clause-first_pass
pass-requires-clause-first_pass g c =
    let p = c.args.problem.now in
    let f = c.in_ok-flow.flow in
    let s = c.in_ok-search.search in
    let same : c.len.result ≡ names_of p = c.len.ensures ∙ p.high.ok.0 in
    first_pass_begins p f s c.in_ok-flow.ensures.flow c.in_ok-flow.ensures.optimal (subst (λ k. HasSize (k + 1) s) same c.in_ok-search.ensures.size) (λ v v_in. c.in_ok-search.ensures.zero v (omega (arith, same, v_in)))
