-- The rows are the certificate of the dual prices that a cheapest flow has.
use Rattle.std.proofs.Common.{◌≡◌, ℕ, List, true, sym, ap, ◌∙◌, subst, arith}
use Rattle.std.specs.List.{zip}
use Rattle.std.specs.Map.{keys_of}
use Rattle.transport_core.specs.WrittenCertificate.{has_whole_numbers}
use Rattle.price_core.specs.Limits.{Limits}
use Rattle.min_cost_flow.specs.Problem.{names_of}
use Rattle.transport_core.specs.Assignment.{IsProved}
use Rattle.transport_core.specs.Certificate.{DualPrices, alpha_view, beta_view}
use Rattle.transport_core.specs.Groups.{GroupKey}
use Rattle.transport_plan.proofs.Certified.{cost_same, is_proved, is_whole, duals_are, same_certificate}
use Rattle.transport_plan.proofs.certifying.certificate.Goals as goal

pub returns : goal.returns
returns c =
    let p = c.args.instance.now in
    let q = c.args.problem.now in
    let f = c.args.flow.now in
    let s = c.args.search.now in
    let beta = c.in_ok-name_duals.name_duals.items in
    let alpha = c.in_ok-group_duals.group_duals.items in
    let cost = c.cost_of-cost.result in
    let problem = c.groups.ensures.lawful in
    let width_is : c.len-width.result ≡ names_of q = omega (arith, c.len-width.ensures, q.high.ok.0) in
    let costs = duals_are q s alpha beta c.deref-4.result.now c.deref.result.now c.deref-2.result.now c.deref-3.result.now c.len-width.result width_is c.deref.ensures.value c.deref-2.ensures.value c.deref-3.ensures.value
    c.deref-4.ensures.value c.in_ok-name_duals.ensures.size c.in_ok-name_duals.ensures.each c.in_ok-group_duals.ensures.size c.in_ok-group_duals.ensures.each in
    let cost_is = c.cost_of-cost.ensures ∙ cost_same q f c.deref-5.result.now c.deref-6.result.now c.deref-7.result.now c.len-width.result width_is c.deref-5.ensures.value c.deref-6.ensures.value c.deref-7.ensures.value in
    let rows = c.in_ok-alpha.ensures ∙ (ap (λ (gs : List (GroupKey × ℕ)). zip (keys_of gs) c.deref-8.result.now) c.groups.ensures.value ∙ ap (zip (keys_of p.groups)) c.deref-8.ensures.value) in
    let names = c.in_ok-beta.ensures
    ∙ (ap (λ (ls : Limits). zip (keys_of ls) c.deref-9.result.now) (c.entries.ensures.value ∙ c.totals.ensures.value) ∙ ap (zip (keys_of p.limits)) c.deref-9.ensures.value) in
    let same = same_certificate p alpha beta cost (alpha_view c.in_ok-alpha.alpha.items) (beta_view c.in_ok-beta.beta.items) rows names in
    record {
      proved = subst (λ (d : DualPrices). IsProved p f.placed.items d) (sym same) (is_proved p q f s alpha beta cost problem c.requires.flow.numbered c.requires.flow.lawful c.requires.flow.flow c.requires.cheapest costs cost_is);
      whole = subst (λ (d : DualPrices). has_whole_numbers d ≡ true) (sym same) (is_whole p q f s alpha beta cost problem c.requires.flow.numbered c.requires.flow.lawful c.requires.flow.flow c.requires.cheapest costs cost_is);
    }
