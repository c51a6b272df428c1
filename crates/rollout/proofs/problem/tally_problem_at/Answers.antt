-- The counts of a tally of the total that is planned on are a tally of its rule.
use Rattle.std.proofs.Common.{◌≡◌, ◌==◌, ◌*◌, Result, Ok, sym, ap, ◌∙◌, rules}
use Rattle.std.proofs.lemmas.Bool.{and_parts, eqb-true}
use Rattle.bucket_core.specs.Rule.{Entries, entries_view, refinement, total_weight}
use Rattle.book_core.specs.Page.{page_eq}
use Rattle.rollout.specs.declared.fault.RolloutFault.{RolloutFault}
use Rattle.rollout.proofs.OfTally.{tally_made}
use Rattle.rollout.proofs.problem.tally_problem_at.Goals as goal

same_rule : (a b : Entries) (r : Result Entries RolloutFault) → r ≡ Ok a → r ≡ Ok b → b ≡ a
same_rule a b r one other = cc

pub returns-clause-tally : goal.returns-clause-tally
returns-clause-tally c =
    let t = c.args.tally.now in
    let k = c.factor-factor.result in
    let entries : Entries = entries_view c.args.place.entries.items in
    let weight : c.total_weight-total.result ≡ total_weight entries = search rules in
    let parts = and_parts (page_eq c.args.place.page t.page) (c.total_weight-total.result * k == t.total) (sym c.if-not-is_of.ensures) in
    let total : total_weight entries * k ≡ t.total = ap (λ n. n * k) (sym weight) ∙ eqb-true (c.total_weight-total.result * k) t.total parts.1 in
    let old : c.in_ok-old.old ≡ refinement k entries = search rules in
    let counts : c.in_ok-counts.counts.items ≡ c.counts_in.result.now = search rules in
    tally_made k entries c.in_ok-old.old t c.in_ok-counts.counts.items c.counts_in.ensures.lawful total old (counts ∙ c.counts_in.ensures.value)
