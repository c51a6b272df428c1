use Rattle.std.proofs.Common.{◌≡◌, [], length, get_or, sym, ap, ◌∙◌, arith}
use Rattle.std.proofs.lemmas.List.{length-map}
use Rattle.std.proofs.lemmas.Result.{IfOk-weaker}
use Rattle.bucket_core.specs.Canonical.{IsCanonical}
use Rattle.bucket_core.specs.Rule.{Entries, total_weight, points, all_named, names_at, names_view}
use Rattle.bucket_core.proofs.Named.{all_within}
use Rattle.bucket_core.proofs.Points.{length-points}
use Rattle.bucket_core.proofs.Runs.{canonical_unique}
use Rattle.bucket_core.proofs.rule.Rule.from_points.Goals as goal

pub of_named-requires : goal.of_named-requires
of_named-requires c =
    let names = names_view c.args.names.now in
    let items = c.args.items.now in
    let runs = c.in_ok-runs_of.ensures.named names (all_within c.args.names.now items c.requires.named) c.requires.distinct in
    let r = all_named names c.in_ok-runs_of.field-0.items in
    let total : total_weight r ≡ length items = sym (length-points r) ∙ (ap length runs.1 ∙ length-map items (λ i. get_or names i [])) in
    rw c.in_ok-copied.ensures (record {
      named = runs.0;
      total = record {
        some = omega (arith, total, c.requires.some);
        small = omega (arith, total, c.requires.few);
      };
    })

pub returns-clause-named : goal.returns-clause-named
returns-clause-named c =
    let names = names_view c.args.names.now in
    let runs = c.in_ok-runs_of.ensures.named names (all_within c.args.names.now c.args.items.now c.requires.named) c.requires.distinct in
    let made = rw c.in_ok-copied.ensures at c.of_named.ensures in
    IfOk-weaker c.of_named.result (λ r. r ≡ all_named names c.in_ok-runs_of.field-0.items) (λ r. points r ≡ names_at names c.args.items.now)
    (λ r is. ap points is ∙ runs.1) made

pub returns-clause-canonical : goal.returns-clause-canonical
returns-clause-canonical c =
    let names = names_view c.args.names.now in
    let runs = c.in_ok-runs_of.ensures.named names (all_within c.args.names.now c.args.items.now c.requires.named) c.requires.distinct in
    let made = rw c.in_ok-copied.ensures at c.of_named.ensures in
    IfOk-weaker c.of_named.result (λ r. r ≡ all_named names c.in_ok-runs_of.field-0.items) IsCanonical
    (λ r is. rw is runs.2) made

pub returns-clause-only : goal.returns-clause-only
returns-clause-only c =
    let names = names_view c.args.names.now in
    let runs = c.in_ok-runs_of.ensures.named names (all_within c.args.names.now c.args.items.now c.requires.named) c.requires.distinct in
    let made = rw c.in_ok-copied.ensures at c.of_named.ensures in
    IfOk-weaker c.of_named.result (λ r. r ≡ all_named names c.in_ok-runs_of.field-0.items) (λ r. (s : Entries) → IsCanonical s → points s ≡ points r → s ≡ r)
    (λ r is s canonical same. canonical_unique r s (rw is runs.2) canonical same) made
