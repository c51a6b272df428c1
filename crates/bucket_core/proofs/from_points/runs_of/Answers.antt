use Rattle.std.proofs.Common.{◌≡◌, ◌<◌, ◌++◌, ◌∷◌, [], ℕ, length, get_or, drop, ap, ◌∙◌, arith}
use Rattle.std.proofs.lemmas.List.{map_push}
use Rattle.std.proofs.lemmas.List.Elements.{All-drop, All-append}
use Rattle.bucket_core.specs.Rule.{all_named, named, names_at, points}
use Rattle.bucket_core.proofs.Named.{one_named}
use Rattle.bucket_core.proofs.Runs.{runs, run_first, push_run, runs_done, points-runs, IsCanonical-runs}
use Rattle.bucket_core.proofs.from_points.runs_of.Goals as goal

pub loop-item-preserved : goal.loop-item-preserved
loop-item-preserved c = λ names inside distinct.
    let l = c.loop-item in
    let before = l.invariant names inside distinct in
    let item = c.in-Some.item.now in
    let k = c.run_len-run.result in
    let rest = l.rest.now in
    let after = runs (names_at names (drop k rest)) in
    let whole = runs (names_at names c.args.items.now) in
    let here : item < length names = omega (arith, before.0 0 0 c.in-Some.ensures.item.3.0, c.in-Some.ensures.item.3.1 0) in
    let first = run_first names distinct item rest k c.in-Some.ensures.item.3.0 c.in-Some.ensures.item.1 before.0 c.run_len-run.ensures.value in
    let pushed : all_named names (l.entries.items ++ (item, k) ∷ []) ≡ all_named names l.entries.items ++ named names (item, k) ∷ [] = map_push (named names) l.entries.items (item, k) in
    rw (c.split_at.ensures.back, c.in_ok-push.ensures.items) (
      All-drop (λ i. i < length names) k rest before.0,
      All-append (λ (e : ℕ × ℕ). e.0 < length names) l.entries.items ((item, k) ∷ []) before.1 (one_named names item k here),
      ap (λ es. es ++ after) pushed ∙ push_run (all_named names l.entries.items) (runs (names_at names rest)) after whole (get_or names item [], k) first.1 before.2,
    )

pub returns : goal.returns
returns c = record {
  named = λ names inside distinct.
      let l = c.loop-item in
      let found = l.invariant names inside distinct in
      let all = runs_done (all_named names l.entries.items) _ names l.rest.now c.in_default.ensures.item.3 found.2 in (
        found.1,
        ap points all ∙ points-runs (names_at names c.args.items.now),
        rw all (IsCanonical-runs (names_at names c.args.items.now)),
      );
}
