use Rattle.std.proofs.Common.{arith, ◌+◌, ◌≡◌, ◌∙◌, Err, Ok, ap, drop, IfSome, map, refl, rules, sym, subst, false}
use Rattle.std.proofs.lemmas.List.{drop_all}
use Rattle.std.proofs.lemmas.Result.{err_from_is_err_and}
use Rattle.std.specs.Prelude.{Result}
use Rattle.flagops_checks.specs.Documents.{AreChecked}
use Rattle.flagops_checks.specs.Step.{GivesAll}
use Rattle.flagops_checks.specs.declared.gathering.Gathered.{Gathered}
use Rattle.flagops_checks.specs.Told.{check_attempts}
use Rattle.flagops_checks.proofs.Following.{Goes, both_known, everywhere, first_left, goes_all, goes_on, goes_refused, goes_told, starts, where_known}
use Rattle.flagops_checks.specs.Refusal.{Refused, TellsOfFirst, is_want}
use Rattle.flagops_files.specs.Told.{NamesFirst}
use Rattle.flagops_checks.proofs.gathering.gather.Goals as goal

pub loop-path-init : goal.loop-path-init
loop-path-init g c =
    let paths = map (λ p. p.now) c.args.paths.now in
    let all : Gathered = record { text = c.new.result; told = c.new-2.result; is_wrong = false } in
    record {
      goes = everywhere (g.F.FileSet.holding c.args.files.now) (λ at. Goes c.args.form at paths paths all) (λ at. starts c.args.form at paths all c.new.ensures.items refl c.new-2.ensures.lines);
      failed = refl;
      kept = refl;
    }

pub returns-in_err-all-clause-exact : goal.returns-in_err-all-clause-exact
returns-in_err-all-clause-exact g c =
    let before = c.loop-path in
    let paths = c.args.paths.now in
    let all = map (λ p. p.now) paths in
    let refused = c.in_err-all.field-0.0 in
    let p = err_from_is_err_and c.from_residual.result c.from_residual.ensures.1 in
    let is : c.from_residual.result ≡ Err refused = p.1 ∙ ap Err p.2 in
    let told =
    both_known (g.F.FileSet.holding c.args.files.now) (g.F.FileSet.holding before.files)
    (λ at. Goes c.args.form at all (map (λ p. p.now) (drop before.path-index paths)) before.all)
    (λ at. GivesAll c.args.form (Err refused) (AreChecked c.args.form.floats at all))
    before.invariant.kept before.invariant.goes c.in_err-all.ensures.exact
    (λ at goes gives.
    goes_refused c.args.form at all (map (λ p. p.now) (drop before.path-index paths)) (map (λ p. p.now) (drop (before.path-index + 1) paths)) _ before.all goes
    (first_left (λ p. p.now) paths before.path-index _ (omega arith)) refused gives) in
    subst (λ (r : Result Gathered Refused). IfSome (g.F.FileSet.holding c.args.files.now) (λ at. GivesAll c.args.form r (AreChecked c.args.form.floats at all))) (sym is) told

pub returns-in_err-all-clause-names : goal.returns-in_err-all-clause-names
returns-in_err-all-clause-names g c =
    let before = c.loop-path in
    let paths = c.args.paths.now in
    let all = map (λ p. p.now) paths in
    let refused = c.in_err-all.field-0.0 in
    let p = err_from_is_err_and c.from_residual.result c.from_residual.ensures.1 in
    let is : c.from_residual.result ≡ Err refused = p.1 ∙ ap Err p.2 in
    let told =
    both_known (g.F.FileSet.holding c.args.files.now) (g.F.FileSet.holding before.files)
    (λ at. Goes c.args.form at all (map (λ p. p.now) (drop before.path-index paths)) before.all)
    (λ at. is_want refused.refusal ≡ false → NamesFirst (check_attempts c.args.form.floats at all) refused.refusal refused.remark)
    before.invariant.kept before.invariant.goes c.in_err-all.ensures.exact
    (λ at goes gives.
    goes_told c.args.form at all (map (λ p. p.now) (drop before.path-index paths)) (map (λ p. p.now) (drop (before.path-index + 1) paths)) _ before.all goes
    (first_left (λ p. p.now) paths before.path-index _ (omega arith)) refused gives c.in_err-all.ensures.names) in
    subst (λ (r : Result Gathered Refused). IfSome (g.F.FileSet.holding c.args.files.now) (λ at. TellsOfFirst (check_attempts c.args.form.floats at all) r)) (sym is) told

pub loop-path-preserved : goal.loop-path-preserved
loop-path-preserved g c =
    let before = c.loop-path in
    let paths = c.args.paths.now in
    let all = map (λ p. p.now) paths in
    record {
      goes =
          both_known (g.F.FileSet.holding c.args.files.now) (g.F.FileSet.holding before.files)
          (λ at. Goes c.args.form at all (map (λ p. p.now) (drop before.path-index paths)) before.all)
          (λ at. Goes c.args.form at all (map (λ p. p.now) (drop (before.path-index + 1) paths)) c.in_ok-all.all)
          before.invariant.kept before.invariant.goes c.in_ok-all.ensures.exact
          (λ at goes gives.
          goes_on c.args.form at all (map (λ p. p.now) (drop before.path-index paths)) (map (λ p. p.now) (drop (before.path-index + 1) paths)) _ before.all goes
          (first_left (λ p. p.now) paths before.path-index _ (omega arith)) c.in_ok-all.all gives);
      failed = search rules;
      kept = search rules;
    }

pub returns-clause-exact : goal.returns-clause-exact
returns-clause-exact g c =
    let l = c.loop-path in
    let paths = c.args.paths.now in
    let all = map (λ p. p.now) paths in
    where_known (g.F.FileSet.holding c.args.files.now)
    (λ at. Goes c.args.form at all (map (λ p. p.now) (drop l.path-index paths)) l.all)
    (λ at. GivesAll c.args.form (Ok l.all) (AreChecked c.args.form.floats at all))
    (λ at goes. goes_all c.args.form at all (map (λ p. p.now) (drop l.path-index paths)) l.all goes (ap (map (λ p. p.now)) (drop_all l.path-index paths c.loop-path-test.false))) l.invariant.goes
