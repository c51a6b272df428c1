use Rattle.std.proofs.Common.{rules, arith, ◌+◌, ◌≡◌, ◌∙◌, IfSome, Result, Ok, Err, ap, drop, map, refl, sym, subst}
use Rattle.std.proofs.lemmas.List.{drop_all}
use Rattle.std.proofs.lemmas.Result.{err_from_is_err_and}
use Rattle.note_tallies.specs.Tally.{PageTally}
use Rattle.flagops_filters.specs.Join.{JoinsFiles}
use Rattle.flagops_filters.specs.Joined.{JoinsUnless}
use Rattle.flagops_filters.specs.Remarks.{RemarksUnjoined}
use Rattle.flagops_filters.specs.Report.{Told}
use Rattle.flagops_filters.proofs.Joins.{all_files, first_left, leads_all, next_file, no_next, no_next_named}
use Rattle.flagops_filters.proofs.joining.all_with.Goals as goal

pub loop-path-init : goal.loop-path-init
loop-path-init g c = record {
  leads = leads_all (g.F.FileSet.holding c.args.files.now) c.args.one (map (λ p. p.now) c.args.paths.now);
  first = λ start. refl;
  failed = refl;
  kept = refl;
}

pub loop-path-preserved : goal.loop-path-preserved
loop-path-preserved g c =
    let before = c.loop-path in
    let paths = c.args.paths.now in
    record {
      leads = next_file c.args.one (map (λ p. p.now) paths) (g.F.FileSet.holding c.args.files.now) (g.F.FileSet.holding before.files) before.all c.in_ok-all.all _ (map (λ p. p.now) (drop (before.path-index + 1) paths)) (map (λ p. p.now) (drop before.path-index paths))
          before.invariant.kept before.invariant.leads c.in_ok-all.ensures.exact (first_left (λ p. p.now) paths before.path-index _ (omega arith));
      first = λ start. absurd (omega (arith, start));
      failed = search rules;
      kept = c.with_next.ensures.kept ∙ before.invariant.kept;
    }

pub returns-in_err-all-clause-exact : goal.returns-in_err-all-clause-exact
returns-in_err-all-clause-exact g c =
    let before = c.loop-path in
    let paths = c.args.paths.now in
    let h = g.F.FileSet.holding c.args.files.now in
    let told = c.in_err-all.field-0.0 in
    let p = err_from_is_err_and c.from_residual.result c.from_residual.ensures.1 in
    let is : c.from_residual.result ≡ Err told = p.1 ∙ ap Err p.2 in
    subst (λ (r : Result PageTally Told). IfSome h (λ at. JoinsUnless r (JoinsFiles at c.args.one (map (λ p. p.now) paths)))) (sym is)
    (no_next c.args.one (map (λ p. p.now) paths) h (g.F.FileSet.holding before.files) before.all told _ (map (λ p. p.now) (drop (before.path-index + 1) paths)) (map (λ p. p.now) (drop before.path-index paths))
    before.invariant.kept before.invariant.leads c.in_err-all.ensures.exact (first_left (λ p. p.now) paths before.path-index _ (omega arith)))

pub returns-clause-exact : goal.returns-clause-exact
returns-clause-exact g c =
    let l = c.loop-path in
    let paths = c.args.paths.now in
    all_files c.args.one (map (λ p. p.now) paths) (g.F.FileSet.holding c.args.files.now) l.all (map (λ p. p.now) (drop l.path-index paths)) (ap (map (λ p. p.now)) (drop_all l.path-index paths c.loop-path-test.false)) l.invariant.leads

pub returns-in_err-all-clause-names : goal.returns-in_err-all-clause-names
returns-in_err-all-clause-names g c =
    let before = c.loop-path in
    let paths = c.args.paths.now in
    let h = g.F.FileSet.holding c.args.files.now in
    let told = c.in_err-all.field-0.0 in
    let p = err_from_is_err_and c.from_residual.result c.from_residual.ensures.1 in
    let is : c.from_residual.result ≡ Err told = p.1 ∙ ap Err p.2 in
    subst (λ (r : Result PageTally Told). IfSome h (λ at. RemarksUnjoined at c.args.one (map (λ p. p.now) paths) r)) (sym is)
    (no_next_named c.args.one (map (λ p. p.now) paths) h (g.F.FileSet.holding before.files) before.all told _ (map (λ p. p.now) (drop (before.path-index + 1) paths)) (map (λ p. p.now) (drop before.path-index paths))
    before.invariant.kept before.invariant.leads c.in_err-all.ensures.exact (first_left (λ p. p.now) paths before.path-index _ (omega arith)) c.in_err-all.ensures.names)

pub returns-in_err-all-clause-alone : goal.returns-in_err-all-clause-alone
returns-in_err-all-clause-alone g c = λ none. absurd (omega (arith, none))

pub returns-clause-alone : goal.returns-clause-alone
returns-clause-alone g c = λ none. ap Ok (c.loop-path.invariant.first (omega (arith, none)))
