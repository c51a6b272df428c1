use Rattle.std.proofs.Common.{arith, rules, ◌+◌, ◌≡◌, ◌∙◌, [], Err, List, Ok, ℕ, ap, drop, false, IfSome, map, refl, string_bytes, subst, sym, take}
use Rattle.std.proofs.lemmas.List.{drop_all}
use Rattle.std.proofs.lemmas.Result.{err_from_is_err_and}
use Rattle.std.specs.Prelude.{Result}
use Rattle.flagops_books.specs.Step.{GivesUnited, HaveSucceeded}
use Rattle.flagops_books.specs.Union.{IsUnited}
use Rattle.flagops_books.specs.declared.uniting.Step.{Step}
use Rattle.flagops_books.specs.declared.uniting.Step.TheVariants.{Noted, Stopped}
use Rattle.flagops_books.specs.Attempts.{united_attempts}
use Rattle.flagops_books.specs.Refusal.{Refused, TellsOfFirst, is_want}
use Rattle.flagops_files.specs.Told.{AllSucceed, NamesFirst}
use Rattle.flagops_books.proofs.Following.{Ahead, Goes, ahead_on, ahead_refused, all_ahead, before_next, both_known, everywhere, first_left, goes_all, goes_on, goes_refused, goes_stopped, none_before, starts, where_known}
use Rattle.note_lines.specs.Notes.{no_notes}
use Rattle.flagops_books.proofs.uniting.united.Goals as goal

pub loop-path-init : goal.loop-path-init
loop-path-init g c =
    let quiet : string_bytes c.new-2.result ≡ [] = search rules in
    let paths = map (λ p. p.now) c.args.paths.now in
    record {
      goes = everywhere (g.F.FileSet.holding c.args.files.now) (λ at. Goes at c.args.passing paths paths (record { book = c.new.result; told = c.new-2.result }))
          (λ at. starts at c.args.passing paths (record { book = c.new.result; told = c.new-2.result }) c.new.ensures quiet);
      ahead = everywhere (g.F.FileSet.holding c.args.files.now) (λ at. Ahead at c.args.passing paths [] paths (record { book = c.new.result; told = c.new-2.result }))
          (λ at. none_before at c.args.passing paths (record { book = c.new.result; told = c.new-2.result }) c.new.ensures quiet);
      failed = refl;
      kept = refl;
    }

pub returns-in_err-step-clause-exact : goal.returns-in_err-step-clause-exact
returns-in_err-step-clause-exact g c =
    let before = c.loop-path in
    let paths = c.args.paths.now in
    let all = map (λ p. p.now) paths in
    let refused = c.in_err-step.field-0.0 in
    let p = err_from_is_err_and c.from_residual.result c.from_residual.ensures.1 in
    let is : c.from_residual.result ≡ Err refused = p.1 ∙ ap Err p.2 in
    let told =
    both_known (g.F.FileSet.holding c.args.files.now) (g.F.FileSet.holding before.files)
    (λ at. Goes at c.args.passing all (map (λ p. p.now) (drop before.path-index paths)) before.all)
    (λ at. GivesUnited (Err refused) (IsUnited at c.args.passing all no_notes []))
    before.invariant.kept before.invariant.goes c.in_err-step.ensures.exact
    (λ at goes gives.
    goes_refused at c.args.passing all (map (λ p. p.now) (drop before.path-index paths)) (map (λ p. p.now) (drop (before.path-index + 1) paths)) _ before.all goes
    (first_left (λ p. p.now) paths before.path-index _ (omega arith)) refused gives) in
    subst (λ (r : Result Step Refused). IfSome (g.F.FileSet.holding c.args.files.now) (λ at. GivesUnited r (IsUnited at c.args.passing all no_notes []))) (sym is) told

pub returns-in_err-step-clause-names : goal.returns-in_err-step-clause-names
returns-in_err-step-clause-names g c =
    let before = c.loop-path in
    let paths = c.args.paths.now in
    let all = map (λ p. p.now) paths in
    let refused = c.in_err-step.field-0.0 in
    let p = err_from_is_err_and c.from_residual.result c.from_residual.ensures.1 in
    let is : c.from_residual.result ≡ Err refused = p.1 ∙ ap Err p.2 in
    let told =
    both_known (g.F.FileSet.holding c.args.files.now) (g.F.FileSet.holding before.files)
    (λ at. Ahead at c.args.passing all (map (λ p. p.now) (take before.path-index paths)) (map (λ p. p.now) (drop before.path-index paths)) before.all)
    (λ at. is_want refused.refusal ≡ false → NamesFirst (united_attempts at c.args.passing [] all) refused.refusal refused.remark)
    before.invariant.kept before.invariant.ahead c.in_err-step.ensures.exact
    (λ at ahead gives.
    ahead_refused at c.args.passing all (map (λ p. p.now) (take before.path-index paths)) (map (λ p. p.now) (drop before.path-index paths)) (map (λ p. p.now) (drop (before.path-index + 1) paths)) _ before.all ahead
    (first_left (λ p. p.now) paths before.path-index _ (omega arith)) refused gives c.in_err-step.ensures.names) in
    subst (λ (r : Result Step Refused). IfSome (g.F.FileSet.holding c.args.files.now) (λ at. TellsOfFirst (united_attempts at c.args.passing [] all) r)) (sym is) told

pub returns-in-Stopped-clause-exact : goal.returns-in-Stopped-clause-exact
returns-in-Stopped-clause-exact g c =
    let before = c.loop-path in
    let paths = c.args.paths.now in
    let all = map (λ p. p.now) paths in
    both_known (g.F.FileSet.holding c.args.files.now) (g.F.FileSet.holding before.files)
    (λ at. Goes at c.args.passing all (map (λ p. p.now) (drop before.path-index paths)) before.all)
    (λ at. GivesUnited (Ok (Stopped c.in-Stopped.outcome)) (IsUnited at c.args.passing all no_notes []))
    before.invariant.kept before.invariant.goes c.in_ok-step.ensures.exact
    (λ at goes gives.
    goes_stopped at c.args.passing all (map (λ p. p.now) (drop before.path-index paths)) (map (λ p. p.now) (drop (before.path-index + 1) paths)) _ before.all goes
    (first_left (λ p. p.now) paths before.path-index _ (omega arith)) c.in_ok-step.step c.in-Stopped.outcome c.in-Stopped.is gives)

pub loop-path-preserved : goal.loop-path-preserved
loop-path-preserved g c =
    let before = c.loop-path in
    let paths = c.args.paths.now in
    let all = map (λ p. p.now) paths in
    record {
      goes =
          both_known (g.F.FileSet.holding c.args.files.now) (g.F.FileSet.holding before.files)
          (λ at. Goes at c.args.passing all (map (λ p. p.now) (drop before.path-index paths)) before.all)
          (λ at. Goes at c.args.passing all (map (λ p. p.now) (drop (before.path-index + 1) paths)) c.in-Noted.next)
          before.invariant.kept before.invariant.goes c.in_ok-step.ensures.exact
          (λ at goes gives.
          goes_on at c.args.passing all (map (λ p. p.now) (drop before.path-index paths)) (map (λ p. p.now) (drop (before.path-index + 1) paths)) _ before.all goes
          (first_left (λ p. p.now) paths before.path-index _ (omega arith)) c.in_ok-step.step c.in-Noted.next c.in-Noted.is gives);
      ahead =
          both_known (g.F.FileSet.holding c.args.files.now) (g.F.FileSet.holding before.files)
          (λ at. Ahead at c.args.passing all (map (λ p. p.now) (take before.path-index paths)) (map (λ p. p.now) (drop before.path-index paths)) before.all)
          (λ at. Ahead at c.args.passing all (map (λ p. p.now) (take (before.path-index + 1) paths)) (map (λ p. p.now) (drop (before.path-index + 1) paths)) c.in-Noted.next)
          before.invariant.kept before.invariant.ahead c.in_ok-step.ensures.exact
          (λ at ahead gives.
          subst (λ (ps : List (List ℕ)). Ahead at c.args.passing all ps (map (λ p. p.now) (drop (before.path-index + 1) paths)) c.in-Noted.next) (sym (before_next (λ p. p.now) paths before.path-index _ (omega arith)))
          (ahead_on at c.args.passing all (map (λ p. p.now) (take before.path-index paths)) (map (λ p. p.now) (drop before.path-index paths)) (map (λ p. p.now) (drop (before.path-index + 1) paths)) _ before.all ahead
          (first_left (λ p. p.now) paths before.path-index _ (omega arith)) c.in_ok-step.step c.in-Noted.next c.in-Noted.is gives));
      failed = search rules;
      kept = search rules;
    }

pub returns-clause-exact : goal.returns-clause-exact
returns-clause-exact g c =
    let l = c.loop-path in
    let paths = c.args.paths.now in
    let all = map (λ p. p.now) paths in
    where_known (g.F.FileSet.holding c.args.files.now)
    (λ at. Goes at c.args.passing all (map (λ p. p.now) (drop l.path-index paths)) l.all)
    (λ at. GivesUnited (Ok (Noted l.all)) (IsUnited at c.args.passing all no_notes []))
    (λ at goes. goes_all at c.args.passing all (map (λ p. p.now) (drop l.path-index paths)) l.all goes (ap (map (λ p. p.now)) (drop_all l.path-index paths c.loop-path-test.false))) l.invariant.goes

pub returns-clause-succeed : goal.returns-clause-succeed
returns-clause-succeed g c =
    let l = c.loop-path in
    let paths = c.args.paths.now in
    let all = map (λ p. p.now) paths in
    where_known (g.F.FileSet.holding c.args.files.now)
    (λ at. Ahead at c.args.passing all (map (λ p. p.now) (take l.path-index paths)) (map (λ p. p.now) (drop l.path-index paths)) l.all)
    (λ at. AllSucceed (united_attempts at c.args.passing [] all))
    (λ at ahead. all_ahead at c.args.passing all (map (λ p. p.now) (take l.path-index paths)) (map (λ p. p.now) (drop l.path-index paths)) l.all ahead (ap (map (λ p. p.now)) (drop_all l.path-index paths c.loop-path-test.false))) l.invariant.ahead

-- nothing is told of a refusal, where none is

pub returns-clause-names : goal.returns-clause-names
returns-clause-names g c = everywhere (g.F.FileSet.holding c.args.files.now) (λ at. Unit {0}) (λ at. tt)

pub returns-in-Stopped-clause-names : goal.returns-in-Stopped-clause-names
returns-in-Stopped-clause-names g c = everywhere (g.F.FileSet.holding c.args.files.now) (λ at. Unit {0}) (λ at. tt)

pub returns-in-Stopped-clause-succeed : goal.returns-in-Stopped-clause-succeed
returns-in-Stopped-clause-succeed g c = everywhere (g.F.FileSet.holding c.args.files.now) (λ at. Unit {0}) (λ at. tt)

pub returns-in_err-step-clause-succeed : goal.returns-in_err-step-clause-succeed
returns-in_err-step-clause-succeed g c =
    let all = map (λ p. p.now) c.args.paths.now in
    let refused = c.in_err-step.field-0.0 in
    let p = err_from_is_err_and c.from_residual.result c.from_residual.ensures.1 in
    let is : c.from_residual.result ≡ Err refused = p.1 ∙ ap Err p.2 in
    subst (λ (r : Result Step Refused). IfSome (g.F.FileSet.holding c.args.files.now) (λ at. HaveSucceeded (united_attempts at c.args.passing [] all) r)) (sym is) (everywhere (g.F.FileSet.holding c.args.files.now) (λ at. Unit {0}) (λ at. tt))
