use Rattle.std.proofs.Common.{Bor, ◌∷◌, ℕ, List, IfSome, Ok, Err, map, subst}
use Rattle.note_tallies.specs.Tally.{PageTally}
use Rattle.flagops_filters.specs.Join.{JoinsAllFiles}
use Rattle.flagops_filters.specs.Joined.{JoinsUnless}
use Rattle.flagops_filters.specs.Remarks.{RemarksUnjoinedOf}
use Rattle.flagops_filters.specs.Words.{joining_view}
use Rattle.flagops_filters.proofs.Joins.{refused, reported}
use Rattle.flagops_filters.proofs.joining.reported.Goals as goal

pub returns-in-Ok-clause-exact : goal.returns-in-Ok-clause-exact
returns-in-Ok-clause-exact g c =
    let h = g.F.FileSet.holding c.args.files.now in
    let first = c.args.asked.now.first.now in
    let joins = subst (λ (ps : List (Bor (List ℕ))). IfSome h (λ at. JoinsUnless (Ok c.in-Ok.tally) (JoinsAllFiles at (first ∷ map (λ p. p.now) ps)))) c.as_slice.ensures.value c.in-Ok.ensures.exact in
    reported h (joining_view c.args.asked.now).tallies c.in-Ok.tally c.printed.result joins c.printed.ensures.exact

pub returns-in-Err-clause-exact : goal.returns-in-Err-clause-exact
returns-in-Err-clause-exact g c =
    let h = g.F.FileSet.holding c.args.files.now in
    let first = c.args.asked.now.first.now in
    let joins = subst (λ (ps : List (Bor (List ℕ))). IfSome h (λ at. JoinsUnless (Err c.in-Err.told) (JoinsAllFiles at (first ∷ map (λ p. p.now) ps)))) c.as_slice.ensures.value c.in-Err.ensures.exact in
    refused h (joining_view c.args.asked.now).tallies c.in-Err.told joins

pub returns-in-Err-clause-names : goal.returns-in-Err-clause-names
returns-in-Err-clause-names g c =
    let h = g.F.FileSet.holding c.args.files.now in
    subst (λ (ps : List (Bor (List ℕ))). IfSome h (λ at. RemarksUnjoinedOf {X = PageTally} at (c.args.asked.now.first.now ∷ map (λ p. p.now) ps) (Err c.in-Err.told))) c.as_slice.ensures.value c.in-Err.ensures.names
