use Rattle.std.proofs.Common.{ℕ, List, IfSome, [], map, subst, Bor}
use Rattle.flagops_books.specs.Step.{GivesUnited, HaveSucceeded}
use Rattle.flagops_books.specs.Union.{IsUnited}
use Rattle.flagops_books.specs.Words.{uniting_view}
use Rattle.note_lines.specs.Notes.{no_notes}
use Rattle.flagops_books.specs.Attempts.{united_attempts}
use Rattle.flagops_books.specs.Refusal.{TellsOfFirst}
use Rattle.flagops_books.proofs.Ending.{file_first, file_succeeds, for_free, not_free, out_first}
use Rattle.flagops_books.proofs.Following.{everywhere}
use Rattle.flagops_books.proofs.command.united_for.Goals as goal

pub returns-in-Ok-clause-exact : goal.returns-in-Ok-clause-exact
returns-in-Ok-clause-exact g c =
    let u = uniting_view c.args.asked.now in
    let old = g.F.FileSet.holding c.args.files.now in
    let came = subst (λ (xs : List (Bor (List ℕ))). IfSome old (λ at. GivesUnited c.united.result (IsUnited at u.torn (map (λ p. p.now) xs) no_notes []))) c.as_slice.ensures.value c.united.ensures.exact in
    for_free u old _ c.united.result c.in-Ok.ensures.exact came

pub returns-in-Err-clause-exact : goal.returns-in-Err-clause-exact
returns-in-Err-clause-exact g c = not_free (uniting_view c.args.asked.now) _ c.in-Err.refused c.in-Err.ensures.exact

pub returns-in-Ok-clause-names : goal.returns-in-Ok-clause-names
returns-in-Ok-clause-names g c =
    let u = uniting_view c.args.asked.now in
    let old = g.F.FileSet.holding c.args.files.now in
    let named = subst (λ (xs : List (Bor (List ℕ))). IfSome old (λ at. TellsOfFirst (united_attempts at u.torn [] (map (λ p. p.now) xs)) c.united.result)) c.as_slice.ensures.value c.united.ensures.names in
    file_first u old _ c.united.result c.in-Ok.ensures.exact named

pub returns-in-Ok-clause-succeed : goal.returns-in-Ok-clause-succeed
returns-in-Ok-clause-succeed g c =
    let u = uniting_view c.args.asked.now in
    let old = g.F.FileSet.holding c.args.files.now in
    let succeed = subst (λ (xs : List (Bor (List ℕ))). IfSome old (λ at. HaveSucceeded (united_attempts at u.torn [] (map (λ p. p.now) xs)) c.united.result)) c.as_slice.ensures.value c.united.ensures.succeed in
    file_succeeds u old _ c.united.result c.in-Ok.ensures.exact succeed

pub returns-in-Err-clause-names : goal.returns-in-Err-clause-names
returns-in-Err-clause-names g c = out_first (uniting_view c.args.asked.now) _ c.in-Err.refused c.in-Err.ensures.exact c.in-Err.ensures.names

pub returns-in-Err-clause-succeed : goal.returns-in-Err-clause-succeed
returns-in-Err-clause-succeed g c = everywhere (g.F.FileSet.holding c.args.files.now) (λ at. Unit {0}) (λ at. tt)
