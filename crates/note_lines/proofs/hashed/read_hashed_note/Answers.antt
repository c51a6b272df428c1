use Rattle.std.proofs.Common.{◌≡◌, ◌≢◌, Ok, length, subst, MatchOption}
use Rattle.flag_text.specs.Reading.{tree_of}
use Rattle.flag_text.specs.Shape.{Shape}
use Rattle.flag_text.specs.View.{view}
use Rattle.note_lines.proofs.Lines.{ends_line, no_tree, of_hashed_tree, by_both}
use Rattle.note_lines.proofs.hashed.read_hashed_note.Goals as goal

pub returns-in_default-clause-exact : goal.returns-in_default-clause-exact
returns-in_default-clause-exact c = (ends_line c.args.line.now c.in_default.ensures).1

pub returns-in_default-2-clause-exact : goal.returns-in_default-2-clause-exact
returns-in_default-2-clause-exact c =
    let text = c.in-Some.text.now in
    let refused : (tree : Shape) → tree_of text (length text) ≢ Ok tree =
    subst (λ o. MatchOption o ((tree : Shape) → tree_of text (length text) ≢ Ok tree) (λ tree. tree_of text (length text) ≡ Ok (view tree))) c.in_default-2.is c.in_ok-tree.ensures in
    (no_tree c.args.line.now text c.in-Some.ensures refused).1

pub returns-clause-exact : goal.returns-clause-exact
returns-clause-exact c =
    let text = c.in-Some.text.now in
    let seen : tree_of text (length text) ≡ Ok (view c.in-Some-2.tree) =
    subst (λ o. MatchOption o ((tree : Shape) → tree_of text (length text) ≢ Ok tree) (λ tree. tree_of text (length text) ≡ Ok (view tree))) c.in-Some-2.is c.in_ok-tree.ensures in
    by_both c.spelled_note.result (of_hashed_tree c.args.line.now text (view c.in-Some-2.tree) c.in-Some.ensures seen) c.spelled_note.ensures.note c.spelled_note.ensures.none
