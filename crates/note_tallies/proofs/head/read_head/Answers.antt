use Rattle.std.proofs.Common.{◌≡◌, ◌≢◌, Ok, Some, IfSome, length, ap, sym, ◌∙◌, subst, MatchOption}
use Rattle.flag_text.specs.Reading.{tree_of}
use Rattle.flag_text.specs.Shape.{Shape}
use Rattle.flag_text.specs.View.{view}
use Rattle.flag_text.specs.Printing.{text_of}
use Rattle.note_tallies.specs.File.{Head, head_shape}
use Rattle.note_tallies.specs.Reading.{IsAllowed, IsBounded}
use Rattle.note_tallies.proofs.FileHeads.{none_told, one_told}
use Rattle.note_tallies.proofs.head.read_head.Goals as goal

pub returns-in_default-2 : goal.returns-in_default-2
returns-in_default-2 c =
    let line = c.args.line.now in
    let seen : tree_of line (length line) ≡ Ok (view c.in-Some.tree) =
    subst (λ o. MatchOption o ((tree : Shape) → tree_of line (length line) ≢ Ok tree) (λ tree. tree_of line (length line) ≡ Ok (view tree))) c.in-Some.is c.in_ok-tree.ensures in
    none_told line (view c.in-Some.tree) c.in_ok-head.field-0 seen c.in_ok-head.ensures.head c.in_default-2.is

pub returns-then-not-branch : goal.returns-then-not-branch
returns-then-not-branch c = λ h is same.
    let line = c.args.line.now in
    let seen : tree_of line (length line) ≡ Ok (view c.in-Some.tree) =
    subst (λ o. MatchOption o ((tree : Shape) → tree_of line (length line) ≢ Ok tree) (λ tree. tree_of line (length line) ≡ Ok (view tree))) c.in-Some.is c.in_ok-tree.ensures in
    let one = one_told line (view c.in-Some.tree) c.in_ok-head.field-0 c.in-Some-2.head h seen c.in_ok-head.ensures.head c.in-Some-2.is is same in
    let yes = c.in_ok-is_allowed.ensures.1 (subst (λ (g : Head). IsAllowed g) (sym one) is.allowed) in
    let none = c.if-not-branch.true in
    cc

pub has_text-requires-clause-bounded : goal.has_text-requires-clause-bounded
has_text-requires-clause-bounded c = subst (λ o. IfSome o IsBounded) c.in-Some-2.is c.in_ok-head.ensures.bounded

pub returns : goal.returns
returns c = λ h is same.
    let line = c.args.line.now in
    let seen : tree_of line (length line) ≡ Ok (view c.in-Some.tree) =
    subst (λ o. MatchOption o ((tree : Shape) → tree_of line (length line) ≢ Ok tree) (λ tree. tree_of line (length line) ≡ Ok (view tree))) c.in-Some.is c.in_ok-tree.ensures in
    let one = one_told line (view c.in-Some.tree) c.in_ok-head.field-0 c.in-Some-2.head h seen c.in_ok-head.ensures.head c.in-Some-2.is is same in
    let yes = c.in_ok-has_text.ensures.text.1 (same ∙ ap (λ (g : Head). text_of (head_shape g)) (sym one)) in
    let none = c.if-branch.false in
    cc
