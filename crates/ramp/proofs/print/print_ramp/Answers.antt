use Rattle.std.proofs.Common.{◌≡◌, ◌≤◌, ◌+◌, suc, ◌∷◌, ◌++◌, length, drop, drop-cons, add-one, map, append-nil, append_assoc, rules, sym, ap, ◌∙◌, subst, arith}
use Rattle.std.specs.List.{slice_split}
use Rattle.std.proofs.lemmas.List.{drop_all, get_or_default}
use Rattle.std.proofs.lemmas.List.Elements.{AllWithin-more, AllWithin-upto}
use Rattle.book_core.specs.Reading.{is_feed}
use Rattle.plan_text.specs.Answer.{IsOrdered, planned_view}
use Rattle.plan_text.specs.PlanFile.{max_plan}
use Rattle.plan_text.specs.declared.planned.Planned.{Planned}
use Rattle.ramp.specs.Lines.{ReadsAgain, lines_from, read_parts, step_line}
use Rattle.ramp.proofs.Again.{again, file_again}
use Rattle.ramp.proofs.Parts.{small}
use Rattle.ramp.proofs.print.print_ramp.Goals as goal

-- the plan file of an answer of the program reads as the answer, where that is in order
abbrev Again : Planned → Type 0
Again p = IsOrdered (planned_view p) → ReadsAgain (planned_view p)

pub loop-i-preserved : goal.loop-i-preserved
loop-i-preserved c =
    let answers = c.args.answers.now in
    let i = c.loop-i.i in
    let x = c.index-answers-i.result in
    let text = c.loop-i.text.items in
    let line = step_line (i + 1) (planned_view x) in
    let left = map planned_view (drop (i + 1) answers) in
    let split : drop i answers ≡ x ∷ drop (i + 1) answers = rw add-one (drop-cons answers i x (omega arith) ∙ ap (λ y. y ∷ drop (suc i) answers) (sym c.index-answers-i.is)) in
    let next : suc (i + 1) ≡ i + 1 + 1 = omega arith in
    let is : c.as_slice.result.now ≡ line = c.as_slice.ensures.value ∙ c.in_ok-line.ensures.line in
    let joined : c.extend_from_slice.new.self.items ≡ text ++ c.as_slice.result.now = c.in_ok-extend_from_slice.ensures.items in
    record {
      lines = c.loop-i.invariant.lines
          ∙ ap (λ ps. text ++ lines_from (i + 1) (map planned_view ps)) split
          ∙ ap (λ k. text ++ (line ++ lines_from k left)) next
          ∙ sym (append_assoc text line (lines_from (i + 1 + 1) left))
          ∙ ap (λ l. (text ++ l) ++ lines_from (i + 1 + 1) left) (sym is)
          ∙ ap (λ b. b ++ lines_from (i + 1 + 1) left) (sym joined);
      fits = search rules;
      again = AllWithin-more Again answers 0 i c.loop-i.invariant.again (λ d. subst Again (c.index-answers-i.is ∙ get_or_default answers i x d (omega arith)) c.in_ok-line.ensures.reads_back);
    }

pub returns-clause-reads_back : goal.returns-clause-reads_back
returns-clause-reads_back c = λ ordered.
    let answers = c.args.answers.now in
    let text = c.loop-i.text.items in
    let i = c.loop-i.i in
    let is : lines_from 1 (map planned_view answers) ≡ text =
    c.loop-i.invariant.lines ∙ ap (λ ps. text ++ lines_from (i + 1) (map planned_view ps)) (drop_all i answers (omega arith)) ∙ append-nil text in
    let each = AllWithin-upto (λ (p : Planned). IsOrdered (planned_view p) → ReadsAgain (planned_view p)) answers 0 i (length answers) (omega arith) c.loop-i.invariant.again in
    let whole = again answers c.requires.whole each ordered in
    small text c.loop-i.invariant.fits ∙ ap (λ b. read_parts 1 (slice_split is_feed b)) (sym is) ∙ file_again (map planned_view answers) whole (subst (λ b. length b ≤ max_plan) (sym is) c.loop-i.invariant.fits)
