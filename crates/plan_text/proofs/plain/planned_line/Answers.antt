-- With its line end the text reads as before.
use Rattle.std.proofs.Common.{◌≡◌, ◌<◌, ◌++◌, [], ◌∷◌, List, ℕ, Ok, length, ap, sym, ◌∙◌, subst, length-append, arith}
use Rattle.flag_text.specs.Printing.{text_of}
use Rattle.flag_text.specs.Reading.{tree_of}
use Rattle.plan_text.specs.Answer.{planned_view}
use Rattle.plan_text.specs.PlanFile.{max_plan, planned_written}
use Rattle.plan_text.proofs.LineEnds.{line_again}
use Rattle.plan_text.proofs.plain.planned_line.Goals as goal

pub returns-clause-reads_back : goal.returns-clause-reads_back
returns-clause-reads_back c = λ small.
    let t = planned_written (planned_view c.args.planned.now) in
    let text = c.in_ok-text.text.items in
    let is : text ≡ text_of t = c.in_ok-text.ensures.text in
    let room : length text < max_plan = omega (arith, ap length c.in_ok-push.ensures.items, length-append text (10 ∷ []), small) in
    let alone : tree_of (text_of t) max_plan ≡ Ok t = ap (λ b. tree_of b max_plan) (sym is) ∙ c.in_ok-text.ensures.reads_back (omega (arith, room)) in
    ap (λ b. tree_of b max_plan) (c.in_ok-push.ensures.items ∙ ap (λ (b : List ℕ). b ++ 10 ∷ []) is) ∙ line_again t t max_plan c.requires.whole (subst (λ (b : List ℕ). length b < max_plan) is room) alone
