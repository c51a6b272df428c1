use Rattle.std.proofs.Common.{◌≡◌, ℕ, ◌<◌, ◌≤◌, [], length, get_or, Vec, Global, sym, ap, ◌∙◌, arith}
use Rattle.std.proofs.lemmas.List.{get_or-map, get_or_past, length-map}
use Rattle.logic_ast.specs.Ends.{ends_view}
use Rattle.logic_eval.proofs.scope.ends_at.Goals as goal

pub returns-in-Some : goal.returns-in-Some
returns-in-Some c =
    let xs = c.args.subject.ends.now in
    let within : c.args.site < length xs = grind arith in
    let at : c.in-Some.ends.now ≡ get_or xs c.args.site c.in-Some.ends.now = grind arith in
    c.as_slice.ensures.value ∙ (ap (λ (v : Vec ℕ Global). v.items) at ∙ sym (get_or-map (λ (v : Vec ℕ Global). v.items) xs c.args.site c.in-Some.ends.now [] within))

pub returns-in-None : goal.returns-in-None
returns-in-None c =
    let xs = c.args.subject.ends.now in
    let past : length xs ≤ c.args.site = grind arith in
    sym (get_or_past (ends_view xs) c.args.site [] (omega (arith, past, length-map xs (λ (v : Vec ℕ Global). v.items))))
