use Rattle.std.proofs.Common.{◌≡◌, List, ℕ, true, Some, Vec, option_map, sym, ap, ◌∙◌, subst, rules}
use Rattle.std.specs.declared.alloc.Global.{Global}
use Rattle.page_tally.specs.Folding.{is_above_last}
use Rattle.note_tallies.specs.Last.{last_line}
use Rattle.note_tallies.specs.Lines.{Tallied, is_alike}
use Rattle.note_tallies.proofs.Kept.{passed_by}
use Rattle.note_tallies.proofs.tally.LineTally.pass.Goals as goal

pub invariant_of-self-2 : goal.invariant_of-self-2
invariant_of-self-2 c =
    let a = c.self.inside in
    let items : Vec ℕ Global → List ℕ = λ v. v.items in
    let v : Tallied = record { page = a.page; total = a.total; before = option_map items a.before; first = option_map items a.first; last = last_line a.last (option_map items a.before); inputs = a.inputs; counts = a.counts.items } in
    let above : is_above_last v.before c.args.line.now ≡ true = subst (λ (t : Tallied). is_above_last t.before c.args.line.now ≡ true) (sym c.self.view_is) c.requires.above in
    let alike : is_alike v.before c.args.line.now ≡ true = subst (λ (t : Tallied). is_alike t.before c.args.line.now ≡ true) (sym c.self.view_is) c.requires.alike in
    let own : c.in_ok-next.next.items ≡ c.args.line.now = search rules in
    let kept : last_line c.replace-last.result (option_map items c.replace-before.result) ≡ v.last = search rules in
    let dest : c.replace-before.new.dest ≡ Some c.in_ok-next.next = search rules in
    let before : option_map items c.replace-before.new.dest ≡ Some c.args.line.now = ap (option_map items) dest ∙ ap (λ (l : List ℕ). Some l) own in
    passed_by v c.args.line.now (option_map items c.replace-before.new.dest) _ c.self.invariant above alike before (c.passed.ensures (option_map items c.replace-before.new.dest) ∙ kept)
