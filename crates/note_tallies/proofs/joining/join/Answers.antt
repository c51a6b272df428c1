use Rattle.std.proofs.Common.{◌≡◌, ◌≤◌, ◌+◌, ℕ, List, get_or, true, Vec, option_map, sym, ap, ◌∙◌, subst, arith}
use Rattle.std.specs.declared.alloc.Global.{Global}
use Rattle.note_tallies.specs.Join.{are_alike, IsSum}
use Rattle.note_tallies.specs.Tally.{PageTally, most_at_point}
use Rattle.note_tallies.proofs.JoinEnds.{joined_is, option_map-or}
use Rattle.note_tallies.proofs.joining.join.Goals as goal

pub invariant_of-both : goal.invariant_of-both
invariant_of-both c =
    let a = c.one.inside in
    let b = c.other.inside in
    let items : Vec ℕ Global → List ℕ = λ v. v.items in
    let one : PageTally = record { page = a.page; total = a.total; first = option_map items a.first; last = option_map items a.last; inputs = a.inputs; counts = a.counts.items } in
    let other : PageTally = record { page = b.page; total = b.total; first = option_map items b.first; last = option_map items b.last; inputs = b.inputs; counts = b.counts.items } in
    let alike : are_alike one other ≡ true = subst (λ (t : PageTally). are_alike t other ≡ true) (sym c.one.view_is) (subst (λ (t : PageTally). are_alike c.args.one t ≡ true) (sym c.other.view_is) (sym c.if-not-are_alike.ensures)) in
    let sums = subst (λ (xs : List ℕ). IsSum a.counts.items xs c.add_counts.new.counts.items) c.as_slice.ensures.value c.if-not-add_counts.ensures.sum in
    let small = subst (λ (xs : List ℕ). (p : ℕ) → get_or a.counts.items p 0 + get_or xs p 0 ≤ most_at_point) c.as_slice.ensures.value c.if-not-add_counts.ensures.small in
    joined_is one other (option_map items c.or.result) (option_map items c.or-2.result) c.add_counts.new.counts.items c.one.invariant c.other.invariant alike (sym c.if-not-follows.ensures)
    (ap (option_map items) c.or.ensures ∙ option_map-or items a.first b.first) (ap (option_map items) c.or-2.ensures ∙ option_map-or items b.last a.last) sums small (omega arith)
