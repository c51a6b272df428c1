use Rattle.std.proofs.Common.{◌≡◌, ◌<◌, List, ℕ, true, Some, Vec, length, get_or, option_map, not, refl, sym, ap, ◌∙◌, subst, arith, rules}
use Rattle.std.specs.Option.{option_or}
use Rattle.std.specs.declared.alloc.Global.{Global}
use Rattle.std.proofs.lemmas.List.{get_or_read}
use Rattle.page_tally.specs.Folding.{is_above_last}
use Rattle.note_tallies.specs.Tally.{IsLineOn}
use Rattle.note_tallies.specs.Last.{last_line}
use Rattle.note_tallies.specs.Lines.{Tallied, has_room, is_alike}
use Rattle.note_tallies.proofs.Kept.{counted_is, none_first, room_is, some_first}
use Rattle.note_tallies.proofs.tally.LineTally.count.Goals as goal
use Rattle.note_tallies.proofs.tally.LineTally.count.Goals.{then-is_none+in_ok-to_vec+in-Some-1, then-is_none+in_ok-to_vec+in-None-1, else-is_none}

pub invariant_of-self-2 : goal.invariant_of-self-2
invariant_of-self-2 c =
    let a = c.self.inside in
    let x = c.if-is_none.self-inside in
    let line = c.args.line.now in
    let at = c.args.at in
    let items : Vec ℕ Global → List ℕ = λ v. v.items in
    let v : Tallied = record { page = a.page; total = a.total; before = option_map items a.before; first = option_map items a.first; last = last_line a.last (option_map items a.before); inputs = a.inputs; counts = a.counts.items } in
    let above : is_above_last v.before line ≡ true = subst (λ (t : Tallied). is_above_last t.before line ≡ true) (sym c.self.view_is) c.requires.above in
    let alike : is_alike v.before line ≡ true = subst (λ (t : Tallied). is_alike t.before line ≡ true) (sym c.self.view_is) c.requires.alike in
    let on : IsLineOn v.page line = subst (λ (t : Tallied). IsLineOn t.page line) (sym c.self.view_is) c.requires.line in
    let below : at < v.total = subst (λ (t : Tallied). at < t.total) (sym c.self.view_is) c.requires.below in
    let inside : at < length v.counts = omega (arith, below, c.self.invariant.lawful.whole) in
    let read : c.index.result.now ≡ get_or v.counts at 0 = get_or_read v.counts at c.index.result.now inside c.index.ensures 0 in
    let room : has_room v at ≡ true = room_is v at (omega (arith, c.if-self-ge-MOST_IN_ALL.false)) (omega (arith, read, c.if-index-ge-MOST_AT_POINT.false)) in
    let parts : (x.page ≡ v.page) × (x.total ≡ v.total) × (option_map items x.first ≡ option_or v.first (Some line)) × (x.inputs ≡ v.inputs) × (x.counts.items ≡ v.counts) =
    elim c.if-is_none.branch [
      | then-is_none+in_ok-to_vec+in-Some-1 w ↦ (let own : w.in_ok-to_vec.field-0.items ≡ line = search rules in rw w.self-inside-is (refl, refl, none_first items a.first line w.in_ok-to_vec.field-0.items (c.is_none.ensures ∙ ap not w.if-is_none.true) own, refl, refl))
      | then-is_none+in_ok-to_vec+in-None-1 w ↦ (let own : w.in_ok-to_vec.field-0.items ≡ line = search rules in rw w.self-inside-is (refl, refl, none_first items a.first line w.in_ok-to_vec.field-0.items (c.is_none.ensures ∙ ap not w.if-is_none.true) own, refl, refl))
      | else-is_none w ↦ rw w.self-inside-is (refl, refl, some_first items a.first line (c.is_none.ensures ∙ ap not w.if-is_none.false), refl, refl)
    ] in
    let still : at < length x.counts.items = omega (arith, inside, ap length parts.4) in
    let had : c.index_mut.result.now ≡ get_or v.counts at 0 = get_or_read x.counts.items at c.index_mut.result.now still c.index_mut.ensures.value 0 ∙ ap (λ (xs : List ℕ). get_or xs at 0) parts.4 in
    let next : c.in_ok-next.next.items ≡ line = search rules in
    let dest : c.replace-before.new.dest ≡ Some c.in_ok-next.next = search rules in
    let before : option_map items c.replace-before.new.dest ≡ Some line = ap (option_map items) dest ∙ ap (λ (l : List ℕ). Some l) next in
    counted_is v line at x.page x.total (option_map items c.replace-before.new.dest) (option_map items c.replace-before.new.dest) (option_map items x.first) x.inputs x.counts.items at c.index_mut.result.now c.self.invariant above alike on below room
    parts.0 parts.1 before parts.2 before parts.3 parts.4 refl had
