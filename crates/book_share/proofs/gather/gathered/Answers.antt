use Rattle.std.proofs.Common.{◌≡◌, ℕ, zero, suc, ◌+◌, List, [], ◌∷◌, length, length-append, map, subst, sym, ap, ◌∙◌, arith, rules}
use Rattle.std.specs.Prelude.{IfOk, IfSome, Result, slice_get}
use Rattle.std.specs.VecDeque.{deque_items}
use Rattle.std.proofs.lemmas.List.{map-append}
use Rattle.book_share.specs.Asked.{asks_of}
use Rattle.book_share.specs.Driven.{IsWork}
use Rattle.book_share.specs.declared.drive_fault.DriveFault.{DriveFault}
use Rattle.book_share.specs.declared.worker.Part.{Part}
use Rattle.book_share.proofs.Reaching.{of_ok}
use Rattle.book_share.specs.Gated.{EachTurn}
use Rattle.book_share.proofs.Telling.{done_more, later_more, later_none}
use Rattle.book_share.proofs.Turns.{works_none, works_more}
use Rattle.book_share.proofs.gather.gathered.Goals as goal

pub loop-part-init : goal.loop-part-init
loop-part-init g c =
    let gives = c.into_iter-part-iterator.ensures.into_iter_gives.0 in
    let none = c.in_ok-seats.ensures.items in (
      (λ flags asks workers all. (
        (λ w.
            let P = λ (n : ℕ) (r : Result (Part g.row.L.Denot) DriveFault). IfOk r (λ (p : Part g.row.L.Denot). IsWork flags (asks_of workers n asks) p.seat p.answers.items p.refused) in
            let same : length c.in_ok-seats.seats.items + w ≡ w = (let e = ap length none in omega (arith, e)) in
            subst (λ n. IfSome (slice_get c.into_iter-part-iterator.result.rest.items w) (P n)) (sym same) (subst (λ (l : List (Result (Part g.row.L.Denot) DriveFault)). IfSome (slice_get l w) (P w)) (sym gives) (all w))),
        works_none flags workers asks c.in_ok-seats.seats.items (map deque_items c.in_ok-answers.answers.items) none (ap (map deque_items) c.in_ok-answers.ensures.items),
      )),
      (let a = ap length none in let b = ap length gives in omega (arith, a, b)),
      omega arith,
      (λ all. (
        later_none (λ w (r : Result (Part g.row.L.Denot) DriveFault). IfOk r (λ _. EachTurn (λ n. g.G.Gate.started c.args.round.now.gate.now n × g.G.Gate.told c.args.round.now.gate.now n) c.args.round.now.step w (length c.args.round.now.asks.now)))
            (length c.in_ok-seats.seats.items) c.args.parts.items c.into_iter-part-iterator.result.rest.items (ap length none) gives all,
        (λ w lt. absurd (let a = ap length none in omega (arith, a, lt))),
      )),
    )

pub loop-part-preserved : goal.loop-part-preserved
loop-part-preserved g c =
    let steps = c.in-Some.ensures.steps.0 in
    let pushed = c.in_ok-push.ensures.items in
    let seats = c.loop-part.seats.items in
    let later = c.next.new.self.rest.items in
    let longer : length c.push.new.self.items ≡ suc (length seats) = (let a = ap length pushed ∙ length-append seats _ in omega (arith, a)) in (
      (λ flags asks workers all.
          let P = λ (n : ℕ) (r : Result (Part g.row.L.Denot) DriveFault). IfOk r (λ (p : Part g.row.L.Denot). IsWork flags (asks_of workers n asks) p.seat p.answers.items p.refused) in
          let i = c.loop-part.invariant.0 flags asks workers all in
          let rest : (w : ℕ) → IfSome (slice_get (c.in-Some.part ∷ later) w) (P (length seats + w)) = λ w. subst (λ (l : List (Result (Part g.row.L.Denot) DriveFault)). IfSome (slice_get l w) (P (length seats + w))) steps (i.0 w) in
          let here : P (length seats) c.in-Some.part = subst (λ n. P n c.in-Some.part) (let e : length seats + 0 ≡ length seats = omega arith in e) (rest zero) in
          let one = of_ok (λ (p : Part g.row.L.Denot). IsWork flags (asks_of workers (length seats) asks) p.seat p.answers.items p.refused) c.in-Some.part c.in_ok-seat.field-0 c.in_ok-seat.was here in (
            (λ w. subst (λ n. IfSome (slice_get later w) (P n)) (let e : length seats + suc w ≡ length c.push.new.self.items + w = omega (arith, longer) in e) (rest (suc w))),
            works_more flags workers asks seats c.push.new.self.items c.in_ok-seat.field-0.seat (map deque_items c.loop-part.answers.items) (map deque_items c.push_back.new.self.items) (deque_items c.in_ok-seat.field-0.answers) c.loop-part.refused c.in_ok-seat.field-0.refused (c.loop-part.refused + c.from-refused.result)
                pushed (ap (map deque_items) c.in_ok-push_back.ensures.items ∙ map-append deque_items c.loop-part.answers.items (c.in_ok-seat.field-0.answers ∷ [])) (omega (arith, c.from-refused.ensures)) i.1 one,
          )),
      (let b = ap length steps in let d = c.loop-part.invariant.1 in omega (arith, longer, b, d)),
      (let i = c.loop-part.invariant.2 in grind (arith, longer, i)),
      (λ all.
          let T = λ (w : ℕ). EachTurn (λ n. g.G.Gate.started c.args.round.now.gate.now n × g.G.Gate.told c.args.round.now.gate.now n) c.args.round.now.step w (length c.args.round.now.asks.now) in
          let i = c.loop-part.invariant.3 all in
          let both = later_more (λ w (r : Result (Part g.row.L.Denot) DriveFault). IfOk r (λ _. T w)) (length seats) (length c.push.new.self.items) c.in-Some.part c.loop-part.part-iterator.rest.items later steps longer i.0 in (
            both.0,
            done_more T (length seats) (length c.push.new.self.items) longer i.1 (of_ok (λ (_ : Part g.row.L.Denot). T (length seats)) c.in-Some.part c.in_ok-seat.field-0 c.in_ok-seat.was both.1),
          )),
    )

pub returns-clause-gated : goal.returns-clause-gated
returns-clause-gated g c = λ all w within. (c.loop-part.invariant.3 all).1 w (search (rules, within))

pub returns-clause-work : goal.returns-clause-work
returns-clause-work g c = λ flags asks workers all. (c.loop-part.invariant.0 flags asks workers all).1
