use Rattle.std.proofs.Common.{◌≡◌, ◌-◌, length, map, subst, sym, ap, ◌∙◌, arith}
use Rattle.std.specs.Prelude.{sum_by}
use Rattle.std.specs.VecDeque.{deque_items}
use Rattle.flag_defs.specs.Flags.{flags_view}
use Rattle.flag_resolve.specs.declared.resolution.Resolution.{Resolution}
use Rattle.logic_eval.specs.Views.{reach_view}
use Rattle.book_lock.specs.Told.{all_told}
use Rattle.book_share.specs.Asked.{long_inputs}
use Rattle.book_share.specs.Driven.{AreInTurn}
use Rattle.book_share.proofs.Telling.{told_all}
use Rattle.book_share.proofs.Turns.{line_count}
use Rattle.book_share.proofs.Whole.{noted_whole, long_whole}
use Rattle.book_share.proofs.driving.driven_by.Goals as goal

pub in_order-requires-clause-some : goal.in_order-requires-clause-some
in_order-requires-clause-some g c =
    let flags = flags_view c.args.flags.now in
    let works = c.in_ok-seats.ensures.work flags c.args.asks.now c.args.workers c.in_ok-parts.ensures.work in
    let count = line_count deque_items flags (c.args.workers - 1) (length c.in_ok-seats.field-0.seats.items) c.args.asks.now c.in_ok-seats.field-0.answers.items works.answers in
    let a = c.in_ok-seats.ensures.len in
    let b = c.in_ok-parts.ensures.len in
    let some = c.requires.workers.1 in
    omega (arith, count, a, b, some)

pub in_order-requires-clause-turns : goal.in_order-requires-clause-turns
in_order-requires-clause-turns g c =
    let flags = flags_view c.args.flags.now in
    let asks = c.args.asks.now in
    let line = c.in_ok-seats.field-0.answers.items in
    let works = c.in_ok-seats.ensures.work flags asks c.args.workers c.in_ok-parts.ensures.work in
    let count = line_count deque_items flags (c.args.workers - 1) (length c.in_ok-seats.field-0.seats.items) asks line works.answers in
    let seats : length c.in_ok-seats.field-0.seats.items ≡ c.args.workers = c.in_ok-seats.ensures.len ∙ c.in_ok-parts.ensures.len in
    subst (λ k. AreInTurn flags (k - 1) 0 k asks (map deque_items line)) (sym (count ∙ seats)) (subst (λ k. AreInTurn flags (c.args.workers - 1) 0 k asks (map deque_items line)) seats works.answers)

pub returns-clause-gated : goal.returns-clause-gated
returns-clause-gated g c =
    told_all (λ n. g.G.Gate.started c.args.gate.now n × g.G.Gate.told c.args.gate.now n) c.args.workers (length c.args.asks.now) c.requires.workers.1
    (λ w lt. c.in_ok-seats.ensures.gated c.in_ok-parts.ensures.gated w (let len = c.in_ok-parts.ensures.len in omega (arith, len, lt)))

pub returns-clause-answers : goal.returns-clause-answers
returns-clause-answers g c = c.in_ok-answers.ensures

pub returns-clause-noted : goal.returns-clause-noted
returns-clause-noted g c =
    let flags = flags_view c.args.flags.now in
    let asks = c.args.asks.now in
    let h = c.in_ok-seats.field-0 in
    let works = c.in_ok-seats.ensures.work flags asks c.args.workers c.in_ok-parts.ensures.work in
    let seats : length h.seats.items ≡ c.args.workers = c.in_ok-seats.ensures.len ∙ c.in_ok-parts.ensures.len in
    let calls : c.calls_of-calls.result ≡ length (all_told h.seats.items) = c.calls_of-calls.ensures ∙ ap (λ l. length (all_told l)) c.as_slice.ensures.value in
    noted_whole flags c.args.workers asks h.seats.items (map deque_items h.answers.items) h.refused _ c.in-Ok.book c.calls_of-calls.result c.inputs-news.result
    c.requires.workers.1 seats works c.in-Ok.ensures.sealed c.in-Ok.ensures.told calls c.inputs-news.ensures.count

pub returns-clause-long : goal.returns-clause-long
returns-clause-long g c =
    long_whole (flags_view c.args.flags.now) c.args.asks.now c.in_ok-answers.answers.items c.long_of-long.result (returns-clause-answers g c) (c.long_of-long.ensures ∙ ap (sum_by (λ (r : Resolution). long_inputs (map reach_view r.reached.items))) c.as_slice-2.ensures.value)
