use Rattle.std.proofs.Common.{◌≡◌, suc, ◌+◌, ◌-◌, ◌<◌, [], ◌∷◌, ◌++◌, length, length-append, map, drop, subst, sym, ap, ◌∙◌, arith, rules}
use Rattle.std.specs.Option.{option_to_list}
use Rattle.std.specs.VecDeque.{deque_items}
use Rattle.flag_defs.specs.Flags.{flags_view}
use Rattle.book_share.specs.Driven.{AreInTurn}
use Rattle.book_share.proofs.Turns.{front_some, line_turns}
use Rattle.book_share.proofs.order.in_order.Goals as goal

pub unwrap-answer-requires : goal.unwrap-answer-requires
unwrap-answer-requires c =
    let flags = flags_view c.args.flags.now in
    let asks = c.args.asks.now in
    let n = length c.args.answers.items in
    let last : n ≡ suc (n - 1) = (let some = c.requires.some in omega (arith, some)) in
    let line = c.loop-turn.line.items in
    let mid = c.pop_front.new.self.items in
    let turns : AreInTurn flags (n - 1) 0 (suc (n - 1)) (drop c.loop-turn._turn asks) (map deque_items line) = subst (λ k. AreInTurn flags (n - 1) 0 k (drop c.loop-turn._turn asks) (map deque_items line)) last c.loop-turn.invariant.1 in
    let is : line ≡ c.unwrap-worker.result ∷ mid = c.pop_front.ensures.items ∙ ap (λ o. option_to_list o ++ mid) c.unwrap-worker.ensures in
    let some : 0 < length (deque_items c.unwrap-worker.result) = front_some deque_items flags (n - 1) c.loop-turn._turn asks c.loop-turn-test.true line mid c.unwrap-worker.result is turns in
    c.pop_front-in-loop-turn.ensures.variant.1 (search (rules, some))

pub loop-turn-preserved : goal.loop-turn-preserved
loop-turn-preserved c =
    let flags = flags_view c.args.flags.now in
    let asks = c.args.asks.now in
    let n = length c.args.answers.items in
    let last : n ≡ suc (n - 1) = (let some = c.requires.some in omega (arith, some)) in
    let line = c.loop-turn.line.items in
    let mid = c.pop_front.new.self.items in
    let later = c.pop_front-in-loop-turn.new.self in
    let new = c.push_back.new.self.items in
    let turns : AreInTurn flags (n - 1) 0 (suc (n - 1)) (drop c.loop-turn._turn asks) (map deque_items line) = subst (λ k. AreInTurn flags (n - 1) 0 k (drop c.loop-turn._turn asks) (map deque_items line)) last c.loop-turn.invariant.1 in
    let is : line ≡ c.unwrap-worker.result ∷ mid = c.pop_front.ensures.items ∙ ap (λ o. option_to_list o ++ mid) c.unwrap-worker.ensures in
    let gave : deque_items c.unwrap-worker.result ≡ c.unwrap-answer.result ∷ deque_items later = c.pop_front-in-loop-turn.ensures.items ∙ ap (λ o. option_to_list o ++ deque_items later) c.unwrap-answer.ensures in
    let is_new : new ≡ mid ++ later ∷ [] = c.in_ok-push_back.ensures.items in
    let both = line_turns deque_items flags (n - 1) c.loop-turn._turn asks c.loop-turn-test.true line mid new c.unwrap-worker.result later c.unwrap-answer.result c.loop-turn.resolutions.items c.push.new.self.items is gave is_new c.in_ok-push.ensures.items turns c.loop-turn.invariant.2 in
    let first : length line ≡ suc (length mid) = ap length is in
    let again : length new ≡ length mid + 1 = ap length is_new ∙ length-append mid (later ∷ []) in (
      (let before = c.loop-turn.invariant.0 in omega (arith, before, first, again)),
      subst (λ k. AreInTurn flags (n - 1) 0 k (drop (c.loop-turn._turn + 1) asks) (map deque_items new)) (sym last) both.0,
      both.1,
    )
