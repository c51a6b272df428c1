use Rattle.std.proofs.Common.{◌≡◌, ◌-◌, length, map, take, drop}
use Rattle.std.specs.VecDeque.{deque_items}
use Rattle.flag_defs.specs.Flags.{flags_view}
use Rattle.flag_resolve.specs.Views.{resolution_view}
use Rattle.book_share.specs.Asked.{resolved}
use Rattle.book_share.specs.Driven.{AreInTurn}
use Rattle.book_share.proofs.order.in_order.Given as goal

abbrev pub invariant-loop-turn : goal.invariant-loop-turn
invariant-loop-turn l =
    (length l.line.items ≡ length l.fn.answers.items)
    × AreInTurn (flags_view l.flags) (length l.fn.answers.items - 1) 0 (length l.fn.answers.items) (drop l._turn l.asks) (map deque_items l.line.items)
    × (map resolution_view l.resolutions.items ≡ map (resolved (flags_view l.flags)) (take l._turn l.asks))
