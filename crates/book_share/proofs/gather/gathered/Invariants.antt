use Rattle.std.specs.Prelude.{◌≡◌, ℕ, ◌+◌, ◌*◌, ◌<◌, ◌≤◌, List, IfOk, IfSome, length, map, slice_get}
use Rattle.std.specs.VecDeque.{deque_items}
use Rattle.flag_defs.specs.Document.{Definitions}
use Rattle.book_share.specs.Asked.{asks_of}
use Rattle.book_share.specs.Driven.{AreWorks, IsWork}
use Rattle.book_share.specs.Gated.{EachPart, EachTurn}
use Rattle.book_share.specs.declared.ask.Ask.{Ask}
use Rattle.book_share.proofs.Telling.{EachLater}
use Rattle.book_share.proofs.gather.gathered.Given as goal

abbrev pub invariant-loop-part : goal.invariant-loop-part
invariant-loop-part g l =
    ((flags : Definitions) (asks : List Ask) (workers : ℕ) → ((w : ℕ) → IfSome (slice_get l.fn.parts.items w) (λ r. IfOk r (λ p. IsWork flags (asks_of workers w asks) p.seat p.answers.items p.refused)))
    → ((w : ℕ) → IfSome (slice_get l.part-iterator.rest.items w) (λ r. IfOk r (λ p. IsWork flags (asks_of workers (length l.seats.items + w) asks) p.seat p.answers.items p.refused)))
    × AreWorks flags workers asks l.seats.items (map deque_items l.answers.items) l.refused)
    × (length l.seats.items + length l.part-iterator.rest.items ≡ length l.fn.parts.items)
    × (l.refused ≤ length l.seats.items * 18446744073709551615)
    × (EachPart (λ n. g.G.Gate.started l.fn.round.gate.now n × g.G.Gate.told l.fn.round.gate.now n) l.fn.round.step (length l.fn.round.asks.now) l.fn.parts.items
    → EachLater (λ n. g.G.Gate.started l.fn.round.gate.now n × g.G.Gate.told l.fn.round.gate.now n) l.fn.round.step (length l.fn.round.asks.now) (length l.seats.items) l.part-iterator.rest.items
    × ((w : ℕ) → w < length l.seats.items → EachTurn (λ n. g.G.Gate.started l.fn.round.gate.now n × g.G.Gate.told l.fn.round.gate.now n) l.fn.round.step w (length l.fn.round.asks.now)))
