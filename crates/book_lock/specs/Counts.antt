-- How many calls a seat made.
use Rattle.std.specs.Prelude.{ℕ, List, [], ◌∷◌, ◌+◌}
use Rattle.book_core.specs.Calls.{Call, is_new}
use Rattle.book_lock.specs.Seen.{calls_by, one_if}
use Rattle.book_lock.specs.declared.call.Sight.{Sight}

-- how many of the calls were New
abbrev pub news_of : List Call → ℕ
news_of [] = 0
news_of (c ∷ cs) = one_if (is_new c.reply) + news_of cs

-- the seat's own calls, in their order
abbrev pub own : Sight → List Call
own x = calls_by x.number x.seen
