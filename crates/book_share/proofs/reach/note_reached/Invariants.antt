use Rattle.std.proofs.Common.{◌+◌, ◌≤◌, length, map, take}
use Rattle.flag_defs.specs.Flags.{flags_view}
use Rattle.logic_eval.specs.Views.{reach_view}
use Rattle.book_lock.specs.Counts.{own}
use Rattle.site_pages.specs.Keyed.{targeting_of}
use Rattle.book_share.specs.Asked.{mentions_in}
use Rattle.book_share.specs.Driven.{Notes}
use Rattle.book_share.proofs.reach.note_reached.Given as goal

abbrev pub invariant-loop-reach : goal.invariant-loop-reach
invariant-loop-reach g l =
    Notes (mentions_in l.sites.key.now (targeting_of (flags_view l.sites.flags.now) l.sites.key.now) (map reach_view (take l.reach-index l.reached))) l.initial.seat l.initial.refused l.seat l.refused
    × (length (own l.seat) + l.refused ≤ length (own l.initial.seat) + l.initial.refused + l.reach-index)
