use Rattle.std.proofs.Common.{List, subst, sym}
use Rattle.flag_defs.specs.Flags.{flags_view}
use Rattle.book_core.specs.Page.{PageName}
use Rattle.book_share.specs.Known.{AreSitePages}
use Rattle.book_share.proofs.Made.{known_at, no_pages}
use Rattle.book_share.proofs.known.pages_at.Goals as goal

pub returns-in-Some : goal.returns-in-Some
returns-in-Some c =
    subst (λ (pages : List PageName). AreSitePages (flags_view c.args.flags.now) c.args.key.now pages) (sym c.as_slice.ensures.value)
    (known_at (flags_view c.args.flags.now) c.args.key.now c.args.known.now.entries c.get.result c.in-Some.pages c.requires c.get.ensures.value c.in-Some.is)

pub returns-in-None : goal.returns-in-None
returns-in-None c = no_pages (flags_view c.args.flags.now) c.args.key.now
