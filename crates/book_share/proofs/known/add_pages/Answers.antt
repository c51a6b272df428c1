use Rattle.std.proofs.Common.{◌≡◌, List, Some, Bor, option_map, ap, sym, ◌∙◌, subst}
use Rattle.flag_defs.specs.Flags.{flags_view}
use Rattle.logic_ast.specs.Expr.{view}
use Rattle.logic_ast.specs.declared.expr.Expr.{Expr}
use Rattle.site_pages.specs.Keyed.{targeting_of}
use Rattle.book_share.specs.Known.{AreKnown, AreSitePages, Entry}
use Rattle.book_share.proofs.Made.{known_more, site_pages_of}
use Rattle.book_share.proofs.known.add_pages.Goals as goal

pub returns-in_ok-insert : goal.returns-in_ok-insert
returns-in_ok-insert c =
    let flags = flags_view c.args.flags.now in
    let key = c.args.key.now in
    let t = view c.in-Some.targeting.now in
    let is : targeting_of flags key ≡ Some t = sym c.targeting_of.ensures ∙ ap (option_map (λ (e : Bor Expr). view e.now)) c.in-Some.is in
    let pages = site_pages_of flags key t c.in_ok-pages.pages.items is c.in_ok-pages.ensures in
    subst (λ (es : List Entry). AreKnown flags es) (sym c.in_ok-insert.ensures.entries)
    (known_more flags c.args.known.now.entries c.in_ok-from_str.field-0 c.in_ok-pages.pages c.requires (subst (λ k. AreSitePages flags k c.in_ok-pages.pages.items) (sym c.in_ok-from_str.ensures.ok) pages))
