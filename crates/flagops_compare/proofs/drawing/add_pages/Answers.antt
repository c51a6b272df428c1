use Rattle.std.proofs.Common.{◌+◌, List, drop, string_bytes, subst, sym}
use Rattle.flag_defs.specs.Flags.{flags_view}
use Rattle.rule_switches.specs.Found.{PageFound, page_view, pages_view}
use Rattle.picture.specs.Spelling.{Continues}
use Rattle.picture.proofs.Bodies.{continues_both, continues_none}
use Rattle.flagops_compare.specs.Drawn.{compared_drawn, drawn_on}
use Rattle.flagops_compare.proofs.Drawings.{ended, front}
use Rattle.flagops_compare.proofs.drawing.add_pages.Goals as goal

pub loop-page-preserved : goal.loop-page-preserved
loop-page-preserved c = λ end after rest.
    let l = c.loop-page in
    let old = flags_view c.args.edit.old.now in
    let new = flags_view c.args.edit.new.now in
    let pages = c.args.pages.now in
    let item = c.page-item.result in
    let more = compared_drawn old new (pages_view (drop (l.page-index + 1) pages)) in
    let both = continues_both (drawn_on old new (page_view item)) more l.y c.in_ok-y.y end (string_bytes l.pictures) (string_bytes c.add_page.new.pictures) after c.in_ok-y.ensures rest in
    l.invariant end after (subst (λ (ps : List PageFound). Continues (compared_drawn old new ps) l.y end (string_bytes l.pictures) after) (sym (front page_view pages l.page-index item c.loop-page-test.true c.page-item.is)) both)

pub returns : goal.returns
returns c =
    let l = c.loop-page in
    let old = flags_view c.args.edit.old.now in
    let new = flags_view c.args.edit.new.now in
    let bytes = string_bytes l.pictures in
    l.invariant l.y bytes (subst (λ (ps : List PageFound). Continues (compared_drawn old new ps) l.y l.y bytes bytes) (sym (ended page_view c.args.pages.now l.page-index c.loop-page-test.false)) (continues_none l.y bytes))
