use Rattle.std.proofs.Common.{ℕ, List, [], refl, subst, sym}
use Rattle.flag_defs.specs.Flags.{flags_view}
use Rattle.rule_switches.specs.Found.{pages_view}
use Rattle.picture.specs.Spelling.{IsBody}
use Rattle.picture.proofs.Bodies.{none_yet}
use Rattle.flagops_compare.specs.Drawn.{compared_drawn, or_no_page}
use Rattle.flagops_compare.proofs.drawing.drawn.Goals as goal

pub returns : goal.returns
returns c =
    let ps = compared_drawn (flags_view c.args.edit.old.now) (flags_view c.args.edit.new.now) (pages_view c.args.pages.now) in
    let empty = subst (λ (bytes : List ℕ). IsBody [] bytes) (sym c.new-pictures.ensures.bytes) none_yet in
    let compared = c.in_ok-end.ensures [] empty refl in
    let all = c.in_ok-height.ensures ps compared.0 compared.1 in
    c.in_ok-text.ensures (or_no_page ps) (rw c.as_str.ensures.value all.0) all.1
