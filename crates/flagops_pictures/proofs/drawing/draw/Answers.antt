use Rattle.std.proofs.Common.{Ok, refl, string_bytes, subst, sym}
use Rattle.std.specs.Prelude.{IfOk}
use Rattle.bucket_core.specs.Rule.{names_view}
use Rattle.picture.specs.Deficits.{none_height, none_told}
use Rattle.plan_text.specs.Answer.{planned_view}
use Rattle.plan_text.specs.declared.planned.Planned.{Planned}
use Rattle.rollout.specs.CheckedTally.{tally_view}
use Rattle.flagops_pictures.specs.Pictured.{AddsTold}
use Rattle.flagops_pictures.proofs.Drawings.{if_both}
use Rattle.flagops_pictures.proofs.drawing.draw.Goals as goal

pub returns-in-NoneExists : goal.returns-in-NoneExists
returns-in-NoneExists c =
    let p = c.args.problem.now in
    let cut = c.in-NoneExists.cut in
    let names = names_view cut.names.items in
    subst (λ (it : Planned). IfOk c.draw_none.result (λ end. AddsTold (Ok (tally_view p)) (planned_view it) c.args.y end (string_bytes c.args.pictures.now) (string_bytes c.draw_none.new.pictures))) (sym c.in-NoneExists.is)
    (if_both c.draw_none.result c.draw_none.ensures.adds c.draw_none.ensures.below (λ end adds ends. ((none_height p.totals names, none_told p.old p.totals cut.kind names), (refl, refl), adds, ends)))
