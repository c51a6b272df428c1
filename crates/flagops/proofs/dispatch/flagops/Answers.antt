use Rattle.std.proofs.Common.{◌≡◌, ℕ, map, List}
use Rattle.flagops.specs.Comes.{Comes}
use Rattle.flagops.specs.First.{family_of}
use Rattle.flagops.proofs.Carried.{carried}
use Rattle.flagops.proofs.dispatch.flagops.Goals as goal

pub returns-in-Ok-clause-comes : goal.returns-in-Ok-clause-comes
returns-in-Ok-clause-comes g c =
    carried (λ (l : List g.row.S.Denot) (s : ℕ). Comes c.args.console.now c.status_of.new.console (g.F.FileSet.holding c.args.files.now) (g.F.FileSet.holding c.status_of.new.files)
    (g.F.FileSet.has_failed c.args.files.now) (g.F.FileSet.has_failed c.status_of.new.files) s (g.I.Inlet.bytes c.args.input.now) (g.I.Inlet.is_broken c.status_of.new.input) (family_of (map g.S.AsStr.text l)) (map g.S.AsStr.text l))
    (λ w. w.items) _ _ _ _ _ c.in-Ok.is c.as_slice.ensures.value c.from.ensures c.status_of.ensures
