use Rattle.std.proofs.Common.{arith, sym}
use Rattle.file_diagnostics.proofs.Separated.{next, within}
use Rattle.file_diagnostics.proofs.listing.first_names.Goals.{in-Some+in_ok-name+in_ok-write, in_default}
use Rattle.file_diagnostics.proofs.listing.first_names.Goals as goal

pub loop-place-preserved : goal.loop-place-preserved
loop-place-preserved g c = elim c.match-name_at.branch [
  | in-Some+in_ok-name+in_ok-write w ↦
      rw (w.text-is, w.in_ok-write.ensures.bytes, w.comma_before-comma.ensures, w.in_ok-name.ensures, c.loop-place.invariant) (sym (next _ _ _ (sym w.in-Some.ensures)))
  | in_default w ↦ absurd (within (g.L.NameList.names c.args.names.now) c.loop-place.place (omega (arith, c.loop-place-test.true, c.requires)) (sym w.in_default.ensures))
]
