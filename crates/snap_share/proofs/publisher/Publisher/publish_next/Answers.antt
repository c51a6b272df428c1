use Rattle.std.proofs.Common.{◌≡◌, ◌+◌, ◌++◌, ◌∷◌, ◌∙◌, [], List, ap, arith, length, rules, subst, sym}
use Rattle.std.specs.Arc.{arc_value}
use Rattle.flag_defs.specs.declared.flags.Flags.{Flags}
use Rattle.snap_core.specs.declared.snapshot.Snapshot.{Snapshot}
use Rattle.snap_share.specs.Known.{IsSnapshotOf}
use Rattle.snap_share.proofs.Numbers.{snapshot_of_snoc}
use Rattle.snap_share.proofs.publisher.Publisher.publish_next.Goals as goal

-- the flags were put behind all that were published, and have the next number
pub of-requires : goal.of-requires
of-requires g c =
    let s = arc_value c.in_ok-first.first in
    let before = c.again-front.result in
    let made = ap (λ (x : Snapshot). x.number) (c.in_ok-first.ensures.ok ∙ c.in_ok-framed.ensures) in
    let number : s.number ≡ length before + 1 = omega (arith, made, c.len-number.ensures, ap length (c.again-front.ensures ∙ c.front-2.ensures ∙ sym c.front.ensures)) in
    let added : c.again.result ≡ before ++ s.flags ∷ [] = search rules in
    subst (λ (l : List Flags). IsSnapshotOf l s) (sym added) (snapshot_of_snoc before s number)
