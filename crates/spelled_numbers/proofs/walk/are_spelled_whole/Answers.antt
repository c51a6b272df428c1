use Rattle.std.proofs.Common.{rules, ◌≡◌, ◌∷◌, true, false, sym, ◌∙◌}
use Rattle.spelled_numbers.specs.SentView.{goes_on}
use Rattle.spelled_numbers.proofs.Whole.{begins_at, goes_on_at}
use Rattle.spelled_numbers.proofs.walk.are_spelled_whole.Goals as goal
use Rattle.spelled_numbers.proofs.walk.are_spelled_whole.Goals.{then-not-goes_on+else-not-ends_well, else-not-goes_on}

pub loop-byte-preserved : goal.loop-byte-preserved
loop-byte-preserved c =
    let is : c.loop-byte.rest.now ≡ c.in-Some.byte.now ∷ c.in-Some.others.now = search rules in
    elim c.if-not-goes_on.branch [
      | then-not-goes_on+else-not-ends_well w ↦
          let off : goes_on c.loop-byte.place c.in-Some.byte.now ≡ false = sym c.goes_on.ensures ∙ w.if-not-goes_on.true in
          rw (w.len-is, w.number-is)
          (begins_at c.loop-byte.place c.next_place-place.result c.loop-byte.number.now c.loop-byte.rest.now c.in-Some.others.now c.args.text.now c.loop-byte.len c.in-Some.byte.now is (c.next_place-place.ensures.anew off) (sym w.ends_well.ensures ∙ w.if-not-ends_well.false) c.loop-byte.invariant)
      | else-not-goes_on w ↦
          let on : goes_on c.loop-byte.place c.in-Some.byte.now ≡ true = sym c.goes_on.ensures ∙ w.if-not-goes_on.false in
          rw (w.len-is, w.number-is, c.next_place-place.ensures.on on)
          (goes_on_at c.loop-byte.place c.loop-byte.number.now c.loop-byte.rest.now c.in-Some.others.now c.args.text.now c.loop-byte.len c.in-Some.byte.now on is c.loop-byte.invariant)
    ]
