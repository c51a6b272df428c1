use Rattle.std.proofs.Common.{arith, ap, length, refl, subst, List, [], ℕ, sym}
use Rattle.picture.specs.Spelling.{IsBody}
use Rattle.picture.proofs.Bodies.{none_yet}
use Rattle.flagops_pictures.proofs.ramps.sheet.Goals as goal

pub add_steps-requires-clause-few : goal.add_steps-requires-clause-few
add_steps-requires-clause-few g c = λ κs within. omega (arith, ap length c.as_slice.ensures.value, c.requires.right.few)

pub add_steps-requires-clause-right : goal.add_steps-requires-clause-right
add_steps-requires-clause-right g c = λ κs within. rw (c.as_slice.ensures.value, c.as_slice-2.ensures.value) c.requires.right.right

pub returns : goal.returns
returns g c =
    let added = c.in_ok-height.ensures in
    let empty = subst (λ (bytes : List ℕ). IsBody [] bytes) (sym c.new-pictures.ensures.bytes) none_yet in
    let told = rw (c.as_slice.ensures.value, c.as_slice-2.ensures.value) at added.1 in
    let all = added.2 [] empty refl in
    (added.0, told, c.in_ok-text.ensures added.0 (rw c.as_str.ensures.value all.0) all.1)
