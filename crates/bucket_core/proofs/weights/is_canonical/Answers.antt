use Rattle.std.proofs.Common.{refl, arith}
use Rattle.bucket_core.proofs.Runs.{follows_none, follows_step, follows_end}
use Rattle.bucket_core.proofs.weights.is_canonical.Goals as goal
use Rattle.bucket_core.proofs.weights.is_canonical.Goals.{then-weight-eq0-via-then-weight-eq0, then-weight-eq0-via-else-weight-eq0+then-not-is_apart}

pub loop-name-init : goal.loop-name-init
loop-name-init c = rw c.into_iter-name-iterator.ensures.into_iter_gives (record {
  can = tt;
  ends_soon = tt;
  alike = follows_none c.args.entries;
})

pub returns-then-weight-eq0 : goal.returns-then-weight-eq0
returns-then-weight-eq0 c =
    let l = c.loop-name in
    let here = follows_step l.before l.name-iterator c.next.new.self c.in-Some.name c.in-Some.weight c.in-Some.ensures.steps l.invariant.alike in (
      λ h. cc h,
      λ h. elim c.then-weight-eq0.branch [
        | then-weight-eq0-via-then-weight-eq0 w ↦ absurd (omega (arith, (here.0 h).1, w.if-weight-eq0.true))
        | then-weight-eq0-via-else-weight-eq0+then-not-is_apart w ↦ w.if-not-is_apart.ensures.1 (here.0 h).0
      ],
    )

pub loop-name-preserved : goal.loop-name-preserved
loop-name-preserved c =
    let l = c.loop-name in
    let here = follows_step l.before l.name-iterator c.next.new.self c.in-Some.name c.in-Some.weight c.in-Some.ensures.steps l.invariant.alike in record {
      can = tt;
      ends_soon = tt;
      alike = (λ h. (here.0 h).2, λ h. here.1 (c.if-not-is_apart.ensures.0 refl, omega (arith, c.if-weight-eq0.false), h));
    }

pub returns : goal.returns
returns c =
    let l = c.loop-name in
    let all = rw c.in-None.ensures.steps.0 at l.invariant.alike in
    (λ h. all.1 (follows_end l.before), λ h. refl)
