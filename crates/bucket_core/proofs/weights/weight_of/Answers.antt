use Rattle.std.proofs.Common.{◌≡◌, cond, refl, ap, arith}
use Rattle.std.specs.Str.{bytes_eq}
use Rattle.bucket_core.specs.Rule.{total_of}
use Rattle.bucket_core.proofs.Points.{total_of-cons, total_of-le, total_of-nil}
use Rattle.bucket_core.proofs.weights.weight_of.Goals as goal

pub overflow_add-total : goal.overflow_add-total
overflow_add-total c =
    let l = c.loop-other in
    let name = c.args.name.now in
    let here = total_of-cons (c.in-Some.other.now, c.in-Some.weight) c.next.new.self name in
    let same : cond (bytes_eq c.in-Some.other.now name) c.in-Some.weight 0 ≡ c.in-Some.weight = rw (← c.if-eq.ensures) refl in
    omega (arith, here, same, ap (λ es. total_of es name) c.in-Some.ensures.steps, l.invariant.adds_up, total_of-le c.args.entries name, c.requires)

pub loop-other-preserved-then-eq : goal.loop-other-preserved-then-eq
loop-other-preserved-then-eq c =
    let l = c.loop-other in
    let name = c.args.name.now in
    let here = total_of-cons (c.in-Some.other.now, c.in-Some.weight) c.next.new.self name in
    let same : cond (bytes_eq c.in-Some.other.now name) c.in-Some.weight 0 ≡ c.in-Some.weight = rw (← c.if-eq.ensures) refl in record {
      can = tt;
      ends_soon = tt;
      adds_up = omega (arith, here, same, ap (λ es. total_of es name) c.in-Some.ensures.steps, l.invariant.adds_up);
    }

pub loop-other-preserved : goal.loop-other-preserved
loop-other-preserved c =
    let l = c.loop-other in
    let name = c.args.name.now in
    let here = total_of-cons (c.in-Some.other.now, c.in-Some.weight) c.next.new.self name in
    let none : cond (bytes_eq c.in-Some.other.now name) c.in-Some.weight 0 ≡ 0 = rw (← c.if-eq.ensures) refl in record {
      can = tt;
      ends_soon = tt;
      adds_up = omega (arith, here, none, ap (λ es. total_of es name) c.in-Some.ensures.steps, l.invariant.adds_up);
    }

pub returns-clause-value : goal.returns-clause-value
returns-clause-value c =
    let name = c.args.name.now in
    omega (arith, c.loop-other.invariant.adds_up, ap (λ es. total_of es name) c.in-None.ensures.steps.0, total_of-nil name)

pub returns-clause-bound : goal.returns-clause-bound
returns-clause-bound c =
    omega (arith, c.loop-other.invariant.adds_up, total_of-le c.args.entries c.args.name.now)
