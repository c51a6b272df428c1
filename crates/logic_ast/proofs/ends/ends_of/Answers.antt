use Rattle.std.proofs.Common.{◌+◌, ◌<◌, drop, length, sym, ap, ◌∙◌, arith}
use Rattle.logic_ast.specs.Ends.{ends_of}
use Rattle.logic_ast.specs.Summing.{ends_after, after_ends}
use Rattle.logic_ast.specs.View.{buckets_view}
use Rattle.logic_ast.proofs.Summed.{ends_start, ends_next, ends_none, ends_all}
use Rattle.logic_ast.proofs.ends.ends_of.Goals as goal

pub loop-bucket-init : goal.loop-bucket-init
loop-bucket-init c =
    let bs = buckets_view c.deref-bucket-items.result.now in record {
      answers = ends_start bs ∙ ap (λ before. after_ends before (ends_after 0 bs)) (sym c.new-ends.ensures.items);
      small = omega arith;
    }

pub loop-bucket-preserved : goal.loop-bucket-preserved
loop-bucket-preserved c =
    let xs = c.deref-bucket-items.result.now in
    let h : c.loop-bucket.bucket-index < length xs = omega arith in record {
      answers = c.loop-bucket.invariant.answers
          ∙ (ends_next xs c.loop-bucket.bucket-index c.bucket-item.result h c.bucket-item.is c.loop-bucket.ends.items c.loop-bucket.end _ c.in-Some.ensures.value
          ∙ ap (λ before. after_ends before (ends_after c.in-Some.next (buckets_view (drop (c.loop-bucket.bucket-index + 1) xs)))) (sym c.in_ok-push.ensures.items));
      small = c.in-Some.ensures.small;
    }

pub returns-in_default : goal.returns-in_default
returns-in_default c =
    let xs = c.deref-bucket-items.result.now in
    let h : c.loop-bucket.bucket-index < length xs = omega arith in
    c.new.ensures.items
    ∙ sym (ap (λ bs. ends_of (buckets_view bs)) (sym c.deref-bucket-items.ensures.value)
    ∙ (c.loop-bucket.invariant.answers ∙ ends_none xs c.loop-bucket.bucket-index c.bucket-item.result h c.bucket-item.is c.loop-bucket.ends.items c.loop-bucket.end c.in_default.ensures.value))

pub returns : goal.returns
returns c =
    let xs = c.deref-bucket-items.result.now in
    sym (ap (λ bs. ends_of (buckets_view bs)) (sym c.deref-bucket-items.ensures.value)
    ∙ (c.loop-bucket.invariant.answers ∙ ends_all xs c.loop-bucket.bucket-index c.loop-bucket.ends.items c.loop-bucket.end (omega arith)))
