use Rattle.std.proofs.Common.{◌≡◌, ◌-◌, map, drop, string_bytes, sym, ap, ◌∙◌, arith}
use Rattle.book_core.proofs.Listed.{set_more, dropped_whole}
use Rattle.book_core.proofs.inputs.set_of.Goals as goal

pub loop-left-init : goal.loop-left-init
loop-left-init c = record {
  inside = omega arith;
  gathered = ap (map string_bytes) c.new-set.ensures.empty ∙ sym (dropped_whole c.args.list.now);
}

pub loop-left-preserved : goal.loop-left-preserved
loop-left-preserved c =
    let l = c.loop-left in
    record {
      inside = omega (arith, l.invariant.inside);
      gathered = ap (map string_bytes) c.in_ok-insert.ensures.keys
          ∙ set_more c.args.list.now l.set.keys c.in_ok-from_str.field-0 (l.left - 1) l.left c.index-list-left.result c.requires l.invariant.gathered (omega arith) (omega (arith, l.invariant.inside)) c.index-list-left.is
          (c.in_ok-from_str.ensures.ok ∙ c.as_str.ensures.value);
    }

pub returns : goal.returns
returns c =
    let l = c.loop-left in
    let at_front : l.left ≡ 0 = omega arith in
    l.invariant.gathered ∙ ap (λ n. drop n (map string_bytes c.args.list.now)) at_front
