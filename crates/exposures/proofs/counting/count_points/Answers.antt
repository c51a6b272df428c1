use Rattle.std.proofs.Common.{◌≡◌, ◌<◌, ◌==◌, count_by, take, map, length, String, string_bytes, ap, ◌∙◌, arith}
use Rattle.std.specs.declared.alloc.Global.{Global}
use Rattle.std.proofs.lemmas.List.{get_or_read, length-take, take_all}
use Rattle.std.proofs.lemmas.List.FromFn.{fill_by_all}
use Rattle.std.proofs.lemmas.List.Sums.{count_by-le-length}
use Rattle.bucket_core.specs.Point.{point_of}
use Rattle.exposures.specs.Counts.{inputs_at}
use Rattle.exposures.proofs.Counted.{one_counted, counted_texts}
use Rattle.exposures.proofs.counting.count_points.Goals as goal

pub overflow_add-index_mut : goal.overflow_add-index_mut
overflow_add-index_mut c =
    let q = c.point.result in
    let inputs = c.args.inputs.now in
    let v = c.index_mut.result.now in
    let items = c.loop-input.counts.items in
    let room : q < length items = omega (arith, c.loop-input.counts.ok.0, c.loop-input.invariant.whole, c.point.ensures.below) in
    let had = get_or_read items q v room c.index_mut.ensures.value 0 in
    let counted = c.loop-input.invariant.each q c.point.ensures.below in
    let bound = count_by-le-length (λ (input : String Global). point_of c.args.total (string_bytes input) == q) (take c.loop-input.input-index inputs) in
    let taken = length-take c.loop-input.input-index inputs in
    omega (arith, had, counted, bound, taken, c.requires.few)

pub loop-input-preserved : goal.loop-input-preserved
loop-input-preserved c =
    let q = c.point.result in
    let inputs = c.args.inputs.now in
    let v = c.index_mut.result.now in
    let items = c.loop-input.counts.items in
    let x = c.input-item.result in
    let total = c.args.total in
    let room : q < length items = omega (arith, c.loop-input.counts.ok.0, c.loop-input.invariant.whole, c.point.ensures.below) in
    let falls : q ≡ point_of total (string_bytes x) = c.point.ensures.value ∙ ap (point_of total) c.as_str.ensures.value in record {
      whole = c.loop-input.invariant.whole;
      each = one_counted (λ (input : String Global). point_of total (string_bytes input)) items inputs c.loop-input.input-index x q v total c.loop-input-test.true c.input-item.is falls room c.index_mut.ensures.value c.loop-input.invariant.each;
    }

pub returns : goal.returns
returns c =
    let inputs = c.args.inputs.now in
    let items = c.loop-input.counts.items in
    let total = c.args.total in
    let all : take c.loop-input.input-index inputs ≡ inputs = take_all c.loop-input.input-index inputs c.loop-input-test.false in
    let size : length items ≡ total = omega (arith, c.loop-input.counts.ok.0, c.loop-input.invariant.whole) in
    fill_by_all (inputs_at (map string_bytes inputs) total) items total 0 size (λ p below.
    c.loop-input.invariant.each p below ∙ ap (count_by (λ (input : String Global). point_of total (string_bytes input) == p)) all ∙ counted_texts total p inputs)
