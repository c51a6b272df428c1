use Rattle.std.proofs.Common.{◌≡◌, ◌+◌, ◌≤◌, ◌*◌, ◌<◌, ◌^◌, length, sum_by, ap, ◌∙◌, arith}
use Rattle.std.proofs.lemmas.List.{length-map}
use Rattle.std.proofs.lemmas.List.Sums.{sum_by-cons}
use Rattle.std.specs.Map.{values_of}
use Rattle.book_core.specs.Book.{input_count, contents_view, most_inputs, inputs_view}
use Rattle.book_core.proofs.Counted.{size_of, sizes_sum, few_in_all}
use Rattle.book_core.proofs.pages.count_inputs.Goals as goal

pub loop-inputs-init : goal.loop-inputs-init
loop-inputs-init c =
    let es = c.args.pages.now.entries in
    let begins : c.into_iter-inputs-iterator.result ≡ values_of es = c.into_iter-inputs-iterator.ensures.into_iter_gives ∙ c.values-inputs-items.ensures.rest in
    let all : sum_by size_of c.into_iter-inputs-iterator.result ≡ input_count (contents_view es) = ap (sum_by size_of) begins ∙ sizes_sum es in
    omega (arith, all)

pub overflow_add-count : goal.overflow_add-count
overflow_add-count c =
    let es = c.args.pages.now.entries in
    let bound : input_count (contents_view es) ≤ most_inputs * length (contents_view es) = few_in_all (contents_view es) c.requires.filled in
    let pages : length (contents_view es) ≡ length es = length-map es (λ e. (e.0, inputs_view e.1)) in
    let fits : length es < 2 ^ 63 = c.values-inputs-items.ensures.fits in
    let next : sum_by size_of c.loop-inputs.inputs-iterator ≡ size_of c.in-Some.inputs.now + sum_by size_of c.next.new.self =
    ap (sum_by size_of) c.in-Some.ensures.steps ∙ sum_by-cons size_of c.in-Some.inputs.now c.next.new.self in
    let size = c.len.ensures in
    let whole = c.loop-inputs.invariant in
    omega (arith, bound, pages, fits, next, size, whole)
