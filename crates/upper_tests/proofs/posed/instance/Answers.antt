use Rattle.std.proofs.Common.{ap, ◌∙◌, arith}
use Rattle.book_core.specs.Counts.{counts_of}
use Rattle.bucket_core.specs.Rule.{total_weight}
use Rattle.transport_core.proofs.Costs.{tally_of}
use Rattle.upper_tests.proofs.posed.instance.Goals as goal

pub make-requires-clause-listed : goal.make-requires-clause-listed
make-requires-clause-listed c = c.lists.ensures.0 c.if-not-lists.false

pub make-requires-clause-tally : goal.make-requires-clause-tally
make-requires-clause-tally c =
    let inputs = c.args.posed.now.inputs in
    tally_of inputs (total_weight c.args.posed.now.old) c.as_slice.result.now (c.as_slice.ensures.value ∙ (c.in_ok-counts.ensures ∙ ap (counts_of inputs) c.total-2.ensures.value)) (omega (arith, c.inputs-inputs.ensures.lawful.few))
