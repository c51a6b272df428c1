use Rattle.std.proofs.Common.{◌∙◌}
use Rattle.source_merge.proofs.Lent.{begun, marks_begun}
use Rattle.source_merge.proofs.choice.chosen.Goals as goal

pub loop-document-init : goal.loop-document-init
loop-document-init c =
    let all = c.into_iter-document-iterator.ensures.into_iter_gives ∙ c.values-document-items.ensures.rest in (
      begun c.args.documents.now.entries c.new-chosen.result.entries c.into_iter-document-iterator.result c.new-chosen.ensures.empty all,
      marks_begun c.args.documents.now.entries c.new-chosen.result.entries c.into_iter-document-iterator.result c.new-chosen.ensures.empty all,
    )
