use Rattle.std.proofs.Common.{◌≡◌}
use Rattle.flagops_streams.specs.Documents.{texts_of}
use Rattle.flagops_streams.specs.Loading.{documents_view}
use Rattle.flagops_service.specs.Starting.{numbered, numbered_from}
use Rattle.flagops_service.proofs.merging.numbered.Given as goal

-- with those that are left they give what all give
abbrev pub invariant-loop-text : goal.invariant-loop-text
invariant-loop-text l = numbered_from (documents_view l.documents) (texts_of l.text-iterator.rest.items) ≡ numbered (texts_of l.fn.texts.items)
