use Rattle.std.proofs.Common.{◌≡◌, ◌∙◌, List, ap, inr, is_some, sym}
use Rattle.flag_defs.specs.declared.flags.Flags.{Flags}
use Rattle.flagops_streams.specs.Documents.{texts_of}
use Rattle.flagops_service.specs.Shown.{shown_of}
use Rattle.flagops_service.proofs.Shown.{are_shown, is_document, last_behind}
use Rattle.flagops_service.proofs.watching.publish.Goals as goal

-- what the documents make is put behind what was published, and desks are shown what is known of it
pub returns-in-Ok-publish : goal.returns-in-Ok-publish
returns-in-Ok-publish g c =
    let desks = is_some c.args.answering.now.admin in
    let texts = texts_of c.args.watched.now.accepted.items in
    let flags = c.in-Ok.flags in
    let told : c.tell.result ≡ c.tell.new.self = c.tell.ensures.told ∙ sym c.tell.ensures.stays in
    let shown = c.show_texts.ensures ∙ ap (λ (all : List Flags). shown_of all c.in-Ok-texts_of.texts) told in
    inr (
      flags,
      c.tell.ensures.stays ∙ c.in-Ok-publish.ensures.adds.0,
      c.in-Ok.ensures.merged,
      c.in-Ok.ensures.described,
      are_shown desks texts flags c.tell.new.self c.in-Ok-texts_of.texts c.in-Ok-texts_of.ensures c.show_texts.result shown,
    )

-- the document means the flags that were published
pub show_texts-requires : goal.show_texts-requires
show_texts-requires g c =
    let desks = is_some c.args.answering.now.admin in
    let texts = texts_of c.args.watched.now.accepted.items in
    let flags = c.in-Ok.flags in
    is_document desks texts flags c.tell.result c.in-Ok-texts_of.texts c.in-Ok-texts_of.ensures (last_behind c.args.publisher.now c.tell.result flags (c.tell.ensures.told ∙ c.in-Ok-publish.ensures.adds.0))
