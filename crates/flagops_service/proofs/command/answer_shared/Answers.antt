use Rattle.std.proofs.Common.{◌≡◌, ◌∙◌, ℕ, List, [], ap, arith, inl, is_some, length, length-append, subst, sym}
use Rattle.flag_defs.specs.declared.flags.Flags.{Flags}
use Rattle.flagops_streams.specs.Documents.{texts_of}
use Rattle.flagops_streams.specs.Report.{Writes}
use Rattle.flagops_service.specs.Ended.{serving_line}
use Rattle.flagops_service.specs.Shown.{shown_of}
use Rattle.flagops_service.proofs.Shown.{are_shown, is_document, last_behind}
use Rattle.flagops_service.proofs.Stopped.{ended}
use Rattle.flagops_service.proofs.command.answer_shared.Goals as goal

-- the line was written, and the status is its own only where the service may be stopped, and was
pub returns : goal.returns
returns g c =
    let n = length c.args.watched.accepted.items in
    let old = g.O.Outlet.bytes c.args.out.now in
    let new = g.O.Outlet.bytes c.write_line-status.new.out in
    let broken = g.O.Outlet.is_broken c.write_line-status.new.out in
    let is : c.as_str.result.now ≡ serving_line n = c.as_str.ensures.value ∙ c.in-Ok.ensures ∙ ap serving_line (c.len.ensures ∙ c.args.watched.accepted.ok.0) in
    let put = subst (λ (line : List ℕ). Writes old new broken c.write_line-status.result line 0) is c.write_line-status.ensures in
    inl (inl (
      c.requires.cors,
      ended old new (serving_line n) broken c.write_line-status.result c.status_of.result c.args.answering.now.allow_stop c.attend-was_stopped.result c.status_of.ensures put,
    ))

-- the document that desks are shown means the flags
pub show_texts-shown-requires : goal.show_texts-shown-requires
show_texts-shown-requires g c =
    let begun = c.requires.begun in
    is_document (is_some c.args.answering.now.admin) (texts_of c.args.watched.accepted.items) begun.0 c.tell.result c.args.texts begun.4 (last_behind [] c.tell.result begun.0 (c.tell.ensures.told ∙ begun.1))

-- these flags are published, and desks are shown what is known of them
pub attend-was_stopped-requires-clause-published : goal.attend-was_stopped-requires-clause-published
attend-was_stopped-requires-clause-published g c κs within =
    let begun = c.requires.begun in
    let published = c.tell.new.self in
    let told : c.tell.result ≡ published = c.tell.ensures.told ∙ sym c.tell.ensures.stays in
    let shown = c.show_texts-shown.ensures ∙ ap (λ (all : List Flags). shown_of all c.args.texts) told in (
      [],
      begun.0,
      c.tell.ensures.stays ∙ begun.1,
      begun.2,
      begun.3,
      are_shown (is_some c.args.answering.now.admin) (texts_of c.args.watched.accepted.items) begun.0 published c.args.texts begun.4 c.show_texts-shown.result shown,
    )

-- the seats behind those of the workers are for listeners and operations
pub attend-was_stopped-requires-clause-others : goal.attend-was_stopped-requires-clause-others
attend-was_stopped-requires-clause-others g c =
    let parts = c.in-Ok-parted.parted in
    let all = c.in-Ok-parted.ensures in
    omega (arith, all.workers, ap length all.all, length-append parts.0.items parts.1.items, parts.0.ok.0, parts.1.ok.0, c.args.seats.ok.0, c.len-2.ensures, c.requires.seats)
