use Rattle.std.proofs.Common.{ℕ, List, Option, ap, inr, string_bytes, subst}
use Rattle.std.specs.Prelude.{IfSome}
use Rattle.control_desk.specs.Bodies.{TellsDocument}
use Rattle.control_desk.specs.Held.{IsOfSnapshot, ReadsLast, held_view, numbered_of}
use Rattle.control_desk.specs.declared.held.HeldSnapshot.{HeldSnapshot}
use Rattle.control_desk.proofs.desk.ControlDesk.tell_document.Goals as goal

-- the document of the snapshot that was read is told
pub returns-in_ok-tell_document-in-Some-clause-ok : goal.returns-in_ok-tell_document-in-Some-clause-ok
returns-in_ok-tell_document-in-Some-clause-ok g c =
    let held = c.in-Some.held in
    let old = c.args.self.now in
    let new = c.hold.new.self in
    let s = numbered_of held in
    let read : ReadsLast old.seat s new.seat = subst (λ (o : Option HeldSnapshot). IfSome o (λ h. ReadsLast old.seat (numbered_of h) new.seat)) c.in-Some.is c.in_ok-held.ensures.read in
    let means : IsOfSnapshot s (string_bytes held.document) = subst (λ (o : Option HeldSnapshot). IfSome o (λ h. IsOfSnapshot (numbered_of h) (string_bytes h.document))) c.in-Some.is c.in_ok-held.ensures.document in
    let told = subst (λ (field : Option (List ℕ)). TellsDocument field (held_view held) c.tell_document.new.response) c.held_of.ensures c.in_ok-tell_document-in-Some.ensures in
    inr ((s, read, (string_bytes held.document, means, told)), ap g.F.DeskFiles.holding c.hold.ensures.files)
