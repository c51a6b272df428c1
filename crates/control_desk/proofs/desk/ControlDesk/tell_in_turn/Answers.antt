use Rattle.std.proofs.Common.{◌≡◌, ◌≤◌, ◌∙◌, Option, Bor, ap, arith, inr, string_bytes, subst}
use Rattle.std.specs.Prelude.{IfSome}
use Rattle.control_desk.specs.Asked.{call_asked}
use Rattle.control_desk.specs.Desk.{Page, RespondsOn, hindered, page_view}
use Rattle.control_desk.specs.Held.{IsOfSnapshot, ReadsLast, numbered_of}
use Rattle.control_desk.specs.Logs.{AreLogs, bytes_of, passed_by}
use Rattle.control_desk.specs.Rules.{Rules, rules_view}
use Rattle.control_desk.specs.declared.held.HeldSnapshot.{HeldSnapshot}
use Rattle.control_desk.specs.declared.post.DeskPost.{DeskPost}
use Rattle.control_desk.proofs.Seats.{aside}
use Rattle.control_desk.proofs.desk.ControlDesk.tell_in_turn.Goals as goal

-- what is told is of the snapshot that was read, and of the logs that were
pub returns-in-Ok-clause-ok : goal.returns-in-Ok-clause-ok
returns-in-Ok-clause-ok g c =
    let held = c.in-Some.held in
    let old = c.args.self.now in
    let mid = c.hold.new.self in
    let new = c.tell_on.new.self in
    let s = numbered_of held in
    let files = bytes_of c.in-Ok.logs in
    let passed = passed_by c.in-Ok.logs in
    let folder = c.args.folder.now in
    let document = string_bytes held.document in
    let asked = call_asked c.args.request.now in
    let response = c.tell_on.new.response in
    let naming = g.F.DeskFiles.naming in
    let holding = g.F.DeskFiles.holding in
    let faults = g.F.DeskFiles.faults in
    let before = holding old.files in
    let after = holding new.files in
    let had = hindered (faults old.files) old.met in
    let has = hindered (faults new.files) new.met in
    let read = c.read_logs.new.files in
    let met = c.read_logs.new.met in
    let was : ReadsLast old.seat s mid.seat = subst (λ (o : Option HeldSnapshot). IfSome o (λ h. ReadsLast old.seat (numbered_of h) mid.seat)) c.in-Some.is c.in_ok-held.ensures.read in
    let means : IsOfSnapshot s document = subst (λ (o : Option HeldSnapshot). IfSome o (λ h. IsOfSnapshot (numbered_of h) (string_bytes h.document))) c.in-Some.is c.in_ok-held.ensures.document in
    let reads : ReadsLast old.seat s new.seat = rw c.tell_on.ensures.seat was in
    let rules : rules_view mid.post.now.rules ≡ rules_view old.post.now.rules = ap (λ (p : Bor DeskPost). rules_view p.now.rules) c.hold.ensures.post in
    let page : page_view mid.page ≡ page_view old.page = ap page_view c.hold.ensures.page in
    let are : AreLogs (naming old.files) before folder files passed = rw c.hold.ensures.files at c.in-Ok.ensures.logs in
    let fewer : faults old.files ≤ faults read = rw c.hold.ensures.files at c.read_logs.ensures.counted in
    let held_still : holding read ≡ before = c.read_logs.ensures.holding ∙ ap holding c.hold.ensures.files in
    let told =
    subst (λ (p : Page). RespondsOn (naming old.files) before after had has (rules_view old.post.now.rules) p old.seat new.seat asked response c.args.place folder s document files passed) page
    (subst (λ (r : Rules). RespondsOn (naming old.files) before after had has r (page_view mid.page) old.seat new.seat asked response c.args.place folder s document files passed) rules
    (aside (naming read) (naming old.files) before after (hindered (faults read) met) has had has (rules_view mid.post.now.rules) (page_view mid.page) mid.seat new.seat old.seat new.seat asked response fewer (omega arith) c.args.place folder s document files passed
    (rw held_still at c.in_ok-tell_on-in-Ok.ensures.ok))) in
    inr (files, passed, are, (s, reads, (document, means, told)))
