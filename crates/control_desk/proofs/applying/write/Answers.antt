use Rattle.std.proofs.Common.{◌≡◌, ◌∙◌, ℕ, Bool, true, List, ◌++◌, Option, ap, arith, codes, inl, inr, length, string_bytes, subst, sym}
use Rattle.flag_defs.specs.Document.{Definitions}
use Rattle.flagops_shell.specs.Files.{Holding, KeepsOthers}
use Rattle.http1.specs.Fields.{Header}
use Rattle.http_server.specs.Response.{IsResponse, fields_of}
use Rattle.control_answers.specs.Apply.{applied_view}
use Rattle.control_desk.specs.Apply.{HoldsText, IsRowOf, Writes, written_text}
use Rattle.control_desk.specs.Files.{path_in}
use Rattle.control_desk.specs.Held.{held_view}
use Rattle.control_desk.specs.Reply.{Replies}
use Rattle.control_desk.specs.Sent.{type_field}
use Rattle.control_desk.specs.declared.giving.Media.TheVariants.{Json}
use Rattle.control_desk.specs.declared.reply.Reply.TheVariants.{Unwritten}
use Rattle.control_desk.proofs.Seen.{at_fault, at_value}
use Rattle.control_desk.proofs.applying.write.Goals as goal
use Rattle.control_desk.proofs.applying.write.Goals.{then-is_err, else-is_err}

-- it is written, or that is told
pub returns-clause-ok : goal.returns-clause-ok
returns-clause-ok g c =
    let before = g.F.DeskFiles.holding c.args.files.now in
    let after = g.F.DeskFiles.holding c.note_and_replace.new.files in
    let folder = c.args.applying.folder.now in
    let path = c.args.applying.path.now in
    let asker = c.args.applying.asker.now in
    let held = held_view c.args.held.now in
    let applied = applied_view c.args.applied.now in
    let history : c.as_str-2.result.now ≡ path_in folder (codes "applied.log") = c.as_str-2.ensures.value ∙ c.in_ok-history.ensures in
    let text : c.as_str.result.now ≡ held.document = c.as_str.ensures.value in
    let same : c.in-Ok.is_same ≡ true = cc in
    let body : c.as_bytes.result.now ≡ written_text (length applied.document) =
    c.as_bytes.ensures.value ∙ (c.in_ok-text.ensures ∙ ap (λ (d : List ℕ). written_text (length d)) c.as_bytes-document.ensures.value) in
    let done : IsResponse 200 (type_field Json) (written_text (length applied.document)) c.finish.new.response =
    subst (λ (fs : List Header). IsResponse 200 (fs ++ type_field Json) (written_text (length applied.document)) c.finish.new.response) c.requires.headers
    (subst (λ (b : List ℕ). IsResponse 200 (fields_of c.args.response.now ++ type_field Json) b c.finish.new.response) body c.in_ok-finish.ensures) in
    elim c.if-is_err.branch [
      | then-is_err w ↦ inr (inr (inr (
        omega (arith, c.holds.ensures.counted, at_fault c.note_and_replace.result (sym c.is_err.ensures.value ∙ w.if-is_err.true) c.note_and_replace.ensures.failed),
        subst (Replies Unwritten) (sym w.response-is) w.respond-then-is_err.ensures,
        subst (KeepsOthers before after) history
            (subst (λ (b : Option Holding). KeepsOthers b after c.as_str-2.result.now) c.holds.ensures.holding
            (at_fault c.note_and_replace.result (sym c.is_err.ensures.value ∙ w.if-is_err.true) c.note_and_replace.ensures.err)),
      )))
      | else-is_err w ↦ inl (record {
        same = subst (λ (b : Bool). HoldsText b before path held.document) same (subst (HoldsText c.in-Ok.is_same before path) text c.in-Ok.ensures.same);
        line = string_bytes c.in_ok-row.row;
        row = subst (λ (flags : Definitions). IsRowOf flags asker applied (string_bytes c.in_ok-row.row)) c.flags.ensures c.in_ok-row.ensures;
        writes =
            subst (λ (h : List ℕ). Writes before after h (string_bytes c.in_ok-row.row) path applied.document) history
            (subst (λ (l : List ℕ). Writes before after c.as_str-2.result.now l path applied.document) c.as_bytes-2.ensures.value
            (subst (λ (d : List ℕ). Writes before after c.as_str-2.result.now c.as_bytes-2.result.now path d) c.as_bytes-document.ensures.value
            (subst (λ (b : Option Holding). Writes b after c.as_str-2.result.now c.as_bytes-2.result.now path c.as_bytes-document.result.now) c.holds.ensures.holding
            (at_value c.note_and_replace.result (sym c.is_err.ensures.value ∙ w.if-is_err.false) c.note_and_replace.ensures.ok))));
        response_is = subst (IsResponse 200 (type_field Json) (written_text (length applied.document))) (sym w.response-is) done;
      })
    ]
