use Rattle.std.proofs.Common.{◌≡◌, ◌∙◌, List, string_bytes, subst, sym}
use Rattle.flag_defs.specs.declared.flags.Flags.{Flags}
use Rattle.control_desk.specs.Sources.{IsDocumentOf}
use Rattle.control_desk.proofs.sources.SourceText.copied.Goals as goal

-- a copy of the document means the same flags
pub invariant_of-result : goal.invariant_of-result
invariant_of-result g c =
    let copy : string_bytes c.in_ok-document.document ≡ string_bytes c.self.inside.document = c.in_ok-document.ensures.ok ∙ c.as_str.ensures.value in
    subst (λ (published : List Flags). IsDocumentOf published (string_bytes c.in_ok-document.document)) (sym c.again.ensures)
    (subst (IsDocumentOf c.self.inside.told) (sym copy) c.self.invariant)
