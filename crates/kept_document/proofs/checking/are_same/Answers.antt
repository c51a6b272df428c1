use Rattle.std.proofs.Common.{◌≡◌, sym, ap₂, ◌∙◌}
use Rattle.std.specs.Str.{bytes_eq}
use Rattle.std.proofs.lemmas.Slice.Eq.{bytes_eq-Decides}
use Rattle.kept_document.proofs.Checked.{same_flags}
use Rattle.kept_document.proofs.checking.are_same.Goals as goal

pub returns : goal.returns
returns c =
    let one = c.in_ok-one.one.items in
    let other = c.in_ok-other.other.items in
    let is : c.eq.result ≡ bytes_eq one other = c.eq.ensures ∙ ap₂ bytes_eq c.as_slice.ensures.value c.as_slice-2.ensures.value in
    same_flags _ _ one other c.in_ok-one.ensures.text c.in_ok-other.ensures.text c.in_ok-one.ensures.reads_back c.in_ok-other.ensures.reads_back c.eq.result
    (λ h. (bytes_eq-Decides one other).0 (sym is ∙ h)) (λ h. is ∙ (bytes_eq-Decides one other).1 h)
