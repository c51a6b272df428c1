-- What the text of the counts ends with.
use Rattle.std.proofs.Common.{◌≡◌, ◌∙◌, List, ◌++◌, ℕ, ap, append_assoc, sym}
use Rattle.ofrep_worker.specs.Counted.{EndsWithSizes, sizes_text}

-- a body that the text was added to ends so too
pub ends_still : (old text new : List ℕ) → EndsWithSizes text → new ≡ old ++ text → EndsWithSizes new
ends_still old text new ends is =
    (old ++ ends.0, ends.1, ends.2, is ∙ ap (λ (t : List ℕ). old ++ t) ends.3 ∙ sym (append_assoc old ends.0 (sizes_text ends.1 ends.2)))
