-- A log that begins, and one that begins anew.
use Rattle.std.proofs.Common.{◌≡◌, ℕ, List, [], ◌∷◌, ◌++◌, ap, ◌∙◌, inl}
use Rattle.std.proofs.lemmas.List.{map-append}
use Rattle.log_file.specs.declared.handed.Handed.{Handed}
use Rattle.log_file.specs.Line.{EndsLine}
use Rattle.log_file.specs.Handed.{handed_in}
use Rattle.note_log.specs.Sound.{earlier_in}

-- nothing was handed over, and nothing waits
pub begins_whole : (handed waiting : List ℕ) → handed ≡ [] → waiting ≡ [] → ∥ EndsLine (handed ++ waiting) ∥₁
begins_whole handed waiting none empty = ∣ inl (ap (λ (bs : List ℕ). bs ++ waiting) none ∙ empty) ∣₁

-- one file more was lost
pub one_lost : (files : List (Handed × ℕ)) (last : Handed) (n : ℕ) → earlier_in (files ++ (last, n) ∷ []) ≡ earlier_in files ++ handed_in last.writes.items ∷ []
one_lost files last n = map-append (λ (f : Handed × ℕ). handed_in f.0.writes.items) files ((last, n) ∷ [])
