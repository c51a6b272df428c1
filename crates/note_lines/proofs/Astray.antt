-- Lines that are looked at one after another.
use Rattle.std.proofs.Common.{◌≡◌, ◌≢◌, ◌⊎◌, ℕ, zero, suc, Bool, true, false, List, [], ◌∷◌, refl, sym, ap, ◌∙◌, subst}
use Rattle.byte_streams.proofs.Cutting.{line_first, no_line, some_part}
use Rattle.byte_streams.specs.Lines.{HasNoFeed, IsFirst, parts_of}
use Rattle.note_lines.specs.Lines.{IsStray, ended}
use Rattle.note_lines.specs.Astray.{IsAstray, IsKept}

abbrev Next : ℕ → List ℕ → List (List ℕ) → Bool → Type 0
Next n line parts found = (IsStray line × (found ≡ true)) ⊎ (IsKept line × IsAstray n parts found)

next_line : (n : ℕ) (line : List ℕ) (parts : List (List ℕ)) (found : Bool) → parts ≢ [] → Next n (ended line) parts found → IsAstray (suc n) (line ∷ parts) found
next_line n line [] found some next = absurd (some refl)
next_line n line (part ∷ parts) found some next = next

pub astray_line : (n : ℕ) (rest line behind : List ℕ) → IsFirst rest line behind → (found : Bool) → Next n line (parts_of behind) found → IsAstray (suc n) (parts_of rest) found
astray_line n rest line behind first found next =
    let parts : parts_of rest ≡ first.text ∷ parts_of behind = ap parts_of first.whole ∙ line_first first.text behind first.none in
    let here : Next n (ended first.text) (parts_of behind) found = subst (λ (l : List ℕ). Next n l (parts_of behind) found) first.ended next in
    subst (λ (ps : List (List ℕ)). IsAstray (suc n) ps found) (sym parts) (next_line n first.text (parts_of behind) found (some_part behind) here)

last : (n : ℕ) (rest : List ℕ) → IsAstray n (rest ∷ []) false
last zero rest = refl
last (suc n) rest = refl

pub none_left : (n : ℕ) (rest : List ℕ) → HasNoFeed rest → IsAstray n (parts_of rest) false
none_left n rest none = subst (λ (ps : List (List ℕ)). IsAstray n ps false) (sym (no_line rest none)) (last n rest)
