-- The lines of resolutions, from one on.
use Rattle.std.proofs.Common.{◌≡◌, ◌∙◌, ℕ, ◌+◌, ◌<◌, List, [], ◌∷◌, ◌++◌, Bool, append_assoc, drop, drop-drop, get_or, length, map, ap, codes, refl, sym}
use Rattle.std.proofs.lemmas.List.{drop_more}
use Rattle.book_share.specs.declared.ask.Ask as program
use Rattle.flag_resolve.specs.Floats.{Marked}
use Rattle.flag_resolve.specs.Printing.{resolution_spelled}
use Rattle.flag_resolve.specs.Resolved.{Resolved}
use Rattle.flag_resolve.specs.Views.{resolution_view}
use Rattle.flag_resolve.specs.declared.resolution.Resolution as program_resolution
use Rattle.flagops_drive.specs.Floats.{is_first_spelled, spelled_of}
use Rattle.flagops_drive.specs.Lines.{resolution_lines}

abbrev pub lines_of : Marked → List program.Ask → List Resolved → List ℕ
lines_of m asks rs = resolution_lines (spelled_of m asks rs) rs

abbrev pub lines_from : Marked → List program.Ask → List program_resolution.Resolution → ℕ → List ℕ
lines_from m asks answers i = lines_of m (drop i asks) (map resolution_view (drop i answers))

-- a line for the first, then the others
first_line : (m : Marked) (asks : List program.Ask) (r : Resolved) (rs : List Resolved)
    → lines_of m asks (r ∷ rs) ≡ resolution_spelled (is_first_spelled m asks r) r ++ (codes "\n" ++ lines_of m (drop 1 asks) rs)
first_line m [] r [] = refl
first_line m [] r (x ∷ rs) = refl
first_line m (a ∷ asks) r rs = refl

-- the same from one on
line_there : (m : Marked) (asks : List program.Ask) (answers : List program_resolution.Resolution) (i : ℕ) (a : program_resolution.Resolution) → drop i answers ≡ a ∷ drop (i + 1) answers
    → lines_from m asks answers i ≡ resolution_spelled (is_first_spelled m (drop i asks) (resolution_view a)) (resolution_view a) ++ (codes "\n" ++ lines_from m asks answers (i + 1))
line_there m asks answers i a here =
    ap (λ xs. lines_of m (drop i asks) (map resolution_view xs)) here ∙ first_line m (drop i asks) (resolution_view a) (map resolution_view (drop (i + 1) answers))
    ∙ ap (λ xs. resolution_spelled (is_first_spelled m (drop i asks) (resolution_view a)) (resolution_view a) ++ (codes "\n" ++ lines_of m xs (map resolution_view (drop (i + 1) answers)))) (drop-drop 1 i asks)

-- an item, and the rest
pub from_there : {X : Type 0} (xs : List X) (i : ℕ) (x : X) → i < length xs → x ≡ get_or xs i x → drop i xs ≡ x ∷ drop (i + 1) xs
from_there xs i x within is = drop_more xs i x within ∙ ap (λ y. y ∷ drop (i + 1) xs) (sym is)

-- a line more, and the rest
pub one_more : (m : Marked) (asks : List program.Ask) (answers : List program_resolution.Resolution) (i : ℕ) (a : program_resolution.Resolution) (b : Bool) (old mid new : List ℕ)
    → i < length answers → a ≡ get_or answers i a → b ≡ is_first_spelled m (drop i asks) (resolution_view a)
    → mid ≡ old ++ resolution_spelled b (resolution_view a) → new ≡ mid ++ codes "\n"
    → old ++ lines_from m asks answers i ≡ lines_from m asks answers 0 → new ++ lines_from m asks answers (i + 1) ≡ lines_from m asks answers 0
one_more m asks answers i a b old mid new within is first added ended so_far =
    let line : List ℕ = resolution_spelled (is_first_spelled m (drop i asks) (resolution_view a)) (resolution_view a) in
    let rest : List ℕ = lines_from m asks answers (i + 1) in
    ap (λ s. s ++ rest) (ended ∙ ap (λ s. s ++ codes "\n") (added ∙ ap (λ x. old ++ resolution_spelled x (resolution_view a)) first))
    ∙ append_assoc (old ++ line) (codes "\n") rest ∙ append_assoc old line (codes "\n" ++ rest)
    ∙ ap (λ s. old ++ s) (sym (line_there m asks answers i a (from_there answers i a within is))) ∙ so_far
