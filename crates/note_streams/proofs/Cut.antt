-- Lines that are cut from files one after another.
use denote.Ref.{Bor}
use Rattle.std.proofs.Common.{◌≡◌, ◌≢◌, ◌<◌, ◌+◌, add-one, ℕ, List, [], ◌∷◌, ◌++◌, length, drop, drop-cons, get_or, append_assoc, append-nil, refl, sym, ap, ◌∙◌}
use Rattle.std.proofs.lemmas.List.{map-append}
use Rattle.byte_streams.proofs.Cutting.{line_first, no_line, some_part}
use Rattle.byte_streams.specs.Lines.{HasNoFeed, IsFirst, lines_view, parts_of}
use Rattle.note_streams.specs.LogLines.{all_lines, ended_parts, files_view, lines_in}
use Rattle.note_streams.specs.declared.file.LogFile as program

ended_next : (line : List ℕ) (parts : List (List ℕ)) → parts ≢ [] → ended_parts (line ∷ parts) ≡ (line ++ 10 ∷ []) ∷ ended_parts parts
ended_next line [] some = absurd (some refl)
ended_next line (next ∷ parts) some = refl

-- the first line, and those behind it
pub lines_first : (rest line behind : List ℕ) → IsFirst rest line behind → lines_in rest ≡ line ∷ lines_in behind
lines_first rest line behind first =
    ap ended_parts (ap parts_of first.whole ∙ line_first first.text behind first.none)
    ∙ ended_next first.text (parts_of behind) (some_part behind)
    ∙ ap (λ (l : List ℕ). l ∷ lines_in behind) (sym first.ended)

-- what has no line feed has no line
pub lines_none : (rest : List ℕ) → HasNoFeed rest → lines_in rest ≡ []
lines_none rest none = ap ended_parts (no_line rest none)

-- one line more
pub more_lines : (lines new : List (Bor (List ℕ))) (line : Bor (List ℕ)) (rest behind : List ℕ) → new ≡ lines ++ line ∷ [] → IsFirst rest line.now behind → lines_view new ++ lines_in behind ≡ lines_view lines ++ lines_in rest
more_lines lines new line rest behind is first =
    ap (λ (ls : List (Bor (List ℕ))). lines_view ls ++ lines_in behind) is
    ∙ ap (λ (ls : List (List ℕ)). ls ++ lines_in behind) (map-append (λ (l : Bor (List ℕ)). l.now) lines (line ∷ []))
    ∙ append_assoc (lines_view lines) (line.now ∷ []) (lines_in behind)
    ∙ ap (λ (ls : List (List ℕ)). lines_view lines ++ ls) (sym (lines_first rest line.now behind first))

pub no_more : (lines : List (Bor (List ℕ))) (rest : List ℕ) → HasNoFeed rest → lines_view lines ++ lines_in rest ≡ lines_view lines
no_more lines rest none = ap (λ (ls : List (List ℕ)). lines_view lines ++ ls) (lines_none rest none) ∙ append-nil (lines_view lines)

-- the lines of one file more
pub more_files : (rest later : List (List ℕ)) (file : List ℕ) (old new all : List (List ℕ)) → new ≡ old ++ lines_in file → rest ≡ file ∷ later → old ++ all_lines rest ≡ all → new ++ all_lines later ≡ all
more_files rest later file old new all is here before =
    ap (λ (ls : List (List ℕ)). ls ++ all_lines later) is
    ∙ append_assoc old (lines_in file) (all_lines later)
    ∙ ap (λ (fs : List (List ℕ)). old ++ all_lines fs) (sym here)
    ∙ before

-- no file more
pub all_cut : (files : List program.LogFile) (i : ℕ) (lines : List (List ℕ)) → drop i files ≡ [] → lines ≡ lines ++ all_lines (files_view (drop i files))
all_cut files i lines none = sym (ap (λ (fs : List program.LogFile). lines ++ all_lines (files_view fs)) none ∙ append-nil lines)

-- the first of what is left
pub first_left : {A : Type 0} (xs : List A) (i : ℕ) (d : A) → i < length xs → drop i xs ≡ get_or xs i d ∷ drop (i + 1) xs
first_left xs i d within = rw add-one (drop-cons xs i d within)

pub first_line_left : (lines : List (Bor (List ℕ))) (i : ℕ) (d : Bor (List ℕ)) → i < length lines → lines_view (drop i lines) ≡ (get_or lines i d).now ∷ lines_view (drop (i + 1) lines)
first_line_left lines i d within = ap lines_view (first_left lines i d within)

pub first_file_left : (files : List program.LogFile) (i : ℕ) (d : program.LogFile) → i < length files → files_view (drop i files) ≡ (get_or files i d).bytes.now ∷ files_view (drop (i + 1) files)
first_file_left files i d within = ap files_view (first_left files i d within)
