-- What stands behind the last line, of bytes in parts.
use Rattle.std.proofs.Common.{◌≡◌, ◌≢◌, nat_lt, ℕ, List, [], ◌∷◌, ◌++◌, length, append-nil, refl, sym, ap, ◌∙◌}
use Rattle.byte_streams.proofs.Cutting.{no_line, some_part}
use Rattle.byte_streams.specs.Lines.{HasNoFeed, IsCut, parts_of}
use Rattle.note_streams.specs.Batch.{KeepsRest}
use Rattle.note_streams.specs.Rest.{has_rest, is_torn}

pub some_more : (xs ys : List (List ℕ)) → ys ≢ [] → xs ++ ys ≢ []
some_more [] ys some = some
some_more (x ∷ xs) ys some = λ e. cc

pub behind_one : (line : List ℕ) (parts : List (List ℕ)) → parts ≢ [] → has_rest (line ∷ parts) ≡ has_rest parts
behind_one line [] some = absurd (some refl)
behind_one line (part ∷ parts) some = refl

behind_all : (lines parts : List (List ℕ)) → parts ≢ [] → has_rest (lines ++ parts) ≡ has_rest parts
behind_all [] parts some = refl
behind_all (line ∷ lines) parts some = behind_one line (lines ++ parts) (some_more lines parts some) ∙ behind_all lines parts some

-- behind the lines that were cut
pub keeps_cut : (bytes rest : List ℕ) (lines : List (List ℕ)) → IsCut bytes lines rest → KeepsRest bytes rest
keeps_cut bytes rest lines cut = λ more. sym (ap has_rest (cut more) ∙ behind_all lines (parts_of (rest ++ more)) (some_part (rest ++ more)))

pub keeps_all : (bytes : List ℕ) → KeepsRest bytes bytes
keeps_all bytes = λ more. refl

pub keeps_more : (xs ys zs : List ℕ) → KeepsRest xs ys → KeepsRest ys zs → KeepsRest xs zs
keeps_more xs ys zs one two = λ more. two more ∙ one more

-- at the end of the bytes
pub at_end : (rest : List ℕ) → HasNoFeed rest → is_torn (rest ++ []) ≡ nat_lt 0 (length rest)
at_end rest none = ap has_rest (ap parts_of (append-nil rest) ∙ no_line rest none)
