-- What holds of every evaluation for a request, whatever the flags.
use Rattle.std.specs.Prelude.{◌≡◌, ◌≢◌, ◌==◌, ℕ, true, List, [], ◌∷◌, ◌++◌, codes, if◌then◌else◌, Option, None, Some}
use Rattle.std.specs.List.{All, flat_map}
use Rattle.flag_defs.specs.Document.{Definitions}
use Rattle.flag_defs.specs.Flag.{is_definition}
use Rattle.flag_defs.specs.Floats.{Marks, are_unmarked}
use Rattle.flag_resolve.specs.Resolved.{Resolved}
use Rattle.flag_resolve.specs.Words.{reason_word}
use Rattle.flag_resolve.specs.declared.code.Code.TheVariants.{TypeMismatch}
use Rattle.flag_text.specs.Printing.{text_of}
use Rattle.flag_text.specs.Shape.{Shape, text}
use Rattle.flag_metadata.specs.Document.{Described}
use Rattle.flag_metadata.specs.Law.{AreBare}
use Rattle.flag_resolve.specs.Floats.{Marked}
use Rattle.ofrep_answers.specs.Answer.{answer_of, answer_with}
use Rattle.decimal_reads.specs.Reads.{Reading}
use Rattle.ofrep_answers.specs.Evaluation.{bodies, evaluation, is_spelled, read_by_flag, shape_told, text_told}
use Rattle.ofrep_answers.specs.Metadata.{metadata_of}
use Rattle.ofrep_answers.specs.Request.{Asked}
use Rattle.ofrep_answers.specs.Bodies.{flags_shape, flags_text}
use Rattle.ofrep_answers.specs.EvaluationBody.{status_of}

-- No flag is evaluated for another kind than that of its variants: TYPE_MISMATCH is never told.
abbrev pub NeverMismatches : Type 0
NeverMismatches = (flags : Definitions) (key : List ℕ) (context : Shape) (moment : ℕ) → All (λ f. is_definition f.1 ≡ true) flags
    → (evaluation flags key context moment).code ≢ Some TypeMismatch

-- the body of one flag, where there is such a flag for the caller
abbrev pub told_body : Option Reading → List ℕ → Resolved → List Shape
told_body read key r = if status_of r == 404 then [] else shape_told read key r ∷ []

abbrev pub told_body_at : Definitions → Shape → ℕ → List ℕ → Resolved → List Shape
told_body_at flags context moment key r = told_body (read_by_flag flags key context moment r) key r

-- the bodies of every flag, in the order of the keys
abbrev pub told_bodies : Definitions → Shape → ℕ → Definitions → List Shape
told_bodies flags context moment = flat_map (λ f. told_body_at flags context moment f.0 (evaluation flags f.0 context moment))

-- Flags of which none has floats are answered without metadata as flags without floats: the body of one flag is the text of its body, and that of every flag the text of theirs.
abbrev pub FloatsChangeNothing : Type 0
FloatsChangeNothing = (flags : Definitions) (marks : Marks) → are_unmarked marks ≡ true
    → ((key : List ℕ) (context : Shape) (moment : ℕ) → let r = evaluation flags key context moment in let read = read_by_flag flags key context moment r in text_told read (is_spelled key (flags, marks)) (codes "{}") key r ≡ text_of (shape_told read key r))
    × ((context : Shape) (moment : ℕ) → flags_text None (bodies (λ key. codes "{}") (flags, marks) context moment flags) ≡ text_of (flags_shape (told_bodies flags context moment flags)))

-- The value that the answer tells of a flag with floats is the bytes of the variant.
abbrev pub ValuesAreSpelled : Type 0
ValuesAreSpelled = (flags : Definitions) (context : Shape) (moment : ℕ) (metadata key : List ℕ) (r : Resolved) (name bytes : List ℕ) → r.variant ≡ Some name → r.value ≡ text bytes
    → text_told (read_by_flag flags key context moment r) true metadata key r ≡ codes "{\"key\":" ++ (text_of (text key) ++ (codes ",\"metadata\":" ++ (metadata ++ (codes ",\"reason\":" ++ (text_of (text (reason_word r.reason)) ++ (codes ",\"value\":" ++ (bytes
    ++ (codes ",\"variant\":" ++ (text_of (text name) ++ codes "}")))))))))

-- Where no document and no flag has a member of metadata, the answers are those without metadata.
abbrev pub MetadataChangesNothing : Type 0
MetadataChangesNothing = (ds : List Described) → AreBare ds → (flags : Marked) (moment : ℕ) (r : Asked) → answer_with (metadata_of ds) flags moment r ≡ answer_of flags moment r
