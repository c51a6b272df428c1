-- What floats change in answers.
use Rattle.std.proofs.Common.{◌≡◌, ℕ, List, [], ◌∷◌, ◌++◌, codes, map, Bool, true, false, if◌then◌else◌, Option, Some, None, refl, sym, ap, ap₂, ◌∙◌}
use Rattle.std.specs.Prelude.{◌==◌, is_some, option_and_then}
use Rattle.std.specs.Map.{lookup}
use Rattle.std.specs.Str.{bytes_eq}
use Rattle.flag_defs.specs.Flag.{targeting_in}
use Rattle.std.proofs.lemmas.List.{map-append}
use Rattle.flag_defs.specs.Document.{Definitions}
use Rattle.flag_defs.specs.Floats.{Marks, are_unmarked}
use Rattle.flag_defs.specs.declared.kind.Kind.{Kind}
use Rattle.flag_resolve.specs.Resolved.{Resolved}
use Rattle.flag_resolve.proofs.Unmarked.{no_floats}
use Rattle.flag_text.specs.Printing.{text_of}
use Rattle.flag_text.specs.Shape.{Shape}
use Rattle.decimal_reads.specs.Reads.{Reading}
use Rattle.ofrep_answers.specs.Evaluation.{bodies, body_if_told, ended_in, evaluation, is_spelled, read_by_flag, read_unless_told, shape_told, text_told}
use Rattle.ofrep_answers.specs.Law.{FloatsChangeNothing, ValuesAreSpelled, told_bodies, told_body, told_body_at}
use Rattle.ofrep_answers.specs.Bodies.{flags_shape, flags_text, success_text}
use Rattle.ofrep_answers.specs.EvaluationBody.{body_of, body_text, status_of, told_text}
use Rattle.ofrep_answers.specs.BodyLaw.{FlagsTextIsOfBodies, TextsAreOfBodies}

module _ (one : TextsAreOfBodies) (all : FlagsTextIsOfBodies) (flags : Definitions) (marks : Marks) (none : are_unmarked marks ≡ true) where
  plain : (key : List ℕ) → is_spelled key (flags, marks) ≡ false
  plain key = ap (λ (o : Option Kind). is_some o) (no_floats key flags marks none)

  body_is : (key : List ℕ) (r : Resolved) → body_text (is_spelled key (flags, marks)) (codes "{}") key r ≡ text_of (body_of key r)
  body_is key r = ap (λ (b : Bool). body_text b (codes "{}") key r) (plain key) ∙ one key r

  text_is : (read : Option Reading) (key : List ℕ) (r : Resolved) → text_told read (is_spelled key (flags, marks)) (codes "{}") key r ≡ text_of (shape_told read key r)
  text_is None key r = body_is key r
  text_is (Some read) key r = refl

  told_is : (read : Option Reading) (key : List ℕ) (r : Resolved) → body_if_told read (is_spelled key (flags, marks)) (codes "{}") key r ≡ map text_of (told_body read key r)
  told_is read key r = by (status_of r == 404)
    where
      by : (b : Bool) → (if b then [] else text_told read (is_spelled key (flags, marks)) (codes "{}") key r ∷ []) ≡ map text_of (if b then [] else shape_told read key r ∷ [])
      by true = refl
      by false = ap (λ (s : List ℕ). s ∷ []) (text_is read key r)

  bodies_are : (context : Shape) (moment : ℕ) (fs : Definitions) → bodies (λ key. codes "{}") (flags, marks) context moment fs ≡ map text_of (told_bodies flags context moment fs)
  bodies_are context moment [] = refl
  bodies_are context moment (f ∷ fs) =
      let r = evaluation flags f.0 context moment in
      ap₂ (λ (xs ys : List (List ℕ)). xs ++ ys) (told_is (read_by_flag flags f.0 context moment r) f.0 r) (bodies_are context moment fs) ∙ sym (map-append text_of (told_body_at flags context moment f.0 r) (told_bodies flags context moment fs))

  pub nothing_changes : ((key : List ℕ) (context : Shape) (moment : ℕ) → let r = evaluation flags key context moment in let read = read_by_flag flags key context moment r in text_told read (is_spelled key (flags, marks)) (codes "{}") key r ≡ text_of (shape_told read key r))
      × ((context : Shape) (moment : ℕ) → flags_text None (bodies (λ key. codes "{}") (flags, marks) context moment flags) ≡ text_of (flags_shape (told_bodies flags context moment flags)))
  nothing_changes = (
    λ key context moment. let r = evaluation flags key context moment in text_is (read_by_flag flags key context moment r) key r,
    λ context moment. ap (flags_text None) (bodies_are context moment flags) ∙ all (told_bodies flags context moment flags),
  )

pub floats_change_nothing : TextsAreOfBodies → FlagsTextIsOfBodies → FloatsChangeNothing
floats_change_nothing one all flags marks none = nothing_changes one all flags marks none

pub values_are_spelled : ValuesAreSpelled
values_are_spelled flags context moment metadata key r name bytes variant value =
    ap (λ (o : Option (List ℕ)). text_told (read_unless_told o r.code (ended_in key context moment) (option_and_then targeting_in (lookup (bytes_eq key) flags))) true metadata key r) variant
    ∙ (ap (λ (o : Option (List ℕ)). told_text true metadata key o r) variant ∙ ap (λ (v : Shape). success_text true metadata key r.reason v name) value)
