-- What the texts of bodies are.
use Rattle.std.specs.Prelude.{◌≡◌, ℕ, List, codes, false, map, None}
use Rattle.flag_resolve.specs.Resolved.{Resolved}
use Rattle.flag_text.specs.Printing.{text_of}
use Rattle.flag_text.specs.Shape.{Shape}
use Rattle.ofrep_answers.specs.Bodies.{flags_shape, flags_text}
use Rattle.ofrep_answers.specs.EvaluationBody.{body_of, body_text}

-- Where no value is spelled and no metadata has members, the text is that of the body.
abbrev pub TextsAreOfBodies : Type 0
TextsAreOfBodies = (key : List ℕ) (r : Resolved) → body_text false (codes "{}") key r ≡ text_of (body_of key r)

-- The text of all bodies, without metadata, is made of their texts.
abbrev pub FlagsTextIsOfBodies : Type 0
FlagsTextIsOfBodies = (bodies : List Shape) → flags_text None (map text_of bodies) ≡ text_of (flags_shape bodies)
