-- The text of a body from the texts of its parts, and of all bodies from their texts.
use Rattle.std.proofs.Common.{◌≡◌, ℕ, Bool, false, true, List, [], ◌∷◌, ◌++◌, codes, map, Option, Some, None, refl, ap, sym, ◌∙◌, append_assoc}
use Rattle.json.specs.Print.{escape_byte}
use Rattle.serde_json.specs.Written.{compact_text, items_text}
use Rattle.flag_defs.specs.Spelled.{value_spelled}
use Rattle.flag_resolve.specs.Resolved.{Resolved}
use Rattle.flag_resolve.specs.Words.{reason_word}
use Rattle.flag_resolve.specs.declared.reason.Reason.{Reason}
use Rattle.flag_text.specs.Printing.{data_of, items_data, text_of}
use Rattle.flag_text.specs.Shape.{Shape, text}
use Rattle.flag_text.specs.View.{items_of}
use Rattle.ofrep_answers.specs.Bodies.{flags_shape, flags_text, others_text, success, success_text}
use Rattle.ofrep_answers.specs.EvaluationBody.{body_of, body_text, told_body, told_text}
use Rattle.ofrep_answers.specs.BodyLaw.{FlagsTextIsOfBodies, TextsAreOfBodies}

-- what stands in front of each part, and behind the last
abbrev key_front : List ℕ
key_front = codes "{\"key\":"

abbrev metadata_front : List ℕ
metadata_front = codes ",\"metadata\":"

abbrev reason_front : List ℕ
reason_front = codes ",\"reason\":"

abbrev value_front : List ℕ
value_front = codes ",\"value\":"

abbrev variant_front : List ℕ
variant_front = codes ",\"variant\":"

abbrev end : List ℕ
end = codes "}"

-- one behind the other
joined : (a b m n c d e f g h i : List ℕ) → (((((((((a ++ b) ++ m) ++ n) ++ c) ++ d) ++ e) ++ f) ++ g) ++ h) ++ i ≡ a ++ (b ++ (m ++ (n ++ (c ++ (d ++ (e ++ (f ++ (g ++ (h ++ i)))))))))
joined a b m n c d e f g h i =
    append_assoc _ h i ∙ append_assoc _ g (h ++ i) ∙ append_assoc _ f (g ++ (h ++ i)) ∙ append_assoc _ e (f ++ (g ++ (h ++ i)))
    ∙ append_assoc _ d (e ++ (f ++ (g ++ (h ++ i)))) ∙ append_assoc _ c (d ++ (e ++ (f ++ (g ++ (h ++ i)))))
    ∙ append_assoc _ n (c ++ (d ++ (e ++ (f ++ (g ++ (h ++ i)))))) ∙ append_assoc _ m (n ++ (c ++ (d ++ (e ++ (f ++ (g ++ (h ++ i)))))))
    ∙ append_assoc a b (m ++ (n ++ (c ++ (d ++ (e ++ (f ++ (g ++ (h ++ i))))))))

module _ (key : List ℕ) (reason : Reason) (value : Shape) (variant : List ℕ) where
  pub success_parts : (spelled : Bool) (metadata : List ℕ) → (((((((((key_front ++ text_of (text key)) ++ metadata_front) ++ metadata) ++ reason_front) ++ text_of (text (reason_word reason))) ++ value_front) ++ value_spelled spelled value) ++ variant_front) ++ text_of (text variant)) ++ end
      ≡ success_text spelled metadata key reason value variant
  success_parts spelled metadata =
      joined key_front (text_of (text key)) metadata_front metadata reason_front (text_of (text (reason_word reason))) value_front (value_spelled spelled value) variant_front (text_of (text variant)) end

  plain_parts : success_text false (codes "{}") key reason value variant ≡ text_of (success key reason value variant)
  unfolding text_of escape_byte
  plain_parts = refl

pub texts_of_bodies : TextsAreOfBodies
texts_of_bodies key r = by r.variant
  where
    by : (o : Option (List ℕ)) → told_text false (codes "{}") key o r ≡ text_of (told_body key o r)
    by (Some variant) = plain_parts key r.reason r.value variant
    by None = refl

others_written : (ts : List Shape) → items_text true (items_data (items_of ts)) ++ codes "}" ≡ others_text None (map text_of ts)
unfolding text_of
others_written [] = refl
others_written (t ∷ ts) =
    ap (λ (s : List ℕ). 44 ∷ s) (append_assoc (compact_text (data_of t)) (items_text true (items_data (items_of ts))) (codes "}")) ∙ ap (λ (s : List ℕ). 44 ∷ (compact_text (data_of t) ++ s)) (others_written ts)

pub flags_text_of_bodies : FlagsTextIsOfBodies
unfolding text_of escape_byte
flags_text_of_bodies [] = refl
flags_text_of_bodies (t ∷ ts) =
    sym (ap (λ (s : List ℕ). codes "{\"flags\":[" ++ s) (append_assoc (compact_text (data_of t)) (items_text true (items_data (items_of ts))) (codes "}") ∙ ap (λ (s : List ℕ). compact_text (data_of t) ++ s) (others_written ts)))
