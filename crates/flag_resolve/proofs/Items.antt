-- The text of a resolution from the texts of its parts.
use Rattle.std.proofs.Common.{◌≡◌, ℕ, List, [], ◌∷◌, ◌++◌, true, map, option_map, string_bytes, codes, append_assoc, refl, ap, sym, ◌∙◌}
use Rattle.json.specs.Print.{escape_byte}
use Rattle.serde_json.specs.Written.{compact_text, items_text}
use Rattle.flag_text.specs.Printing.{data_of, items_data, text_of}
use Rattle.flag_text.specs.Shape.{Shape, list, text}
use Rattle.flag_text.specs.View.{view, items_of}
use Rattle.logic_eval.specs.Views.{reach_view}
use Rattle.logic_eval.specs.declared.meter.Reached.{Reached}
use Rattle.flag_resolve.specs.Printing.{details, list_text, others_text, reach_shape, resolution_around, resolution_text, text_or_null}
use Rattle.flag_resolve.specs.Resolved.{Resolved}
use Rattle.flag_resolve.specs.Views.{reached_shape, resolution_view}
use Rattle.flag_resolve.specs.Words.{code_word, reason_word}
use Rattle.flag_resolve.specs.declared.resolution.Resolution.{Resolution}

others_written : (ts : List Shape) → items_text true (items_data (items_of ts)) ≡ others_text ts
unfolding text_of
others_written [] = refl
others_written (t ∷ ts) = ap (λ s. 44 ∷ (compact_text (data_of t) ++ s)) (others_written ts)

list_written : (ts : List Shape) → list_text ts ≡ text_of (list (items_of ts))
unfolding text_of
list_written [] = refl
list_written (t ∷ ts) = ap (λ s. 91 ∷ (compact_text (data_of t) ++ s)) (sym (others_written ts))

reached_shapes : (rs : List Reached) → map reached_shape rs ≡ map reach_shape (map reach_view rs)
reached_shapes [] = refl
reached_shapes (r ∷ rs) = ap (λ us. reached_shape r ∷ us) (reached_shapes rs)

-- what stands in front of each part, and behind the last
abbrev code_front : List ℕ
code_front = codes "{\"code\":"

abbrev reached_front : List ℕ
reached_front = codes ",\"reached\":"

abbrev reason_front : List ℕ
reason_front = codes ",\"reason\":"

abbrev value_front : List ℕ
value_front = codes ",\"value\":"

abbrev variant_front : List ℕ
variant_front = codes ",\"variant\":"

abbrev end : List ℕ
end = codes "}"

-- one behind the other
joined : (a b c d e f g h i j k l : List ℕ) → ((((((((((a ++ b) ++ c) ++ d) ++ e) ++ f) ++ g) ++ h) ++ i) ++ j) ++ k) ++ l ≡ a ++ (b ++ (c ++ (d ++ (e ++ (f ++ (g ++ (h ++ (i ++ (j ++ (k ++ l))))))))))
joined a b c d e f g h i j k l =
    append_assoc _ k l ∙ append_assoc _ j (k ++ l) ∙ append_assoc _ i (j ++ (k ++ l)) ∙ append_assoc _ h (i ++ (j ++ (k ++ l))) ∙ append_assoc _ g (h ++ (i ++ (j ++ (k ++ l))))
    ∙ append_assoc _ f (g ++ (h ++ (i ++ (j ++ (k ++ l))))) ∙ append_assoc _ e (f ++ (g ++ (h ++ (i ++ (j ++ (k ++ l))))))
    ∙ append_assoc _ d (e ++ (f ++ (g ++ (h ++ (i ++ (j ++ (k ++ l))))))) ∙ append_assoc _ c (d ++ (e ++ (f ++ (g ++ (h ++ (i ++ (j ++ (k ++ l))))))))
    ∙ append_assoc a b (c ++ (d ++ (e ++ (f ++ (g ++ (h ++ (i ++ (j ++ (k ++ l)))))))))

parts : (code reached reason value variant : Shape) →
    code_front ++ (text_of code ++ (reached_front ++ (text_of reached ++ (reason_front ++ (text_of reason ++ (value_front ++ (text_of value ++ (variant_front ++ (text_of variant ++ end)))))))))
    ≡ text_of (details code reached reason value variant)
unfolding text_of escape_byte
parts code reached reason value variant = refl

-- the pieces that are added are the whole text
pub resolution_pushed : (old value : List ℕ) (r : Resolution) →
    ((((((((((old ++ code_front) ++ text_of (text_or_null (option_map code_word r.code))) ++ reached_front) ++ list_text (map reached_shape r.reached.items)) ++ reason_front) ++ text_of (text (reason_word r.reason))) ++ value_front) ++ value) ++ variant_front) ++ text_of (text_or_null (option_map string_bytes r.variant))) ++ end
    ≡ old ++ resolution_around value (resolution_view r)
resolution_pushed old value r =
    let code = text_or_null (option_map code_word r.code) in
    let reason = text (reason_word r.reason) in
    let variant = text_or_null (option_map string_bytes r.variant) in
    joined old code_front (text_of code) reached_front (list_text (map reached_shape r.reached.items)) reason_front (text_of reason) value_front value variant_front (text_of variant) end
    ∙ ap (λ l. old ++ (code_front ++ (text_of code ++ (reached_front ++ (l ++ (reason_front ++ (text_of reason ++ (value_front ++ (value ++ (variant_front ++ (text_of variant ++ end)))))))))))
    (ap list_text (reached_shapes r.reached.items) ∙ list_written (map reach_shape (map reach_view r.reached.items)))

-- around the text of its value a resolution has its own text
pub around_value : (r : Resolved) → resolution_around (text_of r.value) r ≡ resolution_text r
unfolding resolution_text
around_value r = parts (text_or_null (option_map code_word r.code)) (list (items_of (map reach_shape r.reached))) (text (reason_word r.reason)) r.value (text_or_null r.variant)
