-- The bodies of answers (OpenFeature Remote Evaluation Protocol: serverEvaluationSuccess, evaluationFailure, flagNotFound, bulkEvaluationSuccess, bulkEvaluationFailure).
use Rattle.std.specs.Prelude.{ℕ, Bool, List, [], ◌∷◌, ◌++◌, codes, Option, Some, None}
use Rattle.flag_resolve.specs.Words.{code_word, reason_word}
use Rattle.flag_resolve.specs.declared.code.Code.{Code}
use Rattle.flag_resolve.specs.declared.reason.Reason.{Reason}
use Rattle.flag_defs.specs.Spelled.{value_spelled}
use Rattle.flag_text.specs.Printing.{text_of}
use Rattle.flag_text.specs.Shape.{Shape, text, list, object, Members, no_members, member}
use Rattle.flag_text.specs.View.{items_of}

-- {"key":..,"metadata":{},"reason":..,"value":..,"variant":..}: a variant of the flag, and why
abbrev pub success : List ℕ → Reason → Shape → List ℕ → Shape
success key reason value variant =
    object (member (codes "key") (text key) (member (codes "metadata") (object no_members) (member (codes "reason") (text (reason_word reason))
    (member (codes "value") value (member (codes "variant") (text variant) no_members)))))

-- the member of a key, where the failure is of one flag
abbrev pub key_member : Option (List ℕ) → Members
key_member None = no_members
key_member (Some key) = member (codes "key") (text key) no_members

-- {"errorCode":..,"errorDetails":..,"key":..}: what failed; without the key, where every flag was asked for
abbrev pub failure : Option (List ℕ) → Code → List ℕ → Shape
failure key code details =
    object (member (codes "errorCode") (text (code_word code)) (member (codes "errorDetails") (text details) (key_member key)))

-- {"flags":[..]}
abbrev pub flags_shape : List Shape → Shape
flags_shape bodies = object (member (codes "flags") (list (items_of bodies)) no_members)

-- ---- their texts

-- of a variant's body with metadata, of which the text is given, where the value may stand as a text that is its spelling
abbrev pub success_text : Bool → List ℕ → List ℕ → Reason → Shape → List ℕ → List ℕ
success_text spelled metadata key reason value variant =
    codes "{\"key\":" ++ (text_of (text key) ++ (codes ",\"metadata\":" ++ (metadata ++ (codes ",\"reason\":" ++ (text_of (text (reason_word reason)) ++ (codes ",\"value\":" ++ (value_spelled spelled value
    ++ (codes ",\"variant\":" ++ (text_of (text variant) ++ codes "}")))))))))

-- what follows the bodies in the text of all: the text of the metadata, where there is some
abbrev pub end_text : Option (List ℕ) → List ℕ
end_text None = codes "]}"
end_text (Some metadata) = codes "],\"metadata\":" ++ (metadata ++ codes "}")

-- what follows the first body
abbrev pub others_text : Option (List ℕ) → List (List ℕ) → List ℕ
others_text metadata [] = end_text metadata
others_text metadata (b ∷ bs) = codes "," ++ (b ++ others_text metadata bs)

-- of all bodies, from their texts, and perhaps metadata
abbrev pub flags_text : Option (List ℕ) → List (List ℕ) → List ℕ
flags_text metadata [] = codes "{\"flags\":[" ++ end_text metadata
flags_text metadata (b ∷ bs) = codes "{\"flags\":[" ++ (b ++ others_text metadata bs)
