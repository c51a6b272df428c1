-- What a desk goes by.
use Rattle.std.specs.Prelude.{ℕ, List, map, Option, option_map, string_bytes}
use Rattle.control_desk.specs.declared.rules.DeskRules as program

-- the folder of the logs, where they are kept, the paths of the documents, and that of the document to which plans may be applied, where they may be
pub record Rules : Type 0 where
  pub folder : Option (List ℕ)
  pub documents : List (List ℕ)
  pub applied_to : Option (List ℕ)

abbrev pub rules_view : program.DeskRules → Rules
rules_view r = record { folder = option_map string_bytes r.folder; documents = map string_bytes r.documents.items; applied_to = option_map string_bytes r.applied_to }
