-- Parts of a text, in private contracts alone.
use Rattle.std.specs.Prelude.{ℕ, List, [], ◌∷◌, ◌++◌, Bool, true}
use Rattle.json.specs.Print.{quoted}
use Rattle.serde_json.specs.Written.{compact_text}
use Rattle.flag_text.specs.Printing.{data_of}
use Rattle.flag_text.specs.Shape.{is_whole}
use Rattle.logic_ast.specs.Expression.{By, no_by, by}
use Rattle.logic_ast.specs.Writing.{written}

-- what stands in front of the arguments of an operation of this name
abbrev pub opened : List ℕ → List ℕ
opened name = 123 ∷ (quoted name ++ (58 ∷ 91 ∷ []))

-- the text of a bucketing expression, where there is one
abbrev pub by_piece : By → List ℕ
by_piece no_by = []
by_piece (by e) = compact_text (data_of (written e))

abbrev pub by_is_whole : By → Bool
by_is_whole no_by = true
by_is_whole (by e) = is_whole (written e)
