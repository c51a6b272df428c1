-- The trees that are read as an expression once no reference is left, and what their measures are.
use Rattle.std.specs.Prelude.{Bool, not, ◌&&◌, nat_le, is_ok}
use Rattle.flag_text.specs.Shape.{Shape, is_whole}
use Rattle.logic_ast.specs.Reading.{reading}
use Rattle.logic_ast.specs.Size.{max_nodes, max_levels}
use Rattle.flag_references.specs.Inlining.{has_reference}
use Rattle.flag_references.specs.declared.measure.Measure.{Measure}
use Rattle.flag_references.specs.declared.measure.Reading.{Reading}

-- all its numbers are whole, no reference is left in it, and it is read as an expression
abbrev pub is_readable : Shape → Bool
is_readable t = (is_whole t && not (has_reference t)) && is_ok (reading t)

abbrev pub is_within : Reading → Bool
is_within r = nat_le r.nodes max_nodes && nat_le r.levels max_levels

abbrev pub reads : Measure → Bool
reads m = m.full.is_sound && (is_within m.expression && m.expression.is_sound)
