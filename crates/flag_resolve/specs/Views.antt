-- What the types of this crate are seen as.
use Rattle.std.specs.Prelude.{ℕ, List, map, option_map, string_bytes}
use Rattle.flag_text.specs.Shape.{Shape}
use Rattle.flag_text.specs.View.{view}
use Rattle.logic_eval.specs.Views.{reach_view}
use Rattle.logic_eval.specs.declared.meter.Reached.{Reached}
use Rattle.flag_resolve.specs.Printing.{reach_shape}
use Rattle.flag_resolve.specs.Resolution as resolution
use Rattle.flag_resolve.specs.Resolved.{Resolved}
use Rattle.flag_resolve.specs.declared.asked.Asked.{Asked}
use Rattle.flag_resolve.specs.declared.asked.Variant.{Variant}
use Rattle.flag_resolve.specs.declared.resolution.Resolution.{Resolution}

-- what the caller asks for
abbrev pub asked_view : Asked → resolution.Asked
asked_view a = record { want = a.want; default = view a.default.now }

-- a variant's name and value
abbrev pub variant_view : Variant → List ℕ × Shape
variant_view v = (v.name.now, view v.value.now)

-- a resolution, without where its parts lie in memory
abbrev pub resolution_view : Resolution → Resolved
resolution_view r = record {
  value = view r.value;
  variant = option_map string_bytes r.variant;
  reason = r.reason;
  code = r.code;
  reached = map reach_view r.reached.items;
}

-- a reached site as it is printed
abbrev pub reached_shape : Reached → Shape
reached_shape r = reach_shape (reach_view r)
