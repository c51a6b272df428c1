-- A loop over definitions and what is foreseen of them, side by side.
use Rattle.std.proofs.Common.{◌≡◌, ◌<◌, ◌≤◌, List, length, get_or, Option, Some, None, ap, ◌∙◌, arith}
use Rattle.std.specs.Iterator.{Yields}
use Rattle.std.specs.Iterator.Adapters.{zip_first, zip_second}
use Rattle.std.specs.List.{zip}
use Rattle.std.specs.Vec.Iter.{into_iter_items, into_iter_len, into_iter_steps}
use Rattle.std.specs.declared.alloc.Global.{Global}
use Rattle.std.specs.declared.iter.Zip.{Zip}
use Rattle.std.specs.declared.vec.IntoIter.{IntoIter}
use Rattle.std.proofs.lemmas.Iterator.{YieldsList, YieldsList-from_zip, zips}
use Rattle.std.proofs.lemmas.Iterator.Adapters.{YieldsList-from_vec}
use Rattle.std.proofs.lemmas.Iterator.Consumers.{YieldsList-turn, YieldsList-end}
use Rattle.std.proofs.lemmas.Slice.Zip.{length-zip, get_or-zip}
use Rattle.flag_text.specs.View.{members_view}
use Rattle.flag_text.specs.Shape.{Members}
use Rattle.flag_text.proofs.Views.{Named}
use Rattle.flag_defs.specs.Foreseen.{AllForesee}
use Rattle.flag_defs.specs.declared.forecast.Forecast.{Forecast}
use Rattle.flag_defs.proofs.Foreseen.{all_foreseen-length}

abbrev pub Pair : Type 0
Pair = Named × Forecast

abbrev pub Turns : Type 0
Turns = Zip (IntoIter Named Global) (IntoIter Forecast Global)

abbrev pub next : Turns → Option Pair → Turns → Type 0
next = zips into_iter_steps into_iter_steps

-- the turns of a loop over both begin here
pub record BeginAt (s : Turns) (ds : List Named) (ws : List Forecast) : Type 0 where
  pub definitions : into_iter_items (zip_first s) ≡ ds
  pub definitions_count : into_iter_len (zip_first s) ≡ length ds
  pub forecasts : into_iter_items (zip_second s) ≡ ws
  pub forecasts_count : into_iter_len (zip_second s) ≡ length ws

module _ (s : Turns) (ds : List Named) (ws : List Forecast) (begin : BeginAt s ds ws) (ys : List Pair) (t u : Turns) (led : Yields next s ys t) (r : Option Pair) (step : next t r u) where
  road : YieldsList next (λ (p : Pair). (p.0, p.1)) s (zip ds ws)
  road = YieldsList-from_zip (YieldsList-from_vec {s = zip_first s} ds begin.definitions begin.definitions_count) (YieldsList-from_vec {s = zip_second s} ws begin.forecasts begin.forecasts_count)

  -- this turn's definition and forecast are the next of both
  pub paired_turn : (p : Pair) → r ≡ Some p → (length ys < length ds) × (p.0 ≡ get_or ds (length ys) p.0) × (p.1 ≡ get_or ws (length ys) p.1)
  paired_turn p is =
      let turn = YieldsList-turn road ys t led r u p is step in
      let i = length ys in
      let inside : i < length ds = omega (arith, turn.0, length-zip ds ws) in
      let inside_too : i < length ws = omega (arith, turn.0, length-zip ds ws) in
      let same : p ≡ (get_or ds i p.0, get_or ws i p.1) = turn.1 ∙ get_or-zip ds ws i p inside inside_too in
      (inside, ap (λ (q : Pair). q.0) same, ap (λ (q : Pair). q.1) same)

  -- at the end all definitions have had their turn
  pub paired_end : (evaluators : Members) → AllForesee evaluators (members_view ds) ws → r ≡ None → length ds ≤ length ys
  paired_end evaluators foreseen is =
      let end = YieldsList-end road ys t led r u is step in
      omega (arith, end.1, length-zip ds ws, all_foreseen-length evaluators ds ws foreseen)
