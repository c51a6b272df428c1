-- What is foreseen of definitions, one by one and together.
use Rattle.std.proofs.Common.{◌≡◌, ◌<◌, ℕ, zero, suc, List, [], ◌∷◌, ◌++◌, length, get_or, codes, Some, None, refl, sym, ap, subst, arith}
use Rattle.flag_text.specs.Readers.{as_object}
use Rattle.flag_text.specs.Shape.{Shape, object, Members}
use Rattle.flag_text.specs.View.{view, members_view}
use Rattle.flag_text.proofs.Views.{Named}
use Rattle.flag_defs.specs.Definition.{or_null}
use Rattle.flag_defs.specs.Foreseen.{forecast_bytes, Decides, Foresees, AllForesee, least_sum}
use Rattle.flag_defs.specs.Outline.{Outline, outline_of}
use Rattle.flag_defs.specs.Targeting.{IsForecast, IsGoodTargeting}
use Rattle.flag_defs.specs.Weighing.{AllTake, targeting_member}
use Rattle.flag_defs.specs.declared.forecast.Forecast.{Forecast}
use Rattle.flag_defs.specs.declared.forecast.Forecast.TheVariants as forecast
use Rattle.flag_defs.proofs.Counted.{is_object}
use Rattle.flag_defs.proofs.Meant.{forecast-takes, none-takes, not_object, not_object-takes}
use Rattle.flag_defs.proofs.Outlines.{found, broken_outline, broken_targeting}

-- ---- one definition

decided : (evaluators ms : Members) (w : Forecast) → IsForecast evaluators (or_null (found (codes "targeting") ms)) w → Decides evaluators (object ms) w
decided evaluators ms forecast.Broken w = broken_targeting evaluators ms w
decided evaluators ms forecast.Without w = (None, w)
decided evaluators ms (forecast.With n) w = (Some w.0, w.1)

pub outlined-foreseen : (evaluators ms : Members) (o : Outline) (w : Forecast) → outline_of ms ≡ Some o → IsForecast evaluators (or_null (found (codes "targeting") ms)) w → Foresees evaluators (object ms) w
outlined-foreseen evaluators ms o w h f = (forecast-takes evaluators ms o w h f, decided evaluators ms w f)

pub none-foreseen : (evaluators ms : Members) → outline_of ms ≡ None → Foresees evaluators (object ms) forecast.Broken
none-foreseen evaluators ms h = (none-takes evaluators ms h, broken_outline evaluators ms h)

pub not_object-foreseen : (evaluators : Members) (t : Shape) → as_object t ≡ None → Foresees evaluators t forecast.Broken
not_object-foreseen evaluators t h = (not_object-takes evaluators t h, not_object evaluators t h)

pub object-foreseen : (evaluators : Members) (t : Shape) (ms : Members) (w : Forecast) → as_object t ≡ Some ms → Foresees evaluators (object ms) w → Foresees evaluators t w
object-foreseen evaluators t ms w is h = subst (λ x. Foresees evaluators x w) (sym (is_object t ms is)) h

pub foreseen-object : (evaluators : Members) (t : Shape) (ms : Members) (w : Forecast) → as_object t ≡ Some ms → Foresees evaluators t w → Foresees evaluators (object ms) w
foreseen-object evaluators t ms w is h = subst (λ x. Foresees evaluators x w) (is_object t ms is) h

pub good_foreseen : (evaluators : Members) (t : Shape) (w : Forecast) → (w ≡ forecast.Broken → ⊥) → Foresees evaluators t w → IsGoodTargeting evaluators (targeting_member t)
good_foreseen evaluators t forecast.Broken n h = absurd (n refl)
good_foreseen evaluators t forecast.Without n h = h.1
good_foreseen evaluators t (forecast.With k) n h = h.1

-- ---- all definitions

pub all_foreseen_push : (evaluators : Members) (ms : List Named) (m : Named) (ws : List Forecast) (w : Forecast) → AllForesee evaluators (members_view ms) ws → Foresees evaluators (view m.1) w
    → AllForesee evaluators (members_view (ms ++ m ∷ [])) (ws ++ w ∷ [])
all_foreseen_push evaluators [] m [] w a h = (h, tt)
all_foreseen_push evaluators [] m (v ∷ ws) w a h = absurd a
all_foreseen_push evaluators (n ∷ ms) m [] w a h = absurd a
all_foreseen_push evaluators (n ∷ ms) m (v ∷ ws) w a h = (a.0, all_foreseen_push evaluators ms m ws w a.1 h)

all_foreseen-take : (evaluators : Members) (ms : List Named) (ws : List Forecast) → AllForesee evaluators (members_view ms) ws → AllTake evaluators (members_view ms) (least_sum ws)
all_foreseen-take evaluators [] [] a = refl
all_foreseen-take evaluators [] (w ∷ ws) a = absurd a
all_foreseen-take evaluators (m ∷ ms) [] a = absurd a
all_foreseen-take evaluators (m ∷ ms) (w ∷ ws) a = (forecast_bytes w, least_sum ws, a.0.0, all_foreseen-take evaluators ms ws a.1, refl)

pub summed-take : (evaluators : Members) (ms : List Named) (ws : List Forecast) (n : ℕ) → n ≡ least_sum ws → AllForesee evaluators (members_view ms) ws → AllTake evaluators (members_view ms) n
summed-take evaluators ms ws n is a = subst (AllTake evaluators (members_view ms)) (sym is) (all_foreseen-take evaluators ms ws a)

pub all_foreseen-length : (evaluators : Members) (ms : List Named) (ws : List Forecast) → AllForesee evaluators (members_view ms) ws → length ws ≡ length ms
all_foreseen-length evaluators [] [] a = refl
all_foreseen-length evaluators [] (w ∷ ws) a = absurd a
all_foreseen-length evaluators (m ∷ ms) [] a = absurd a
all_foreseen-length evaluators (m ∷ ms) (w ∷ ws) a = ap suc (all_foreseen-length evaluators ms ws a.1)

pub foreseen_at : (evaluators : Members) (ms : List Named) (ws : List Forecast) (i : ℕ) (d : Named) (e : Forecast) → i < length ms → AllForesee evaluators (members_view ms) ws
    → Foresees evaluators (view (get_or ms i d).1) (get_or ws i e)
foreseen_at evaluators [] ws i d e h a = absurd (omega arith)
foreseen_at evaluators (m ∷ ms) [] i d e h a = absurd a
foreseen_at evaluators (m ∷ ms) (w ∷ ws) zero d e h a = a.0
foreseen_at evaluators (m ∷ ms) (w ∷ ws) (suc i) d e h a = foreseen_at evaluators ms ws i d e (omega arith) a.1
