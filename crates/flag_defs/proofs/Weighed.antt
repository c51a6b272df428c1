-- What a targeting is, by the tree at the end of its references and the measure of its form.
use Rattle.std.proofs.Common.{◌≡◌, ◌≤◌, ℕ, List, [], ◌∷◌, length, Vec, Global, vec_len, ◌==◌, Bool, true, false, not, ◌&&◌, cond, Option, Some, None, option_map, Result, Ok, Err, refl, sym, ap, ◌∙◌, subst, arith}
use Rattle.std.specs.Prelude.{is_ok}
use Rattle.std.specs.Result.{result_ok}
use Rattle.flag_text.proofs.Views.{Named}
use Rattle.flag_text.specs.View.{view, members_view}
use Rattle.flag_text.specs.declared.tree.Tree.TheVariants as variant
use Rattle.logic_ast.proofs.Trees.{view-object}
use Rattle.std.proofs.lemmas.Bool.{ne_eqb}
use Rattle.flag_text.specs.Shape.{Shape, null, boolean, whole, other, text, list, object, Members, no_members, member, is_tidy, is_whole, members_are_tidy}
use Rattle.logic_ast.specs.Expression.{Expression}
use Rattle.logic_ast.specs.FirstFault.{expression_fault}
use Rattle.logic_ast.specs.Reading.{expression_from, unless, reading}
use Rattle.logic_ast.specs.Size.{is_too_big}
use Rattle.logic_ast.specs.Writing.{written}
use Rattle.logic_ast.specs.declared.fault.LogicFault.{LogicFault}
use Rattle.logic_ast.specs.declared.fault.LogicFault.TheVariants.{TooBig}
use Rattle.flag_defs.specs.Definition.{read_targeting, targeting_of}
use Rattle.flag_references.specs.Inlining.{has_reference, replaced, members_replaced, IsInlined}
use Rattle.flag_references.specs.Least.{least}
use Rattle.flag_references.specs.Measure.{capped, measure}
use Rattle.flag_references.specs.Readable.{reads, is_readable}
use Rattle.flag_references.specs.Table.{IsEndOf}
use Rattle.flag_defs.specs.Targeting.{IsForecast, end_forecast, is_nothing}
use Rattle.flag_references.specs.declared.measure.Measure.{Measure}
use Rattle.flag_defs.specs.declared.forecast.Forecast.{Forecast}
use Rattle.flag_defs.specs.declared.forecast.Forecast.TheVariants.{Broken, Without, With}
use Rattle.flag_references.proofs.Expansions.{object-form}
use Rattle.flag_references.proofs.Inlined.{map_some, and_then_some, one_form}
use Rattle.flag_references.proofs.Least.{bytes-counted, bytes-least}
use Rattle.flag_references.proofs.Longer.{longer}
use Rattle.flag_references.proofs.Readable.{reads-readable}
use Rattle.flag_references.proofs.Standing.{refer_at, inlined-is}
use Rattle.flag_references.proofs.Tidy.{form-tidy}

-- ---- what is read

-- of a tree that is read: within the limits, without a fault
pub record IsRead (t : Shape) (e : Expression) : Type 0 where
  pub fits : is_too_big t ≡ false
  pub sound : expression_fault t ≡ None
  pub same : expression_from 0 t ≡ e

is_read_at : (t : Shape) (e : Expression) (b : Bool) (o : Option LogicFault) → is_too_big t ≡ b → expression_fault t ≡ o → cond b (Err TooBig) (unless o (expression_from 0 t)) ≡ Ok e → IsRead t e
is_read_at t e true o p q h = cc
is_read_at t e false (Some f) p q h = cc
is_read_at t e false None p q h = record { fits = p; sound = q; same = cc }

pub is_read : (t : Shape) (e : Expression) → reading t ≡ Ok e → IsRead t e
is_read t e h = is_read_at t e (is_too_big t) (expression_fault t) refl refl h

-- what is written for it has as many bytes as are counted, or more
pub bytes-written : (t : Shape) (e : Expression) → reading t ≡ Ok e → (measure t).bytes ≤ least (written e)
bytes-written t e h =
    let r = is_read t e h in
    subst (λ x. (measure t).bytes ≤ least (written x)) r.same (omega (arith, bytes-least t, longer 0 t r.sound))

-- ---- the kinds of a form

broken : (evaluators : Members) (t u : Shape) → IsInlined evaluators t u → targeting_of u ≡ None → IsForecast evaluators t Broken
broken evaluators t u p none e h = let some = sym none ∙ (ap targeting_of (one_form evaluators t u h.0 p h.1) ∙ h.2) in cc

-- the form of a tree that is no reference is replaced in its parts alone
form_at : (evaluators : Members) (t h u : Shape) (end : IsEndOf evaluators t h) (p : IsInlined evaluators t u) → replaced (refer_at evaluators (end.same u p).0) h ≡ Some u
form_at evaluators t h u end p = sym (inlined-is evaluators (end.same u p).0 h) ∙ (end.same u p).1

itself : (evaluators : Members) (t s u : Shape) → IsInlined evaluators t u → Some s ≡ Some u → IsInlined evaluators t s
itself evaluators t s u p e = let same : u ≡ s = cc in subst (IsInlined evaluators t) same p

other_kind : (evaluators : Members) (t s u : Shape) → IsInlined evaluators t u → Some s ≡ Some u → targeting_of s ≡ None → IsForecast evaluators t Broken
other_kind evaluators t s u p e none = broken evaluators t s (itself evaluators t s u p e) none

-- ---- objects

read_none : (b : Bool) (r : Result Expression LogicFault) → (b && is_ok r) ≡ false → cond b (option_map Some (result_ok r)) None ≡ None
read_none true (Ok e) h = cc
read_none true (Err f) h = refl
read_none false r h = refl

pub read_some : (b : Bool) (r : Result Expression LogicFault) → (b && is_ok r) ≡ true → (b ≡ true) × (e : Expression) × (r ≡ Ok e) × (cond b (option_map Some (result_ok r)) None ≡ Some (Some e))
read_some true (Ok e) h = (refl, e, refl, refl)
read_some true (Err f) h = cc
read_some false r h = cc

object_forecast : (evaluators : Members) (t u : Shape) (m : Measure) (b : Bool) → IsInlined evaluators t u → measure u ≡ m → targeting_of u ≡ read_targeting u → is_readable u ≡ b
    → IsForecast evaluators t (cond b (With m.bytes) Broken)
object_forecast evaluators t u m true p same kind h =
    let r = read_some (is_whole u && not (has_reference u)) (reading u) h in
    let few = bytes-written u r.1 r.2 in (
      r.1,
      (u, p, kind ∙ r.3),
      subst (λ x. x.bytes ≤ least (written r.1)) same few,
      λ v q. ap (λ x. x.bytes) (sym same) ∙ (bytes-counted u ∙ ap (λ x. capped (least x)) (one_form evaluators t u v p q)),
    )
object_forecast evaluators t u m false p same kind h = broken evaluators t u p (kind ∙ read_none (is_whole u && not (has_reference u)) (reading u) h)

-- what has a member still has one
object_kind : (r : List ℕ → Option Shape) (k : List ℕ) (x : Shape) (ms : Members) (u : Shape) (ns : Members) → members_replaced r (member k x ms) ≡ Some ns → object ns ≡ u → targeting_of u ≡ read_targeting u
object_kind r k x ms u ns e same =
    let a = and_then_some (λ v. option_map (member k v) (members_replaced r ms)) (replaced r x) ns e in
    let b = map_some (member k a.0) (members_replaced r ms) ns a.2 in
    let is : object (member k a.0 b.0) ≡ u = ap object b.2 ∙ same in
    subst (λ v. targeting_of v ≡ read_targeting v) is refl

pub forecast_of_end : (evaluators : Members) (t h u : Shape) (m : Measure) → IsEndOf evaluators t h → IsInlined evaluators t u → measure u ≡ m → is_tidy u ≡ true → IsForecast evaluators t (end_forecast h m)
forecast_of_end evaluators t null u m end p same tidy = (null, itself evaluators t null u p (form_at evaluators t null u end p), refl)
forecast_of_end evaluators t (boolean b) u m end p same tidy = other_kind evaluators t (boolean b) u p (form_at evaluators t (boolean b) u end p) refl
forecast_of_end evaluators t (whole n) u m end p same tidy = other_kind evaluators t (whole n) u p (form_at evaluators t (whole n) u end p) refl
forecast_of_end evaluators t other u m end p same tidy = other_kind evaluators t other u p (form_at evaluators t other u end p) refl
forecast_of_end evaluators t (text x) u m end p same tidy = other_kind evaluators t (text x) u p (form_at evaluators t (text x) u end p) refl
forecast_of_end evaluators t (list ts) u m end p same tidy =
    let k = map_some list _ u (form_at evaluators t (list ts) u end p) in broken evaluators t u p (ap targeting_of (sym k.2))
forecast_of_end evaluators t (object no_members) u m end p same tidy =
    (object no_members, itself evaluators t (object no_members) u p (form_at evaluators t (object no_members) u end p), refl)
forecast_of_end evaluators t (object (member k x ms)) u m end p same tidy =
    let q = end.same u p in
    let form = object-form evaluators q.0 (member k x ms) u end.ends q.1 in
    object_forecast evaluators t u m (reads m) p same (object_kind (refer_at evaluators q.0) k x ms u form.0 form.1 form.2) (sym (reads-readable u tidy) ∙ ap reads same)

-- the same where the measure comes from a table
pub forecast_told : (evaluators : Members) (t h : Shape) (m : Measure) (w : Forecast) → members_are_tidy evaluators ≡ true → is_tidy t ≡ true → IsEndOf evaluators t h
    → ((u : Shape) × IsInlined evaluators t u × (measure u ≡ m)) → w ≡ end_forecast h m → IsForecast evaluators t w
forecast_told evaluators t h m w all tidy end f is =
    subst (IsForecast evaluators t) (sym is) (forecast_of_end evaluators t h f.0 m end f.1 f.2 (form-tidy evaluators all t f.0 tidy f.1))

-- where there is no form, the flag is broken
pub forecast_none : (evaluators : Members) (t : Shape) → ((u : Shape) → ¬ IsInlined evaluators t u) → IsForecast evaluators t Broken
forecast_none evaluators t never e h = never h.0 h.1

-- an object without members is no targeting
empty-members : (ms : List Named) → (length ms == 0) ≡ is_nothing (object (members_view ms))
empty-members [] = refl
empty-members (m ∷ ms) = ne_eqb (length (m ∷ ms)) 0 (λ e. omega arith)

pub empty-object : (v : Vec Named Global) → (vec_len v == 0) ≡ is_nothing (view (variant.Object v))
empty-object v = let n : vec_len v ≡ length v.items = omega (arith, v.ok.0) in ap (λ k. k == 0) n ∙ (empty-members v.items ∙ ap is_nothing (sym (view-object v)))

-- an absent targeting is none
pub forecast_absent : (evaluators : Members) → IsForecast evaluators null Without
forecast_absent evaluators = (null, (0, refl), refl)
