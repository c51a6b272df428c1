-- Tables of forms: what they say of a name, and of a tree.
use Rattle.std.proofs.Common.{◌≡◌, ℕ, zero, suc, ◌<◌, List, [], ◌∷◌, length, get_or, set, map, Option, Some, None, option_map, Bool, true, false, cond, refl, sym, ap, ◌∙◌, arith}
use Rattle.std.specs.Prelude.{IfSome}
use Rattle.std.specs.Str.{bytes_eq}
use Rattle.std.proofs.lemmas.List.{map-set}
use Rattle.flag_text.specs.Readers.{find_member}
use Rattle.flag_text.specs.Shape.{Shape, Members, no_members, member}
use Rattle.flag_text.specs.View.{view, members_view}
use Rattle.flag_text.proofs.Views.{Named}
use Rattle.flag_references.specs.Inlining.{replaced, IsInlined}
use Rattle.flag_references.specs.Measure.{measure, measured, known}
use Rattle.flag_references.specs.Table.{AreForms, Knows}
use Rattle.flag_references.specs.declared.measure.Measure.{Measure}
use Rattle.flag_references.proofs.Inlined.{map_some}
use Rattle.flag_references.proofs.Measures.{measured-replaced}
use Rattle.flag_references.proofs.Standing.{Stands, inlined-replaced}

-- what is known of a name is the measure of its form
known-map_at : {A B : Type 0} (f : A → B) (b : Bool) (x y : Option A) → cond b (option_map f x) (option_map f y) ≡ option_map f (cond b x y)
known-map_at f true x y = refl
known-map_at f false x y = refl

pub known-map : {A B : Type 0} (f : A → B) (ms : Members) (es : List (Option A)) (name : List ℕ) → known ms (map (option_map f) es) name ≡ option_map f (known ms es name)
known-map f no_members es name = refl
known-map f (member k t ms) [] name = refl
known-map f (member k t ms) (e ∷ es) name =
    ap (cond (bytes_eq k name) (option_map f e)) (known-map f ms es name) ∙ known-map_at f (bytes_eq k name) e (known ms es name)

found_here : (evaluators : Members) (b : Bool) (t : Shape) (e o : Option Shape) (p : Option Shape) (v : Shape) → IfSome e (λ u. IsInlined evaluators t u)
    → (o ≡ Some v → (x : Shape) × (p ≡ Some x) × IsInlined evaluators x v)
    → cond b e o ≡ Some v → (x : Shape) × (cond b (Some t) p ≡ Some x) × IsInlined evaluators x v
found_here evaluators true t None o p v form rest h = cc
found_here evaluators true t (Some u) o p v form rest h = let same : u ≡ v = cc in (t, refl, (form.0, form.1 ∙ ap Some same))
found_here evaluators false t e o p v form rest h = rest h

are_forms_stand : (evaluators ms : Members) (es : List (Option Shape)) → AreForms evaluators ms es → (name : List ℕ) (v : Shape)
    → known ms es name ≡ Some v → (x : Shape) × (find_member name ms ≡ Some x) × IsInlined evaluators x v
are_forms_stand evaluators no_members es forms name v h = cc
are_forms_stand evaluators (member k t ms) [] forms name v h = cc
are_forms_stand evaluators (member k t ms) (e ∷ es) forms name v h =
    found_here evaluators (bytes_eq k name) t e (known ms es name) (find_member name ms) v forms.0 (λ g. are_forms_stand evaluators ms es forms.1 name v g) h

-- the names of a table of forms stand for them
pub stands : (evaluators : Members) (es : List (Option Shape)) → AreForms evaluators evaluators es → Stands evaluators (known evaluators es)
stands evaluators es forms name v h = are_forms_stand evaluators evaluators es forms name v h

-- one more form, at its place
pub AreForms-set : (evaluators : Members) (ms : List Named) (es : List (Option Shape)) (i : ℕ) (d : Named) (u : Shape) → AreForms evaluators (members_view ms) es → i < length ms
    → IsInlined evaluators (view (get_or ms i d).1) u → AreForms evaluators (members_view ms) (set es i (Some u))
AreForms-set evaluators [] es i d u forms h form = absurd (omega arith)
AreForms-set evaluators (m ∷ ms) [] i d u forms h form = tt
AreForms-set evaluators (m ∷ ms) (e ∷ es) zero d u forms h form = (form, forms.1)
AreForms-set evaluators (m ∷ ms) (e ∷ es) (suc i) d u forms h form = (forms.0, AreForms-set evaluators ms es i d u forms.1 (omega arith) form)

-- what is measured over a table is the measure of what is replaced over its forms
pub measured-known : (evaluators : Members) (measures : List (Option Measure)) (es : List (Option Shape)) → measures ≡ map (option_map measure) es → (t : Shape)
    → measured (known evaluators measures) t ≡ option_map measure (replaced (known evaluators es) t)
measured-known evaluators measures es each t =
    measured-replaced (known evaluators measures) (known evaluators es) (λ name. ap (λ ns. known evaluators ns name) each ∙ known-map measure evaluators es name) t

-- a measure that is found belongs to a form
pub form_of : (evaluators : Members) (measures : List (Option Measure)) → (k : Knows evaluators measures) → (t : Shape) (m : Measure) → measured (known evaluators measures) t ≡ Some m
    → (u : Shape) × (replaced (known evaluators k.forms) t ≡ Some u) × IsInlined evaluators t u × (measure u ≡ m)
form_of evaluators measures k t m h =
    let f = map_some measure (replaced (known evaluators k.forms) t) m (sym (measured-known evaluators measures k.forms k.each t) ∙ h) in
    (f.0, f.1, inlined-replaced evaluators (known evaluators k.forms) (stands evaluators k.forms k.are_forms) t f.0 f.1, f.2)

-- one more measure of a form
pub Knows-set : (ms : List Named) (measures : List (Option Measure)) → Knows (members_view ms) measures → (i : ℕ) (d : Named) (m : Measure) → i < length ms
    → measured (known (members_view ms) measures) (view (get_or ms i d).1) ≡ Some m → Knows (members_view ms) (set measures i (Some m))
Knows-set ms measures k i d m h found =
    let f = form_of (members_view ms) measures k (view (get_or ms i d).1) m found in record {
      forms = set k.forms i (Some f.0);
      each = ap (λ ns. set ns i (Some m)) k.each ∙ (ap (λ x. set (map (option_map measure) k.forms) i (Some x)) (sym f.3) ∙ sym (map-set (option_map measure) k.forms i (Some f.0)));
      are_forms = AreForms-set (members_view ms) ms k.forms i d f.0 k.are_forms h f.2;
    }
