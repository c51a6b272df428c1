-- A pass over the evaluators, and the end of all passes.
use Rattle.std.proofs.Common.{◌≡◌, ℕ, zero, suc, ◌+◌, ◌<◌, List, [], ◌∷◌, length, get_or, replicate, map, string_bytes, Option, Some, None, option_map, Bool, true, false, cond, ◌||◌, refl, sym, ap, ◌∙◌, subst, below_more, arith}
use Rattle.std.specs.Str.{bytes_eq}
use Rattle.flag_text.specs.Readers.{find_member}
use Rattle.flag_text.specs.Shape.{Shape, Members, no_members, member}
use Rattle.flag_text.specs.View.{view, members_view}
use Rattle.flag_text.proofs.Views.{Named}
use Rattle.flag_references.specs.Inlining.{replaced}
use Rattle.flag_references.specs.Measure.{measure, measured, known}
use Rattle.flag_references.specs.Table.{AreForms, Knows, KnowsAll, Learned, IsStuck, unknown_count}
use Rattle.flag_references.specs.declared.measure.Measure.{Measure}
use Rattle.flag_references.proofs.Tables.{measured-known, known-map}

-- how far a pass has come that began with this table
pub record IsPassing (first now : Learned) (learned : Bool) (i : ℕ) : Type 0 where
  pub members : now.members ≡ first.members
  pub fewer : learned ≡ true → unknown_count now.measures < unknown_count first.measures
  pub same : learned ≡ false → now.measures ≡ first.measures
  pub stuck : learned ≡ false → (k : ℕ) → k < i → IsStuck now.members now.measures k

pub IsPassing-step : (first now next : Learned) (learned new : Bool) (i : ℕ) → IsPassing first now learned i → next.members ≡ now.members
    → (new ≡ true → unknown_count next.measures + 1 ≡ unknown_count now.measures) → (new ≡ false → next.measures ≡ now.measures)
    → (new ≡ false → IsStuck now.members now.measures i) → IsPassing first next (learned || new) (i + 1)
IsPassing-step first now next true true i p members fewer same stuck = record {
  members = members ∙ p.members;
  fewer = λ e. omega (arith, p.fewer refl, fewer refl);
  same = λ e. cc;
  stuck = λ e. cc;
}
IsPassing-step first now next true false i p members fewer same stuck = record {
  members = members ∙ p.members;
  fewer = λ e. omega (arith, p.fewer refl, ap unknown_count (same refl));
  same = λ e. cc;
  stuck = λ e. cc;
}
IsPassing-step first now next false true i p members fewer same stuck = record {
  members = members ∙ p.members;
  fewer = λ e. omega (arith, fewer refl, ap unknown_count (p.same refl));
  same = λ e. cc;
  stuck = λ e. cc;
}
IsPassing-step first now next false false i p members fewer same stuck = record {
  members = members ∙ p.members;
  fewer = λ e. cc;
  same = λ e. same refl ∙ p.same refl;
  stuck = λ e.
      subst (λ ms. (k : ℕ) → k < i + 1 → IsStuck ms next.measures k) (sym members)
      (subst (λ es. (k : ℕ) → k < i + 1 → IsStuck now.members es k) (sym (same refl)) (below_more (IsStuck now.members now.measures) i (p.stuck refl) (stuck refl)));
}

-- ---- nothing is known at first

pub AreForms-none : (evaluators ms : Members) (n : ℕ) → AreForms evaluators ms (replicate n None)
AreForms-none evaluators no_members n = tt
AreForms-none evaluators (member k t ms) zero = tt
AreForms-none evaluators (member k t ms) (suc n) = (tt, AreForms-none evaluators ms n)

map-none : (n : ℕ) → map (option_map measure) (replicate n None) ≡ replicate n None
map-none zero = refl
map-none (suc n) = ap (λ es. None ∷ es) (map-none n)

pub Knows-none : (evaluators : Members) (n : ℕ) → Knows evaluators (replicate n None)
Knows-none evaluators n = record { forms = replicate n None; each = sym (map-none n); are_forms = AreForms-none evaluators evaluators n }

-- ---- when a pass has learned nothing

place_here : {A : Type 0} (b : Bool) (m : Named) (ms : List Named) (e : Option A) (es : List (Option A)) (t : Shape) (o : Option Shape) (r : Option A)
    → (o ≡ Some t → (k : ℕ) × (k < length ms) × ((d : Named) → view (get_or ms k d).1 ≡ t) × (r ≡ get_or es k None))
    → cond b (Some (view m.1)) o ≡ Some t → (k : ℕ) × (k < suc (length ms)) × ((d : Named) → view (get_or (m ∷ ms) k d).1 ≡ t) × (cond b e r ≡ get_or (e ∷ es) k None)
place_here true m ms e es t o r rest h = (0, omega arith, (λ d. cc), refl)
place_here false m ms e es t o r rest h = let f = rest h in (suc f.0, omega arith, f.2, f.3)

-- the place of an evaluator of this name, and what is known there
place_of : {A : Type 0} (ms : List Named) (es : List (Option A)) (name : List ℕ) (t : Shape) → length es ≡ length ms → find_member name (members_view ms) ≡ Some t
    → (k : ℕ) × (k < length ms) × ((d : Named) → view (get_or ms k d).1 ≡ t) × (known (members_view ms) es name ≡ get_or es k None)
place_of [] es name t each h = cc
place_of (m ∷ ms) [] name t each h = absurd (omega arith)
place_of (m ∷ ms) (e ∷ es) name t each h =
    place_here (bytes_eq (string_bytes m.0) name) m ms e es t (find_member name (members_view ms)) (known (members_view ms) es name) (place_of ms es name t (omega arith)) h

none_of : {A B : Type 0} (f : A → B) (o : Option A) → option_map f o ≡ None → o ≡ None
none_of f None e = refl
none_of f (Some x) e = cc

first_of : (ms : List Named) (k : ℕ) → k < length ms → Named
first_of [] k h = absurd (omega arith)
first_of (m ∷ ms) k h = m

pub closed_at_last : (ms : List Named) (measures : List (Option Measure)) → (k : Knows (members_view ms) measures) → length measures ≡ length ms
    → ((i : ℕ) → i < length ms → IsStuck ms measures i) → KnowsAll (members_view ms) measures
closed_at_last ms measures k each stuck = record {
  forms = k.forms;
  each = k.each;
  are_forms = k.are_forms;
  closed = λ name t found none.
      let known_none : known (members_view ms) measures name ≡ None =
      ap (λ ns. known (members_view ms) ns name) k.each ∙ (known-map measure (members_view ms) k.forms name ∙ ap (option_map measure) none) in
      let p = place_of ms measures name t each found in
      let d = first_of ms p.0 p.1 in
      let here : measured (known (members_view ms) measures) (view (get_or ms p.0 d).1) ≡ None = stuck p.0 p.1 d (sym p.3 ∙ known_none) in
      none_of measure (replaced (known (members_view ms) k.forms) t)
      (sym (measured-known (members_view ms) measures k.forms k.each t) ∙ (ap (measured (known (members_view ms) measures)) (sym (p.2 d)) ∙ here));
}
