-- The ends of chains of references.
use Rattle.std.proofs.Common.{◌≡◌, ◌≢◌, ℕ, zero, suc, ◌<◌, List, [], ◌∷◌, length, get_or, set, string_bytes, Option, Some, None, true, replicate, option_and_then, refl, sym, ap, ◌∙◌, subst, inl, inr, arith}
use Rattle.std.specs.Prelude.{is_some}
use Rattle.std.proofs.lemmas.Bool.{cases_eq}
use Rattle.std.proofs.lemmas.List.{get_or-set_same, get_or-set_other, length-set}
use Rattle.flag_text.specs.Readers.{find_member}
use Rattle.flag_text.specs.Shape.{Shape, null, boolean, whole, other, text, list, object, Members, names_rise}
use Rattle.flag_text.specs.View.{view, members_view}
use Rattle.flag_text.proofs.Views.{Named}
use Rattle.flag_references.specs.Inlining.{reference_of, reference_in, by_reference, members_replaced, inlined, IsInlined}
use Rattle.flag_references.specs.Measure.{measured, object_measured, referred, known}
use Rattle.flag_references.specs.Table.{IsHead, AreHeads, IsEndOf}
use Rattle.flag_references.specs.declared.measure.Measure.{Measure}
use Rattle.flag_references.proofs.Known.{known_at, known-absent}

pub any_default : {A : Type 0} (ms : List A) (i : ℕ) (d e : A) → i < length ms → get_or ms i d ≡ get_or ms i e
any_default [] i d e h = absurd (omega arith)
any_default (m ∷ ms) zero d e h = refl
any_default (m ∷ ms) (suc i) d e h = any_default ms i d e (omega arith)

-- an evaluator that is no reference is its own head
pub head_here : (ms : List Named) (i : ℕ) (m : Named) → i < length ms → get_or ms i m ≡ m → reference_in (view m.1) ≡ None → IsHead ms i i
head_here ms i m h is e = record {
  within = h;
  ends = λ d. ap (λ x. reference_in (view x.1)) (any_default ms i d m h ∙ is) ∙ e;
  same = λ d x u p. (p.0, ap (λ y. inlined p.0 (members_view ms) (view y.1)) (any_default ms i x d h) ∙ p.1);
}

-- what is known of a reference is what is known of its name
measured-reference : (refer : List ℕ → Option Measure) (t : Shape) (name : List ℕ) → reference_in t ≡ Some name → measured refer t ≡ refer name
measured-reference refer null name h = cc
measured-reference refer (boolean b) name h = cc
measured-reference refer (whole n) name h = cc
measured-reference refer other name h = cc
measured-reference refer (text x) name h = cc
measured-reference refer (list ts) name h = cc
measured-reference refer (object ms) name h = ap (λ o. referred refer o (object_measured refer ms)) h

inlined-reference_at : (evaluators : Members) (n : ℕ) (ms : Members) (name : List ℕ) (v u : Shape) → reference_of ms ≡ Some name → find_member name evaluators ≡ Some v
    → inlined n evaluators (object ms) ≡ Some u → IsInlined evaluators v u
inlined-reference_at evaluators zero ms name v u h f e =
    let none : by_reference (λ x. None) (Some name) (members_replaced (λ x. None) ms) ≡ Some u = ap (λ o. by_reference (λ x. None) o (members_replaced (λ x. None) ms)) (sym h) ∙ e in cc
inlined-reference_at evaluators (suc n) ms name v u h f e =
    let refer : List ℕ → Option Shape = λ x. option_and_then (inlined n evaluators) (find_member x evaluators) in
    (n, ap (option_and_then (inlined n evaluators)) (sym f) ∙ (ap (λ o. by_reference refer o (members_replaced refer ms)) (sym h) ∙ e))

inlined-reference : (evaluators : Members) (n : ℕ) (t : Shape) (name : List ℕ) (v u : Shape) → reference_in t ≡ Some name → find_member name evaluators ≡ Some v
    → inlined n evaluators t ≡ Some u → IsInlined evaluators v u
inlined-reference evaluators n null name v u h f e = cc
inlined-reference evaluators n (boolean b) name v u h f e = cc
inlined-reference evaluators n (whole z) name v u h f e = cc
inlined-reference evaluators n other name v u h f e = cc
inlined-reference evaluators n (text x) name v u h f e = cc
inlined-reference evaluators n (list ts) name v u h f e = cc
inlined-reference evaluators n (object ms) name v u h f e = inlined-reference_at evaluators n ms name v u h f e

pub head_there : (ms : List Named) (measures : List (Option Measure)) (heads : List ℕ) (i j : ℕ) (m : Named) (name : List ℕ) (x : Measure)
    → names_rise (members_view ms) ≡ true → length measures ≡ length ms → AreHeads ms measures heads → i < length ms → j < length ms
    → get_or ms i m ≡ m → reference_in (view m.1) ≡ Some name → measured (known (members_view ms) measures) (view m.1) ≡ Some x
    → string_bytes (get_or ms j m).0 ≡ name → find_member name (members_view ms) ≡ Some (view (get_or ms j m).1) → IsHead ms i (get_or heads j 0)
head_there ms measures heads i j m name x rise each are h g is refers found named place =
    let at : get_or measures j None ≡ Some x =
    sym (known_at ms measures rise each j m None g) ∙ (ap (known (members_view ms) measures) named ∙ (sym (measured-reference (known (members_view ms) measures) (view m.1) name refers) ∙ found)) in
    let head = are.heads_of j g (ap is_some at) in record {
      within = head.within;
      ends = head.ends;
      same = λ d e u p.
          let here : inlined p.0 (members_view ms) (view m.1) ≡ Some u = ap (λ y. inlined p.0 (members_view ms) (view y.1)) (sym is ∙ any_default ms i m d h) ∙ p.1 in
          head.same m e u (inlined-reference (members_view ms) p.0 (view m.1) name (view (get_or ms j m).1) u refers place here);
    }

pub nowhere : (ms : List Named) (measures : List (Option Measure)) (t : Shape) (name : List ℕ) (x : Measure) → reference_in t ≡ Some name
    → measured (known (members_view ms) measures) t ≡ Some x → find_member name (members_view ms) ≢ None
nowhere ms measures t name x refers found absent =
    let none = sym (known-absent ms measures name absent) ∙ (sym (measured-reference (known (members_view ms) measures) t name refers) ∙ found) in cc

-- one more, at its place
pub AreHeads-set : (ms : List Named) (measures : List (Option Measure)) (heads : List ℕ) (i h : ℕ) (x : Measure) → AreHeads ms measures heads → length measures ≡ length ms → i < length ms
    → IsHead ms i h → AreHeads ms (set measures i (Some x)) (set heads i h)
AreHeads-set ms measures heads i h x are each within head = record {
  each = length-set heads i h ∙ are.each;
  heads_of = λ k below is. elim (cases_eq k i) [
    | inl same ↦
        let at : get_or (set heads i h) k 0 ≡ h = ap (λ n. get_or (set heads i h) n 0) same ∙ get_or-set_same heads i h 0 (omega (arith, are.each)) in
        let there : IsHead ms k h = subst (λ n. IsHead ms n h) (sym same) head in
        subst (IsHead ms k) (sym at) there
    | inr differs ↦
        let known_before = ap is_some (sym (get_or-set_other measures i k (Some x) None differs)) ∙ is in
        subst (IsHead ms k) (sym (get_or-set_other heads i k h 0 differs)) (are.heads_of k below known_before)
  ];
}

none_at : (n i : ℕ) → get_or {A = Option Measure} (replicate n None) i None ≡ None
none_at zero i = refl
none_at (suc n) zero = refl
none_at (suc n) (suc i) = none_at n i

pub no_heads : (ms : List Named) (heads : List ℕ) → length heads ≡ length ms → AreHeads ms (replicate (length ms) None) heads
no_heads ms heads each = record { each = each; heads_of = λ i h is. let no = ap is_some (sym (none_at (length ms) i)) ∙ is in cc }

-- ---- the end of a tree

pub end_here : (evaluators : Members) (t : Shape) → reference_in t ≡ None → IsEndOf evaluators t t
end_here evaluators t e = record { ends = e; same = λ u p. p }

-- what is known of a reference is known at the place of its name
place_known : (ms : List Named) (measures : List (Option Measure)) (t : Shape) (name : List ℕ) (j : ℕ) (m : Named) → names_rise (members_view ms) ≡ true → length measures ≡ length ms → j < length ms
    → reference_in t ≡ Some name → string_bytes (get_or ms j m).0 ≡ name → measured (known (members_view ms) measures) t ≡ get_or measures j None
place_known ms measures t name j m rise each g refers named =
    measured-reference (known (members_view ms) measures) t name refers ∙ (ap (known (members_view ms) measures) (sym named) ∙ known_at ms measures rise each j m None g)

pub end_there : (ms : List Named) (measures : List (Option Measure)) (heads : List ℕ) (t : Shape) (name : List ℕ) (j : ℕ) (m : Named) → names_rise (members_view ms) ≡ true
    → length measures ≡ length ms → AreHeads ms measures heads → j < length ms → reference_in t ≡ Some name
    → is_some (measured (known (members_view ms) measures) t) ≡ true → string_bytes (get_or ms j m).0 ≡ name → find_member name (members_view ms) ≡ Some (view (get_or ms j m).1)
    → IsEndOf (members_view ms) t (view (get_or ms (get_or heads j 0) m).1)
end_there ms measures heads t name j m rise each are g refers found named place =
    let head = are.heads_of j g (ap is_some (sym (place_known ms measures t name j m rise each g refers named)) ∙ found) in record {
      ends = head.ends m;
      same = λ u p. head.same m m u (inlined-reference (members_view ms) p.0 t name (view (get_or ms j m).1) u refers place p.1);
    }

pub end_within : (ms : List Named) (measures : List (Option Measure)) (heads : List ℕ) (t : Shape) (name : List ℕ) (j : ℕ) (m : Named) → names_rise (members_view ms) ≡ true
    → length measures ≡ length ms → AreHeads ms measures heads → j < length ms → reference_in t ≡ Some name
    → is_some (measured (known (members_view ms) measures) t) ≡ true → string_bytes (get_or ms j m).0 ≡ name → get_or heads j 0 < length ms
end_within ms measures heads t name j m rise each are g refers found named =
    (are.heads_of j g (ap is_some (sym (place_known ms measures t name j m rise each g refers named)) ∙ found)).within

pub no_end : (ms : List Named) (measures : List (Option Measure)) (t : Shape) (name : List ℕ) → reference_in t ≡ Some name
    → is_some (measured (known (members_view ms) measures) t) ≡ true → find_member name (members_view ms) ≢ None
no_end ms measures t name refers found absent =
    let none = ap is_some (sym (measured-reference (known (members_view ms) measures) t name refers ∙ known-absent ms measures name absent)) ∙ found in cc
