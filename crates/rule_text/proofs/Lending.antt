-- A loop over entries whose names lie in a text: its step, as the rest of the list gives it.
use denote.Ref.{Bor}
use Rattle.std.proofs.Common.{◌≡◌, ℕ, ◌+◌, ◌-◌, ◌<◌, ◌≤◌, List, [], ◌∷◌, length, drop, get_or, Bool, Option, Some, None, option_map, option_and_then, IfSome, sym, ap, ◌∙◌, add-one}
use Rattle.std.proofs.Math.Seq.{drop-cons}
use Rattle.serde_json.specs.Data.{Num}
use Rattle.flag_text.specs.Reading.{number_shape}
use Rattle.bucket_core.specs.Reading.{weight_of}
use Rattle.bucket_core.specs.Rule.{total_weight, at}
use Rattle.bucket_core.proofs.Points.{total_weight-cons, at-here, at-past}
use Rattle.rule_text.specs.Lent.{lent_entry, lent_view}
use Rattle.rule_text.specs.Parts.{weighed}

abbrev pub Lent : Type 0
Lent = Bor (List ℕ) × ℕ

-- what a loop over no entry would find
abbrev nothing : Lent
nothing = (record { ref_ptr = (0, 0); now = [] }, 0)

module _ (es : List Lent) (i : ℕ) (in_list : i < length es) where
  abbrev e : Lent
  e = get_or es i nothing

  -- what is left from the entry on
  from_here : drop i es ≡ e ∷ drop (i + 1) es
  from_here = rw add-one (drop-cons es i nothing in_list)

  pub weight_next : total_weight (lent_view (drop i es)) ≡ e.1 + total_weight (lent_view (drop (i + 1) es))
  weight_next = ap (λ xs. total_weight (lent_view xs)) from_here ∙ total_weight-cons (lent_entry e) (lent_view (drop (i + 1) es))

  -- the first that is left holds the points below its weight, and the later ones the others
  pub named_here : (p : ℕ) → p < e.1 → at (lent_view (drop i es)) p ≡ Some e.0.now
  named_here p less = ap (λ xs. at (lent_view xs) p) from_here ∙ at-here (lent_entry e) (lent_view (drop (i + 1) es)) p less

  pub named_past : (p : ℕ) → e.1 ≤ p → at (lent_view (drop i es)) p ≡ at (lent_view (drop (i + 1) es)) (p - e.1)
  named_past p more = ap (λ xs. at (lent_view xs) p) from_here ∙ at-past (lent_entry e) (lent_view (drop (i + 1) es)) p more

abbrev first : Option ℕ → Option (Option ℕ × Bool) → Option ℕ
first d None = d
first d (Some p) = p.0

-- the weight that a number is known to be
pub weight_known : (o : Option Num) (weight : Option ℕ) (is_other : Bool) → Some (weight, is_other) ≡ option_map weighed o → IfSome weight (λ n. option_and_then (λ x. weight_of (number_shape x)) o ≡ Some n)
weight_known None weight is_other e = absurd (cc)
weight_known (Some x) None is_other e = tt
weight_known (Some x) (Some n) is_other e = sym (ap (first (Some n)) e)
