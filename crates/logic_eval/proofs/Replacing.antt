-- An evaluation in which one site gets another rule.
use Rattle.std.proofs.Common.{◌≡◌, ℕ, Bool, true, false, not, cond, nat_lt, List, [], ◌∷◌, map, Option, Some, None, Result, Ok, Err, refl, sym, ap, ◌∙◌, subst, arith, ◌<◌, inl, inr}
use Rattle.std.proofs.lemmas.Bool.{cases_lt}
use Rattle.std.specs.Prelude.{IfSome}
use Rattle.std.specs.List.{All, Contains, slice_get}
use Rattle.std.proofs.lemmas.List.Elements.{All-head, All-tail}
use Rattle.bucket_core.specs.Rule.{Entries, total_weight, choice}
use Rattle.flag_text.specs.Shape.{Shape}
use Rattle.flag_text.proofs.Bools.{left}
use Rattle.logic_ast.specs.Expression.{Expression}
use Rattle.logic_ast.specs.Formed.{is_formed}
use Rattle.logic_ast.specs.Sites.{Site, preorder, entries_of, entries_at, if_entries, with_entries}
use Rattle.logic_ast.specs.Size.{is_too_big}
use Rattle.logic_ast.specs.Writing.{written}
use Rattle.logic_ast.specs.declared.fault.LogicFault.{LogicFault}
use Rattle.logic_ast.proofs.Numbered.{numbered-preorder, number-at}
use Rattle.logic_values.specs.declared.fault.EvalFault.{EvalFault}
use Rattle.logic_values.specs.declared.fault.EvalFault.TheVariants.{TooLong}
use Rattle.logic_eval.specs.Evaluation.{evaluation_of, meaning}
use Rattle.logic_eval.specs.Laws.{with_total, paid_for, each_reached, OneSiteReplaced, ReachedAreGiven}
use Rattle.logic_eval.specs.Run.{Reach, Entry, Run, cost, reach, units_of, reached_of, with_reached, result_of, most_units}
use Rattle.logic_eval.specs.Scope.{default_input, root_scope}
use Rattle.logic_eval.proofs.Alike.{Agree, Follows, paid_for-whole, retraced, units-retraced, run_of, alike}
use Rattle.logic_eval.proofs.Answered.{at_place}

reached-retraced : (n total : ℕ) (t : List Entry) → reached_of (retraced n total t) ≡ map (with_total n total) (reached_of t)
reached-retraced n total [] = refl
reached-retraced n total (cost k ∷ t) = reached-retraced n total t
reached-retraced n total (reach r ∷ t) = ap (λ rs. with_total n total r ∷ rs) (reached-retraced n total t)

result-retraced : (n total : ℕ) (r : Run Shape) → result_of (run_of (retraced n total r.trace) r.ending) ≡ each_reached (with_total n total) (result_of r)
result-retraced n total r = rw (units-retraced n total r.trace, reached-retraced n total r.trace) (go (nat_lt most_units (units_of r.trace)) r.ending)
  where
    go : (b : Bool) (e : Result Shape EvalFault)
        → cond b (Err TooLong) (with_reached (map (with_total n total) (reached_of r.trace)) e) ≡ each_reached (with_total n total) (cond b (Err TooLong) (with_reached (reached_of r.trace) e))
    go true e = refl
    go false (Ok w) = refl
    go false (Err f) = refl

too_long : (r : Run Shape) (l : ℕ) → most_units ≡ l → l < units_of r.trace → result_of r ≡ Err TooLong
too_long r l is less =
    let more : nat_lt l (units_of r.trace) ≡ true = grind arith in
    let most : nat_lt most_units (units_of r.trace) ≡ true = ap (λ m. nat_lt m (units_of r.trace)) is ∙ more in
    rw most refl

-- the result of a run that follows another within the budget
by_length : (n total l : ℕ) (r s : Run Shape) → most_units ≡ l → Follows n total l r s → result_of s ≡ each_reached (with_total n total) (result_of r)
by_length n total l r s is h = elim (cases_lt l (units_of r.trace)) [
  | inl less ↦ too_long s l is (h.1 less) ∙ sym (ap (each_reached (with_total n total)) (too_long r l is less))
  | inr more ↦ ap result_of (h.0 more) ∙ result-retraced n total r
]

agree-all : (n : ℕ) (old new : Entries) (rs : List Reach) → All (λ r. r.site ≡ n → choice new r.input ≡ choice old r.input) rs → Agree n old new rs
agree-all n old new [] all = tt
agree-all n old new (r ∷ rs) all =
    (All-head (λ x. x.site ≡ n → choice new x.input ≡ choice old x.input) r rs all, agree-all n old new rs (All-tail (λ x. x.site ≡ n → choice new x.input ≡ choice old x.input) r rs all))

-- the site of this number has these entries
known-at : (e : Expression) (n : ℕ) (old : Entries) → is_formed 0 e ≡ true → entries_at n e ≡ Ok old → (s : Site) → Contains (preorder e) s → s.number ≡ n → entries_of s.buckets ≡ Some old
known-at e n old h f s i is =
    let at : slice_get (preorder e) i.0 ≡ Some s = at_place (preorder e) s i in
    let number : s.number ≡ i.0 = subst (λ o. IfSome o (λ x. x.number ≡ i.0)) at (number-at 0 i.0 i.0 (preorder e) (numbered-preorder 0 e h) (omega arith)) in
    let place : n ≡ i.0 = sym is ∙ number in
    literal (entries_of s.buckets) (rw (place, at) at f)
  where
    literal : (o : Option Entries) → (let r : Result Entries LogicFault = if_entries o (λ x. x) in r) ≡ Ok old → o ≡ Some old
    literal None f = absurd (cc)
    literal (Some x) f = cc

pub one_site : OneSiteReplaced
unfolding evaluation_of
one_site e n old new s formed at some some_new all =
    let h = left (is_formed 0 e) (not (is_too_big (written e))) formed in
    let run = meaning (default_input s) e (root_scope s) in
    let alike_all = alike n old new some.some some_new.some some.small some_new.small (default_input s) 0 e h (known-at e n old h at) (root_scope s) in
    let follows = alike_all.same most_units (agree-all n old new (reached_of (paid_for most_units run.trace)) all) in
    by_length n (total_weight new) most_units run (meaning (default_input s) (with_entries n new e) (root_scope s)) refl follows

-- what a run reached that gave a value
given : (v : Shape) (rs : List Reach) (r : Run Shape) (l : ℕ) → most_units ≡ l → result_of r ≡ Ok (v, rs) → reached_of (paid_for l r.trace) ≡ rs
given v rs r l is h = elim (cases_lt l (units_of r.trace)) [
  | inl less ↦ let long : result_of r ≡ Err TooLong = too_long r l is less in absurd (no_value (result_of r) long h)
  | inr more ↦ ap reached_of (paid_for-whole l r.trace more) ∙ by_end (nat_lt most_units (units_of r.trace)) r.ending h
]
  where
    no_value : (x : Result (Shape × List Reach) EvalFault) → x ≡ Err TooLong → x ≡ Ok (v, rs) → ⊥
    no_value x long h = cc

    by_end : (b : Bool) (e : Result Shape EvalFault) → (let x : Result (Shape × List Reach) EvalFault = cond b (Err TooLong) (with_reached (reached_of r.trace) e) in x) ≡ Ok (v, rs) → reached_of r.trace ≡ rs
    by_end true e g = absurd (cc)
    by_end false (Ok w) g = let both : (let x : Shape × List Reach = (w, reached_of r.trace) in x) ≡ (v, rs) = cc in ap (λ (x : Shape × List Reach). x.1) both
    by_end false (Err f) g = absurd (cc)

pub reached_given : ReachedAreGiven
unfolding evaluation_of
reached_given e s v rs h = given v rs (meaning (default_input s) e (root_scope s)) most_units refl h
