-- Where an evaluation gives a value, it is whole, and what was reached is of the expression's sites.
use Rattle.std.proofs.Common.{◌≡◌, ◌<◌, ◌^◌, Bool, true, false, not, cond, nat_lt, List, [], ◌∷◌, map, length, Option, Some, None, Result, Ok, Err, refl, ap, ◌∙◌, subst, arith}
use Rattle.std.specs.Prelude.{IfOk, IfSome}
use Rattle.std.specs.List.{All, Contains, slice_get}
use Rattle.std.specs.Result.{IsErrAnd}
use Rattle.std.proofs.lemmas.List.Elements.{All-head}
use Rattle.std.proofs.lemmas.Option.{slice_get-get_or}
use Rattle.bucket_core.specs.Rule.{Entries}
use Rattle.flag_text.specs.Shape.{Shape, is_tidy, is_whole}
use Rattle.flag_text.proofs.Bools.{left}
use Rattle.logic_ast.specs.Expression.{Expression}
use Rattle.logic_ast.specs.Formed.{is_formed, is_well_formed}
use Rattle.logic_ast.specs.Sites.{Site, sites, preorder, entries_of, if_entries}
use Rattle.logic_ast.specs.Size.{is_too_big}
use Rattle.logic_ast.specs.Writing.{written}
use Rattle.logic_ast.specs.declared.fault.LogicFault.{LogicFault}
use Rattle.logic_ast.proofs.Numbered.{length-preorder, numbered-preorder, number-at}
use Rattle.logic_values.specs.declared.fault.EvalFault.{EvalFault}
use Rattle.logic_values.specs.declared.fault.EvalFault.TheVariants.{TooLong}
use Rattle.logic_eval.specs.Evaluation.{evaluation_of, meaning}
use Rattle.logic_eval.specs.Laws.{IsOfSite}
use Rattle.logic_eval.specs.Run.{Reach, Run, most_units, units_of, reached_of, with_reached}
use Rattle.logic_eval.specs.Scope.{Situation, default_input, root_scope}
use Rattle.logic_eval.proofs.Reaching.{IsReachOf, keeps-meaning}
use Rattle.logic_eval.proofs.Runs.{Runs}
use Rattle.logic_eval.proofs.WholeValues.{IsWhole, root_scope-tidy}

-- the element at a place
pub at_place : {A : Type 0} (xs : List A) (x : A) (i : Contains xs x) → slice_get xs i.0 ≡ Some x
at_place xs x i = slice_get-get_or xs i.0 x i.1 ∙ ap Some i.2

-- an entry of one of the sites of an expression
of_site : (e : Expression) → is_formed 0 e ≡ true → (s : Site) → Contains (preorder e) s → (r : Reach) → IsReachOf s r → IsOfSite e r
of_site e h s i r of_it =
    let at : slice_get (preorder e) i.0 ≡ Some s = at_place (preorder e) s i in
    let number : s.number ≡ i.0 = subst (λ o. IfSome o (λ x. x.number ≡ i.0)) at (number-at 0 i.0 i.0 (preorder e) (numbered-preorder 0 e h) (omega arith)) in
    let place : r.site ≡ i.0 = of_it.number ∙ number in record {
      number = let len = length-preorder e in let below = i.1 in omega arith;
      total = λ es f. of_it.total es (literal (entries_of s.buckets) es (rw (place, at) at f));
    }
  where
    literal : (o : Option Entries) (es : Entries) → (let r : Result Entries LogicFault = if_entries o (λ x. x) in r) ≡ Ok es → o ≡ Some es
    literal None es f = absurd (cc)
    literal (Some x) es f = cc

pub record Answer (e : Expression) (r : Shape × List Reach) : Type 0 where
  pub whole : is_whole r.0 ≡ true
  pub reached : All (IsOfSite e) r.1

pub answered : (e : Expression) (s : Situation) → is_well_formed e ≡ true → is_tidy s.context ≡ true → s.moment < 2 ^ 53 → IfOk (evaluation_of e s) (Answer e)
unfolding evaluation_of
answered e s formed w small = go (nat_lt most_units (units_of run.trace)) run.ending all.value
  where
    run : Run Shape
    run = meaning (default_input s) e (root_scope s)

    all : Runs IsWhole (IsOfSite e) run
    all = let h = left (is_formed 0 e) (not (is_too_big (written e))) formed in
        keeps-meaning (IsOfSite e) (default_input s) 0 e h (of_site e h) (root_scope s) (root_scope-tidy s w small)

    ended : (r : Result Shape EvalFault) → IfOk r IsWhole → IfOk (with_reached (reached_of run.trace) r) (Answer e)
    ended (Ok v) h = record { whole = h; reached = all.reached }
    ended (Err f) h = tt

    go : (b : Bool) (r : Result Shape EvalFault) → IfOk r IsWhole → IfOk (cond b (Err TooLong) (with_reached (reached_of run.trace) r)) (Answer e)
    go true r h = tt
    go false r h = ended r h

-- what an evaluation that gave a value answered
pub answer_of : (e : Expression) (s : Situation) (r : Shape × List Reach) → is_well_formed e ≡ true → is_tidy s.context ≡ true → s.moment < 2 ^ 53 → evaluation_of e s ≡ Ok r → Answer e r
answer_of e s r formed w small is = subst (λ x. IfOk x (Answer e)) is (answered e s formed w small)

-- an expression without sites reaches none
pub reached_none : {A : Type 0} (f : A → Reach) (e : Expression) (xs : List A) → sites e ≡ 0 → All (IsOfSite e) (map f xs) → length xs ≡ 0
reached_none f e [] none all = refl
reached_none f e (x ∷ xs) none all = let below = (All-head (IsOfSite e) (f x) (map f xs) all).number in absurd (omega arith)

-- a fault has no value
pub no_value : {X : Type 0} (P : X → Type 0) (r : Result X EvalFault) (e : EvalFault) → IsErrAnd r (λ y. y ≡ e) → IfOk r P
no_value P (Ok x) e is = absurd is
no_value P (Err f) e is = tt
