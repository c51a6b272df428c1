-- Lists of values, one by one.
use Rattle.std.proofs.Common.{◌≡◌, ℕ, ◌+◌, ◌<◌, Bool, true, false, List, [], ◌∷◌, ◌++◌, length, get_or, drop, Option, Result, Ok, Err, refl, sym, ap, ◌∙◌, append_assoc, append-nil}
use Rattle.flag_text.specs.Shape.{Shape}
use Rattle.logic_ast.specs.declared.node.Node.{Node}
use Rattle.logic_ast.specs.View.{node_view, nodes_view}
use Rattle.logic_values.specs.declared.fault.EvalFault.{EvalFault}
use Rattle.logic_eval.specs.Budget.{Progress, paid, if_paid}
use Rattle.logic_eval.specs.Evaluated.{tested_meaning, tested_meanings}
use Rattle.logic_eval.specs.Operators.{values}
use Rattle.logic_eval.specs.Run.{Run, gives, ◌>>=◌}
use Rattle.logic_eval.proofs.Budgets.{paid-bind, paid-gives, bind_ok, bind_err}
use Rattle.logic_values.proofs.Items.{drop_at}

-- the values before, with what a run gives of the rest
unfoldable pub prepended : {A : Type 0} → List A → Result (List A × Progress) EvalFault → Result (List A × Progress) EvalFault
prepended vs (Ok x) = Ok (vs ++ x.0, x.1)
prepended vs (Err e) = Err e

pub prepended-if : {A : Type 0} (vs : List A) (x : Result (List A × Progress) EvalFault) → if_paid x (λ us q. paid q (let r : Run (List A) = gives (vs ++ us) in r)) ≡ prepended vs x
unfolding prepended
prepended-if vs (Ok x) = paid-gives x.1 (vs ++ x.0)
prepended-if vs (Err e) = refl

pub prepended-none : {A : Type 0} (x : Result (List A × Progress) EvalFault) → prepended [] x ≡ x
unfolding prepended
prepended-none (Ok x) = refl
prepended-none (Err e) = refl

pub prepended-prepended : {A : Type 0} (vs us : List A) (x : Result (List A × Progress) EvalFault) → prepended vs (prepended us x) ≡ prepended (vs ++ us) x
unfolding prepended
prepended-prepended vs us (Ok x) = ap (λ ws. Ok (ws, x.1)) (sym (append_assoc vs us x.0))
prepended-prepended vs us (Err e) = refl

pub prepended-err : {A : Type 0} (vs : List A) (e : EvalFault) → prepended vs (Err e) ≡ Err e
unfolding prepended
prepended-err vs e = refl

pub prepended-ok : {A : Type 0} (vs us : List A) (p : Progress) → prepended vs (Ok (us, p)) ≡ Ok (vs ++ us, p)
unfolding prepended
prepended-ok vs us p = refl

-- all values stand, and none is left
pub prepended_all : {A : Type 0} (vs : List A) (p : Progress) → prepended vs (paid p (let r : Run (List A) = gives [] in r)) ≡ Ok (vs, p)
prepended_all vs p = ap (prepended vs) (paid-gives p []) ∙ (prepended-ok vs [] p ∙ ap (λ us. Ok (us, p)) (append-nil vs))

-- one more value stands
pub one_more : {A : Type 0} (vs new : List A) (v : A) (rest all : Result (List A × Progress) EvalFault) → new ≡ vs ++ v ∷ [] → all ≡ prepended (v ∷ []) rest → prepended vs all ≡ prepended new rest
one_more vs new v rest all is e = ap (prepended vs) e ∙ (prepended-prepended vs (v ∷ []) rest ∙ ap (λ us. prepended us rest) (sym is))

-- a run for each item, whose value goes before what the rest gives
pub before_rest : {A : Type 0} (p : Progress) (r : Run A) (rest : Run (List A)) (v : A) (q : Progress) → paid p r ≡ Ok (v, q)
    → paid p (r >>= λ u. rest >>= λ us. gives (u ∷ us)) ≡ prepended (v ∷ []) (paid q rest)
before_rest p r rest v q e = bind_ok p r _ v q e ∙ (paid-bind q rest _ ∙ prepended-if (v ∷ []) (paid q rest))

-- the nodes from i on, where the node at i is paid for
pub values_ok : (tested : Bool) (default : Option (List ℕ)) (scope : Shape) (xs : List Node) (i : ℕ) (x : Node) (p q : Progress) (v : Shape) → i < length xs → x ≡ get_or xs i x
    → paid p (tested_meaning tested default (node_view x) scope) ≡ Ok (v, q)
    → paid p (values (tested_meanings tested default (nodes_view (drop i xs))) scope) ≡ prepended (v ∷ []) (paid q (values (tested_meanings tested default (nodes_view (drop (i + 1) xs))) scope))
values_ok true default scope xs i x p q v h is e = rw (drop_at xs i x h is) (before_rest p _ _ v q e)
values_ok false default scope xs i x p q v h is e = rw (drop_at xs i x h is) (before_rest p _ _ v q e)

pub values_err : (tested : Bool) (default : Option (List ℕ)) (scope : Shape) (xs : List Node) (i : ℕ) (x : Node) (p : Progress) (e : EvalFault) → i < length xs → x ≡ get_or xs i x
    → paid p (tested_meaning tested default (node_view x) scope) ≡ Err e
    → paid p (values (tested_meanings tested default (nodes_view (drop i xs))) scope) ≡ Err e
values_err true default scope xs i x p e h is f = rw (drop_at xs i x h is) (bind_err p _ _ e f)
values_err false default scope xs i x p e h is f = rw (drop_at xs i x h is) (bind_err p _ _ e f)

-- no value is left
pub values_none : (tested : Bool) (default : Option (List ℕ)) (scope : Shape) → values (tested_meanings tested default (nodes_view [])) scope ≡ gives []
values_none true default scope = refl
values_none false default scope = refl
