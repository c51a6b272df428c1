-- Paying for the items and members of a value one after the other.
use Rattle.std.proofs.Common.{◌≡◌, ℕ, ◌+◌, ◌<◌, List, length, get_or, drop, map, Ok, Err, String, Global}
use Rattle.flag_text.specs.declared.tree.Tree.{Tree}
use Rattle.flag_text.specs.Shape.{Shape}
use Rattle.flag_text.specs.View.{view, items_of, members_view}
use Rattle.logic_values.specs.declared.fault.EvalFault.{EvalFault}
use Rattle.logic_eval.specs.Budget.{Progress, paid}
use Rattle.logic_eval.specs.Run.{spends}
use Rattle.logic_eval.specs.Scope.{size, items_size, members_size}
use Rattle.logic_values.proofs.Items.{drop_at}
use Rattle.logic_eval.proofs.Budgets.{spends_ok, spends_err}

pub items_ok : {A : Type 0} (f : A → Shape) (xs : List A) (i : ℕ) (x : A) (p q : Progress) (u : Unit {0}) → i < length xs → x ≡ get_or xs i x → paid p (spends (size (f x))) ≡ Ok (u, q)
    → paid p (spends (items_size (items_of (map f (drop i xs))))) ≡ paid q (spends (items_size (items_of (map f (drop (i + 1) xs)))))
items_ok f xs i x p q u h is e = rw (drop_at xs i x h is) (spends_ok p _ _ u q e)

pub items_err : {A : Type 0} (f : A → Shape) (xs : List A) (i : ℕ) (x : A) (p : Progress) (e : EvalFault) → i < length xs → x ≡ get_or xs i x → paid p (spends (size (f x))) ≡ Err e
    → paid p (spends (items_size (items_of (map f (drop i xs))))) ≡ Err e
items_err f xs i x p e h is g = rw (drop_at xs i x h is) (spends_err p _ _ e g)

pub members_ok : (xs : List (String Global × Tree)) (i : ℕ) (x : String Global × Tree) (p q : Progress) (u : Unit {0}) → i < length xs → x ≡ get_or xs i x → paid p (spends (size (view x.1))) ≡ Ok (u, q)
    → paid p (spends (members_size (members_view (drop i xs)))) ≡ paid q (spends (members_size (members_view (drop (i + 1) xs))))
members_ok xs i x p q u h is e = rw (drop_at xs i x h is) (spends_ok p _ _ u q e)

pub members_err : (xs : List (String Global × Tree)) (i : ℕ) (x : String Global × Tree) (p : Progress) (e : EvalFault) → i < length xs → x ≡ get_or xs i x → paid p (spends (size (view x.1))) ≡ Err e
    → paid p (spends (members_size (members_view (drop i xs)))) ≡ Err e
members_err xs i x p e h is f = rw (drop_at xs i x h is) (spends_err p _ _ e f)
