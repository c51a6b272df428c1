-- Which answers of a site are not given: those that take no memory have clauses of their own.
use Rattle.std.proofs.Common.{◌≡◌, ℕ, suc, true, false, Option, Some, None, option_map, Ok, Err, refl, sym, ◌∙◌}
use Rattle.std.specs.Option.{is_some}
use Rattle.bucket_core.specs.Rule.{Entries}
use Rattle.logic_ast.specs.Expression.{Expression, By, by, Buckets}
use Rattle.logic_ast.specs.Formed.{is_formed}
use Rattle.logic_ast.specs.Found.{found}
use Rattle.logic_ast.specs.Parts.{site_parts}
use Rattle.logic_ast.specs.Sites.{entries_of, by_lowered, with_entries, if_entries, parts_at, replaced}
use Rattle.logic_ast.specs.Writing.{by_text_at}
use Rattle.logic_ast.specs.declared.fault.LogicFault.{LogicFault}
use Rattle.logic_ast.specs.declared.fault.LogicFault.TheVariants.{Computed}
use Rattle.logic_ast.proofs.Inner.{by_text_at-none, by_text_at-some, parts_at-none, parts_at-some, replaced-none, replaced-some}

pub computed-none : {A : Type 0} (o : Option Entries) (f : Entries → A) → is_some o ≡ false → if_entries o f ≡ Err Computed
computed-none None f h = refl
computed-none (Some r) f h = cc

literal-ok : {A B : Type 0} (o : Option Entries) (f : Entries → A) (x : LogicFault) → is_some o ≡ true → if_entries o f ≡ Err x → B
literal-ok None f x h e = cc
literal-ok (Some r) f x h e = cc

-- where all buckets are literal the answer is not Computed
pub parts_at-literal : {A : Type 0} (n : ℕ) (e : Expression) (b : By) (bs : Buckets) → is_formed 0 e ≡ true → option_map site_parts (found n e) ≡ Some (b, bs)
    → is_some (entries_of bs) ≡ true → parts_at n e ≡ Err Computed → A
parts_at-literal n e b bs f h literal refused =
    literal-ok (entries_of bs) (λ r. let made : By × Entries = (by_lowered (suc n) b, r) in made) Computed literal (sym (parts_at-some n e b bs f h) ∙ refused)

pub replaced-literal : {A : Type 0} (n : ℕ) (q : Entries) (e : Expression) (b : By) (bs : Buckets) → is_formed 0 e ≡ true → option_map site_parts (found n e) ≡ Some (b, bs)
    → is_some (entries_of bs) ≡ true → replaced n q e ≡ Err Computed → A
replaced-literal n q e b bs f h literal refused =
    literal-ok (entries_of bs) (λ _. with_entries n q e) Computed literal (sym (replaced-some n q e b bs f h) ∙ refused)

-- where there is no site it is not Computed either, and no text
pub parts_at-absent : {A : Type 0} (n : ℕ) (e : Expression) → is_formed 0 e ≡ true → option_map site_parts (found n e) ≡ None → parts_at n e ≡ Err Computed → A
parts_at-absent n e f h refused = let absent = parts_at-none n e f h in cc

pub replaced-absent : {A : Type 0} (n : ℕ) (q : Entries) (e : Expression) → is_formed 0 e ≡ true → option_map site_parts (found n e) ≡ None → replaced n q e ≡ Err Computed → A
replaced-absent n q e f h refused = let absent = replaced-none n q e f h in cc

pub by_text_at-absent : {A : Type 0} (n : ℕ) (e : Expression) → is_formed 0 e ≡ true → option_map site_parts (found n e) ≡ None → by_text_at n e ≡ Ok None → A
by_text_at-absent n e f h none = let absent = by_text_at-none n e f h in cc

-- a site with a bucketing expression has a text
pub by_text_at-by : {A : Type 0} (n : ℕ) (e i : Expression) (bs : Buckets) → is_formed 0 e ≡ true → option_map site_parts (found n e) ≡ Some (by i, bs) → by_text_at n e ≡ Ok None → A
by_text_at-by n e i bs f h none = let there = by_text_at-some n e (by i) bs f h in cc
