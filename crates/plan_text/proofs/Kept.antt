-- A tree that keeps the members which are looked at stands for the same answer.
use Rattle.std.proofs.Common.{◌≡◌, ℕ, ℤ, pos, negsuc, List, true, codes, Option, Some, None, is_some, option_and_then, IfOk, Result, Ok, Err, refl, sym, ap, ◌∙◌}
use Rattle.flag_text.specs.Outcome.{GivesUnless}
use Rattle.flag_text.specs.Readers.{as_list, as_whole, member_of}
use Rattle.flag_text.specs.Reading.{tree_of}
use Rattle.flag_text.specs.Shape.{Shape, is_whole}
use Rattle.flag_text.specs.View.{view}
use Rattle.flag_text.specs.declared.tree.Tree.{Tree}
use Rattle.transport_core.specs.declared.certificate.CutKind.{CutKind}
use Rattle.member_names.specs.Kept.{is_among, Keeps, IsKeptOf}
use Rattle.member_names.proofs.Same.{same_member, is_whole-tree_of}
use Rattle.plan_text.specs.Answer.{Answer, planned_view}
use Rattle.plan_text.specs.PlanFile.{max_plan, plan_members, planned_written, has, has_rule_member, items_in, alpha_in, beta_in, cost_in, rule_in, names_in, emit_in, set_in, first_form, second_form, form_of, form_in, answer_by, planned_of, if_plan, if_tree, answer_of}
use Rattle.plan_text.specs.declared.fault.PlanFileFault.{PlanFileFault}
use Rattle.plan_text.specs.declared.fault.PlanFileFault.TheVariants.{WantOfMemory}
use Rattle.plan_text.specs.declared.form.Form.{Form}
use Rattle.plan_text.specs.declared.form.Form.TheVariants.{Rule, Set}
use Rattle.plan_text.specs.declared.planned.Planned.{Planned}
use Rattle.plan_text.proofs.Whole.{planned_whole}

in_turn : {X Y : Type 0} (f g : X → Option Y) (o p : Option X) → o ≡ p → ((x : X) → f x ≡ g x) → option_and_then f o ≡ option_and_then g p
in_turn f g o None is same = ap (option_and_then f) is
in_turn f g o (Some x) is same = ap (option_and_then f) is ∙ same x

module _ (t u : Shape) (keeps : Keeps plan_members t u) where
  named : (name : List ℕ) → is_among plan_members name ≡ true → member_of name u ≡ member_of name t
  named name among = same_member plan_members t u name keeps among

  listed : (name : List ℕ) → is_among plan_members name ≡ true → items_in name u ≡ items_in name t
  listed name among = ap (option_and_then as_list) (named name among)

  there : (name : List ℕ) → is_among plan_members name ≡ true → has name u ≡ has name t
  there name among = ap is_some (named name among)

  alpha_same : alpha_in u ≡ alpha_in t
  alpha_same = rw (listed (codes "alpha") refl) refl

  beta_same : beta_in u ≡ beta_in t
  beta_same = rw (listed (codes "beta") refl) refl

  cost_same : cost_in u ≡ cost_in t
  cost_same = rw (named (codes "cost") refl) refl

  rule_same : rule_in u ≡ rule_in t
  rule_same = rw (listed (codes "rule") refl) refl

  names_same : names_in u ≡ names_in t
  names_same = rw (listed (codes "none") refl) refl

  rule_member_same : has_rule_member u ≡ has_rule_member t
  rule_member_same = rw (there (codes "alpha") refl, there (codes "beta") refl, there (codes "cost") refl, there (codes "rule") refl) refl

  emit_same : emit_in u ≡ emit_in t
  emit_same = rw (alpha_same, beta_same, cost_same, rule_same) refl

  set_same : (kind : CutKind) → set_in kind u ≡ set_in kind t
  set_same kind = rw (rule_member_same, names_same) refl

  first_same : first_form u ≡ first_form t
  first_same = rw (there (codes "none") refl) refl

  second_same : second_form u ≡ second_form t
  second_same = rw (named (codes "side") refl) refl

  form_same : (z : ℤ) → form_of u z ≡ form_of t z
  form_same (pos n) = rw (first_same, second_same) refl
  form_same (negsuc n) = refl

  forms_same : form_in u ≡ form_in t
  forms_same = in_turn (form_of u) (form_of t) _ _ (ap (option_and_then as_whole) (named (codes "plan") refl)) form_same

  answer_same : (form : Form) → answer_by u form ≡ answer_by t form
  answer_same Rule = emit_same
  answer_same (Set kind) = set_same kind

  pub planned_same : planned_of u ≡ planned_of t
  planned_same = in_turn (answer_by u) (answer_by t) _ _ forms_same answer_same

-- what is read of such a tree is the answer of the file
pub answer_kept : (bytes : List ℕ) (tree : Tree) → IsKeptOf plan_members (tree_of bytes max_plan) tree → if_plan (planned_of (view tree)) ≡ answer_of bytes
answer_kept bytes tree kept = ap if_plan (planned_same kept.0 (view tree) kept.2) ∙ sym (ap if_tree kept.1)

plan_is : (o : Option Answer) (a : Answer) → if_plan o ≡ Ok a → o ≡ Some a
plan_is None a h = cc
plan_is (Some x) a h = cc

-- and can be printed
pub kept_whole : (bytes : List ℕ) (tree : Tree) (r : Result Planned PlanFileFault) → IsKeptOf plan_members (tree_of bytes max_plan) tree → GivesUnless WantOfMemory planned_view r (if_plan (planned_of (view tree)))
    → IfOk r (λ p. is_whole (planned_written (planned_view p)) ≡ true)
kept_whole bytes tree (Ok p) kept given =
    planned_whole kept.0 (planned_view p) (is_whole-tree_of bytes max_plan kept.0 kept.1) (sym (planned_same kept.0 (view tree) kept.2) ∙ plan_is (planned_of (view tree)) (planned_view p) given)
kept_whole bytes tree (Err e) kept given = tt
