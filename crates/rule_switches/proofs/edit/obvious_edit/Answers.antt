use Rattle.std.proofs.Common.{◌≡◌, ℕ, List, [], ◌++◌, Result, Ok, Err, IfOk, ap, map, sym, ◌∙◌, subst}
use Rattle.std.specs.Map.{keys_of}
use Rattle.bucket_core.specs.Rule.{Entries, IsRuleTotal, entries_view, total_weight}
use Rattle.rule_switches.specs.Edit.{contiguous}
use Rattle.rule_switches.proofs.Edits.{both_rules, comes_to, total_contiguous}
use Rattle.rule_switches.proofs.edit.obvious_edit.Goals as goal

is_edit : (before after none first second : Entries) → none ≡ [] → ((more : List (List ℕ)) → comes_to after first more ≡ comes_to after none (keys_of before ++ more))
    → ((more : List (List ℕ)) → comes_to after second more ≡ comes_to after first (keys_of after ++ more)) → second ≡ contiguous before after
is_edit before after none first second empty one two = both_rules before after first second (λ more. one more ∙ ap (λ es. comes_to after es (keys_of before ++ more)) empty) two

pub made-requires : goal.made-requires
made-requires c =
    let before = c.args.before.now in
    let after = c.args.after.now in
    let all = is_edit before after (entries_view c.new-entries.result.items) (entries_view c.add_names.new.entries.items) (entries_view c.add_names-2.new.entries.items) (ap entries_view c.new-entries.ensures.items) c.in_ok-add_names.ensures c.in_ok-add_names-2.ensures in
    subst IsRuleTotal (c.total-total.ensures.value ∙ sym (ap total_weight all ∙ total_contiguous before after)) c.total-total.ensures.allowed

pub returns : goal.returns
returns c =
    let all = is_edit c.args.before.now c.args.after.now (entries_view c.new-entries.result.items) (entries_view c.add_names.new.entries.items) (entries_view c.add_names-2.new.entries.items) (ap entries_view c.new-entries.ensures.items) c.in_ok-add_names.ensures c.in_ok-add_names-2.ensures in
    then c.made.result c.made.ensures all
  where
    then : {E : Type 0} {a b : Entries} (r : Result Entries E) → IfOk r (λ x. x ≡ a) → a ≡ b → IfOk r (λ x. x ≡ b)
    then (Ok x) is same = is ∙ same
    then (Err e) is same = tt
