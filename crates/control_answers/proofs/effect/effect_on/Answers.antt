use Rattle.std.proofs.Common.{refl, sym, ap, ◌∙◌, subst, List, ℕ}
use Rattle.book_core.specs.Counts.{counts_of}
use Rattle.rule_switches.specs.Edit.{IsObvious}
use Rattle.control_answers.proofs.effect.effect_on.Goals as goal

pub returns-clause-effect : goal.returns-clause-effect
returns-clause-effect c =
    let old = c.args.problem.now.old in
    let rule = c.args.rule.now in
    let edit = c.in_ok-edit.edit in
    record {
      switches = λ inputs are. c.in_ok-switches.ensures.switches inputs (c.as_slice-counts.ensures.value ∙ are ∙ ap (counts_of inputs) (sym c.total.ensures.value));
      edit = edit;
      told = refl;
      obvious = subst (λ (cs : List ℕ). IsObvious old rule cs edit) c.as_slice-counts.ensures.value c.in_ok-edit.ensures;
    }
