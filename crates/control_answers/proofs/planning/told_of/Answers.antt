use Rattle.std.proofs.Common.{◌∙◌, ℕ, List, ap₂, refl, rules}
use Rattle.std.specs.Prelude.{string_bytes}
use Rattle.flag_defs.specs.Flags.{flags_view}
use Rattle.rollout.specs.CheckedTally.{tally_view}
use Rattle.control_answers.specs.Token.{token_text}
use Rattle.control_answers.proofs.Planned.{is_asked}
use Rattle.control_answers.proofs.planning.told_of.Goals as goal

-- what was planned was asked
pub changed_if_any-requires : goal.changed_if_any-requires
changed_if_any-requires c = is_asked (flags_view c.args.snapshot.now.flags.now) c.args.request.now c.args.tally.now c.args.planned.now c.requires

pub returns-clause-told : goal.returns-clause-told
returns-clause-told c = record {
  problem = tally_view c.in_ok-problem.problem;
  problem_is = c.in_ok-problem.ensures.asked;
  snapshot = refl;
  inputs = search rules;
  plan_is = refl;
  effect = c.in_ok-effect.ensures.effect;
  picture = c.in_ok-picture.ensures;
  explained = (string_bytes c.in_ok-explained.explained, c.in_ok-explained.ensures.names, c.in_ok-push_edit.ensures);
  document = c.in_ok-document.ensures;
  token = c.in_ok-token.ensures ∙ ap₂ (λ (r p : List ℕ). token_text c.args.snapshot.now.document.now r p) c.bytes.ensures c.as_slice.ensures.value;
}
