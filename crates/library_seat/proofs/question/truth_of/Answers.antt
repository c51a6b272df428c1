use Rattle.std.proofs.Common.{ap, ◌∙◌, codes}
use Rattle.library_seat.specs.Early.{text_refusal}
use Rattle.library_seat.specs.Question.{default_of}
use Rattle.library_seat.proofs.Defaults.{are, false_is, false_is_text, true_is, true_is_text}
use Rattle.library_seat.proofs.question.truth_of.Goals as goal

pub returns-then-eq-clause-exact : goal.returns-then-eq-clause-exact
returns-then-eq-clause-exact c = ap default_of (are c.eq.result c.args.bytes.now c.as_slice.result.now (codes "false") c.eq.ensures c.if-eq.true c.as_slice.ensures) ∙ false_is

pub returns-then-eq-clause-early : goal.returns-then-eq-clause-early
returns-then-eq-clause-early c = ap text_refusal (are c.eq.result c.args.bytes.now c.as_slice.result.now (codes "false") c.eq.ensures c.if-eq.true c.as_slice.ensures) ∙ false_is_text

pub returns-then-eq-2-clause-exact : goal.returns-then-eq-2-clause-exact
returns-then-eq-2-clause-exact c = ap default_of (are c.eq-2.result c.args.bytes.now c.as_slice-2.result.now (codes "true") c.eq-2.ensures c.if-eq-2.true c.as_slice-2.ensures) ∙ true_is

pub returns-then-eq-2-clause-early : goal.returns-then-eq-2-clause-early
returns-then-eq-2-clause-early c = ap text_refusal (are c.eq-2.result c.args.bytes.now c.as_slice-2.result.now (codes "true") c.eq-2.ensures c.if-eq-2.true c.as_slice-2.ensures) ∙ true_is_text
