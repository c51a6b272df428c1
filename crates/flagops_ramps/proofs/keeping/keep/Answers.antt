use Rattle.std.proofs.Common.{inl}
use Rattle.flagops_files.specs.Question.{question_view}
use Rattle.flagops_ramps.specs.Words.{keeping_view}
use Rattle.flagops_ramps.proofs.Kept.{failed_once, kept_once, kept_whole, left_once, no_question}
use Rattle.flagops_ramps.proofs.Noted.{keep_said_at}
use Rattle.flagops_ramps.proofs.keeping.keep.Goals as goal
use Rattle.flagops_ramps.proofs.Firsts.{behind, question_read, unread}
use Rattle.flagops_ramps.specs.Diagnostics.{IsOfKeep}
use Rattle.flagops_ramps.specs.Attempts.{answers_file, ramp_files}

pub returns-in-Ok-clause-exact : goal.returns-in-Ok-clause-exact
returns-in-Ok-clause-exact g c =
    kept_whole (keeping_view c.args.asked.now) (g.F.FileSet.holding c.args.files.now) (g.F.FileSet.holding c.load_question.new.files) _ c.in-Ok.question.document.items (question_view c.in-Ok.question) c.against.result
    c.in-Ok.ensures.kept c.in-Ok.ensures.exact c.in-Ok.ensures.bytes c.against.ensures.exact

pub returns-in-Ok-clause-failed : goal.returns-in-Ok-clause-failed
returns-in-Ok-clause-failed g c = failed_once _ _ _ _ c.in-Ok.ensures.failed c.against.ensures.failed

pub returns-in-Ok-clause-left : goal.returns-in-Ok-clause-left
returns-in-Ok-clause-left g c = left_once _ _ _ c.args.asked.now.answered.rollout.document.now c.args.asked.now.write c.in-Ok.ensures.kept c.against.ensures.left

pub returns-in-Ok-clause-kept : goal.returns-in-Ok-clause-kept
returns-in-Ok-clause-kept g c = kept_once _ _ _ _ c.in-Ok.ensures.kept c.against.ensures.kept

pub returns-in-Err-clause-exact : goal.returns-in-Err-clause-exact
returns-in-Err-clause-exact g c =
    no_question (keeping_view c.args.asked.now) (g.F.FileSet.holding c.args.files.now) (g.F.FileSet.holding c.load_question.new.files) c.in-Err.refused c.of.result c.of.ensures.refusal c.in-Err.ensures.kept c.in-Err.ensures.exact

pub returns-in-Err-clause-left : goal.returns-in-Err-clause-left
returns-in-Err-clause-left g c = inl c.in-Err.ensures.kept

pub returns-in-Err-clause-kept : goal.returns-in-Err-clause-kept
returns-in-Err-clause-kept g c = inl c.in-Err.ensures.kept

pub returns-in-Ok-clause-names : goal.returns-in-Ok-clause-names
returns-in-Ok-clause-names g c =
    let k = keeping_view c.args.asked.now in
    let v = k.answered in
    behind (IsOfKeep k) c.against.result (g.F.FileSet.holding c.load_question.new.files) (g.F.FileSet.holding c.args.files.now) (λ at. ramp_files at v.rollout) (λ at. answers_file at v.ramp) c.in-Ok.ensures.kept
    (question_read v.rollout (question_view c.in-Ok.question) (g.F.FileSet.holding c.args.files.now) c.in-Ok.ensures.exact) c.against.ensures.names

pub returns-in-Err-clause-names : goal.returns-in-Err-clause-names
returns-in-Err-clause-names g c =
    let k = keeping_view c.args.asked.now in
    let v = k.answered in
    unread (IsOfKeep k) c.in-Err.refused c.of.result c.of.ensures.refusal c.of.ensures.remark (g.F.FileSet.holding c.args.files.now) (λ at. ramp_files at v.rollout) (λ at. answers_file at v.ramp) c.in-Err.ensures.first

pub returns-in-Ok-clause-parts : goal.returns-in-Ok-clause-parts
returns-in-Ok-clause-parts g c =
    keep_said_at (keeping_view c.args.asked.now) (question_view c.in-Ok.question) (g.F.FileSet.holding c.args.files.now) (g.F.FileSet.holding c.load_question.new.files) c.against.result c.in-Ok.ensures.kept c.in-Ok.ensures.exact c.against.ensures.parts
