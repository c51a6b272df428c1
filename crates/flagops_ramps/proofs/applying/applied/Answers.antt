use Rattle.flag_defs.specs.Flags.{flags_view}
use Rattle.flag_defs.specs.Floats.{floats_view}
use Rattle.flagops_ramps.specs.Words.{applying_view}
use Rattle.flagops_ramps.proofs.Applied.{read, unread}
use Rattle.flagops_ramps.proofs.Noted.{step_said_at}
use Rattle.flagops_ramps.proofs.applying.applied.Goals as goal
use Rattle.flagops_ramps.proofs.Firsts.{behind, document_read, unread_document}
use Rattle.flagops_ramps.specs.Diagnostics.{IsOfStep}
use Rattle.flagops_ramps.specs.Attempts.{answers_file}
use Rattle.std.proofs.Common.{[], ◌∷◌}
use Rattle.flagops_files.specs.Documents.{IsDocumentAs}
use Rattle.flagops_files.specs.Told.{attempt, file}

pub returns-in-Ok-clause-exact : goal.returns-in-Ok-clause-exact
returns-in-Ok-clause-exact g c =
    read (applying_view c.args.asked.now) c.in-Ok.document.bytes.items (flags_view c.in-Ok.document.flags) (floats_view c.in-Ok.document.flags) (g.F.FileSet.holding c.args.files.now) (g.F.FileSet.holding c.load_document.new.files) c.against.result
    c.in-Ok.ensures.floats c.in-Ok.ensures.kept c.in-Ok.ensures.exact
    c.in-Ok.ensures.bytes c.against.ensures.exact

pub returns-in-Ok-clause-parts : goal.returns-in-Ok-clause-parts
returns-in-Ok-clause-parts g c =
    step_said_at (applying_view c.args.asked.now) c.in-Ok.document.bytes.items (flags_view c.in-Ok.document.flags) (g.F.FileSet.holding c.args.files.now) (g.F.FileSet.holding c.load_document.new.files) c.against.result c.in-Ok.ensures.kept
    c.in-Ok.ensures.bytes c.in-Ok.ensures.exact c.against.ensures.parts

pub returns-in-Err-clause-exact : goal.returns-in-Err-clause-exact
returns-in-Err-clause-exact g c = unread (applying_view c.args.asked.now) (g.F.FileSet.holding c.args.files.now) c.in-Err.refused c.of.result c.of.ensures.refusal c.in-Err.ensures.exact

pub returns-in-Ok-clause-names : goal.returns-in-Ok-clause-names
returns-in-Ok-clause-names g c =
    let a = applying_view c.args.asked.now in
    behind (IsOfStep a) c.against.result (g.F.FileSet.holding c.load_document.new.files) (g.F.FileSet.holding c.args.files.now) (λ at. attempt (file a.document) (IsDocumentAs a.floats at a.document) ∷ []) (λ at. answers_file at a.ramp) c.in-Ok.ensures.kept
    (document_read a.floats a.document (flags_view c.in-Ok.document.flags) (g.F.FileSet.holding c.args.files.now) c.in-Ok.ensures.exact) c.against.ensures.names

pub returns-in-Err-clause-names : goal.returns-in-Err-clause-names
returns-in-Err-clause-names g c =
    let a = applying_view c.args.asked.now in
    unread_document (IsOfStep a) c.in-Err.refused c.of.result c.of.ensures.refusal c.of.ensures.remark a.floats a.document (g.F.FileSet.holding c.args.files.now) (λ at. answers_file at a.ramp) c.in-Err.ensures.exact c.in-Err.ensures.names
