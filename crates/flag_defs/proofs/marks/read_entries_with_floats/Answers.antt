use Rattle.std.proofs.Common.{sym, ap, subst, ◌∙◌, map, Result}
use Rattle.std.proofs.lemmas.Result.{IfOk-weaker}
use Rattle.flag_text.specs.Shape.{Shape}
use Rattle.flag_text.specs.View.{view}
use Rattle.flag_text.specs.declared.fault.TextFault.{TextFault}
use Rattle.spelled_numbers.specs.Marks.{marks_or_none}
use Rattle.flag_defs.specs.Document.{TextMeans, max_bytes}
use Rattle.flag_defs.specs.Entries.{HoldsLimited}
use Rattle.flag_defs.specs.Flag.{entries_view}
use Rattle.flag_defs.specs.Floats.{Marks, marked}
use Rattle.flag_defs.proofs.Marking.{read_marked}
use Rattle.flag_defs.proofs.marks.read_entries_with_floats.Goals as goal

pub entries_of-requires-clause-marks : goal.entries_of-requires-clause-marks
entries_of-requires-clause-marks c =
    let t = view c.in-Ok.document.tree in
    let j = read_marked c.args.bytes.now max_bytes t c.in-Ok.ensures.exact in
    (j.0, j.2, j.3, c.in-Ok.ensures.marks ∙ ap marks_or_none j.1)

pub returns-in-Ok-clause-means : goal.returns-in-Ok-clause-means
returns-in-Ok-clause-means c = subst (λ (x : Result Shape TextFault). HoldsLimited (TextMeans x) c.entries_of.result) (sym c.in-Ok.ensures.exact) c.entries_of.ensures.means

pub returns-in-Ok-clause-floats : goal.returns-in-Ok-clause-floats
returns-in-Ok-clause-floats c =
    IfOk-weaker c.entries_of.result _ _ (λ v e. e ∙ ap (λ (ms : Marks). marked ms (entries_view v.items)) c.in-Ok.ensures.marks) c.entries_of.ensures.floats
