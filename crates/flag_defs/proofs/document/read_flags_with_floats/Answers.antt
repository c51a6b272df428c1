use Rattle.std.proofs.Common.{sym, ap, ◌∙◌}
use Rattle.std.proofs.lemmas.Result.{IfOk-weaker}
use Rattle.spelled_numbers.specs.Marks.{marks_of_text}
use Rattle.flag_defs.specs.Flag.{entries_view}
use Rattle.flag_defs.specs.Floats.{MeansWithFloats, entries_floats, marked}
use Rattle.flag_defs.proofs.Limited.{holds_limited}
use Rattle.flag_defs.proofs.document.read_flags_with_floats.Goals as goal

pub returns-clause-means : goal.returns-clause-means
returns-clause-means c = holds_limited (MeansWithFloats c.args.bytes.now) (entries_view c.in_ok-flags.flags.items) c.limited.result c.in_ok-flags.ensures.means c.limited.ensures.exact

pub returns-clause-floats : goal.returns-clause-floats
returns-clause-floats c =
    IfOk-weaker c.limited.result _ _ (λ fs same. ap entries_floats same ∙ (c.in_ok-flags.ensures.floats ∙ ap (λ es. marked (marks_of_text c.args.bytes.now) (entries_view es)) (sym same))) c.limited.ensures.same
