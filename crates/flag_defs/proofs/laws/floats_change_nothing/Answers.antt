use Rattle.std.proofs.Common.{sym, subst}
use Rattle.spelled_numbers.specs.Marks.{marks_of_text}
use Rattle.flag_defs.specs.Document.{TextMeans, max_bytes}
use Rattle.flag_defs.proofs.Marked.{none_marked}
use Rattle.flag_defs.proofs.Meanings.{one_meaning_with_floats}
use Rattle.flag_defs.proofs.laws.floats_change_nothing.Goals as goal

pub returns-clause-same : goal.returns-clause-same
returns-clause-same c = λ bytes j r e h.
    let same = c.floats_change_nothing.ensures bytes max_bytes j e h in
    (subst (λ t. TextMeans t r) same, subst (λ t. TextMeans t r) (sym same))

pub returns-clause-none : goal.returns-clause-none
returns-clause-none c = λ bytes j fs e h. none_marked (marks_of_text bytes) fs (c.whole_flags_have_no_floats.ensures bytes j e h)

pub returns-clause-one : goal.returns-clause-one
returns-clause-one c = one_meaning_with_floats
