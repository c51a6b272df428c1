use Rattle.std.proofs.Common.{map, sym, ap, subst, ◌∙◌}
use Rattle.std.specs.Cmp.Lexicographic.{slice_cmp}
use Rattle.std.specs.List.Sorted.{IsStrictlySortedBy}
use Rattle.std.specs.Map.{keys_of}
use Rattle.std.specs.Ordering.{nat_cmp}
use Rattle.flag_text.specs.View.{view}
use Rattle.spelled_numbers.specs.View.{mark_view}
use Rattle.flag_defs.specs.Document.{Definitions, FlagsMean, evaluators_in, flags_in, limited}
use Rattle.flag_defs.specs.Flag.{entries_view}
use Rattle.flag_defs.specs.Floats.{marked}
use Rattle.flag_defs.proofs.Marking.{flags_may_be_marked}
use Rattle.flag_defs.proofs.marks.entries_of.Goals as goal

pub mark_all-requires : goal.mark_all-requires
mark_all-requires c =
    flags_may_be_marked (view c.args.document.tree) (map mark_view c.args.document.marks.items) (entries_view c.in_ok-flags.flags.items) c.requires.marks c.in_ok-flags.ensures.each

pub returns-clause-means : goal.returns-clause-means
returns-clause-means c =
    let t = view c.args.document.tree in
    subst (λ (fs : Definitions). FlagsMean (evaluators_in t) (flags_in t) (limited fs)) (sym c.in_ok-marked.ensures.value) c.in_ok-flags.ensures.means

pub returns-clause-floats : goal.returns-clause-floats
returns-clause-floats c = c.in_ok-marked.ensures.floats ∙ ap (marked (map mark_view c.args.document.marks.items)) (sym c.in_ok-marked.ensures.value)

pub returns-clause-rising : goal.returns-clause-rising
returns-clause-rising c = subst (λ (fs : Definitions). IsStrictlySortedBy (slice_cmp nat_cmp) (keys_of fs)) (sym c.in_ok-marked.ensures.value) c.in_ok-flags.ensures.rising
