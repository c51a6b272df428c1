use Rattle.std.proofs.Common.{ap, ◌∙◌}
use Rattle.std.proofs.lemmas.Result.{IfOk-weaker}
use Rattle.flag_defs.specs.Floats.{lent_floats}
use Rattle.flag_defs.specs.Lent.{lent_view}
use Rattle.source_merge.specs.Sources.{entries_view}
use Rattle.source_merge.proofs.Limits.{is_merge, made_of, rising_merge}
use Rattle.source_merge.proofs.sources.Sources.merged.Goals as goal

pub copied-requires : goal.copied-requires
copied-requires c =
    rising_merge (entries_view c.args.self.now.documents.entries) (lent_view c.as_slice.result.now) (ap lent_view c.as_slice.ensures.value ∙ c.in_ok-entries.ensures.entries)

pub returns-clause-exact : goal.returns-clause-exact
returns-clause-exact c =
    made_of (entries_view c.args.self.now.documents.entries) c.copied.result (lent_view c.as_slice.result.now) (ap lent_view c.as_slice.ensures.value ∙ c.in_ok-entries.ensures.entries) c.copied.ensures.exact

pub returns-clause-latest : goal.returns-clause-latest
returns-clause-latest c =
    is_merge c.args.self.now.documents.entries c.copied.result
    (made_of (entries_view c.args.self.now.documents.entries) c.copied.result (lent_view c.as_slice.result.now) (ap lent_view c.as_slice.ensures.value ∙ c.in_ok-entries.ensures.entries) c.copied.ensures.exact)

pub returns-clause-floats : goal.returns-clause-floats
returns-clause-floats c = IfOk-weaker c.copied.result _ _ (λ fs e. e ∙ (ap lent_floats c.as_slice.ensures.value ∙ c.in_ok-entries.ensures.floats)) c.copied.ensures.floats
