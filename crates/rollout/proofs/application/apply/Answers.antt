use Rattle.std.proofs.Common.{ap, sym, subst, ◌∙◌}
use Rattle.bucket_core.specs.Rule.{IsRuleTotal}
use Rattle.flag_defs.specs.Flag.{flag_view}
use Rattle.flag_defs.specs.Flags.{flags_view}
use Rattle.flag_defs.specs.Floats.{floats_of, floats_view}
use Rattle.flag_defs.proofs.Marked.{floats_rise}
use Rattle.rollout.specs.Applied.{by_document}
use Rattle.rollout.proofs.Changed.{changed, others, put_same}
use Rattle.rollout.proofs.Resolved.{as_before}
use Rattle.rollout.proofs.Sites.{site_good, applied_with}
use Rattle.rollout.proofs.application.apply.Goals as goal

pub names_are_variants-requires : goal.names_are_variants-requires
names_are_variants-requires c = site_good c.args.site c.args.rule.now (flag_view c.in-Some.flag.now) (flag_view c.in_ok-changed.changed) c.in_ok-changed.ensures.exact

pub returns-clause-exact : goal.returns-clause-exact
returns-clause-exact c =
    let named = sym c.names_are_variants.ensures ∙ c.if-not-names_are_variants.false in
    applied_with (flags_view c.args.flags.now) c.args.key.now c.args.site c.args.rule.now (flag_view c.in-Some.flag.now) (flag_view c.in_ok-changed.changed) (sym c.in-Some.ensures.value) c.in_ok-changed.ensures.exact named
    ∙ ap by_document c.in_ok-with_flag.ensures.exact

pub returns-clause-changed : goal.returns-clause-changed
returns-clause-changed c =
    changed (flags_view c.args.flags.now) c.args.key.now _ _ c.len.ensures.lawful.rise (sym c.in-Some.ensures.value) c.args.site c.args.rule.now _ c.in_ok-changed.ensures.exact c.in_ok-with_flag.ensures.exact

pub returns-clause-others : goal.returns-clause-others
returns-clause-others c = others (flags_view c.args.flags.now) c.args.key.now _ (flag_view c.in_ok-changed.changed) c.len.ensures.lawful.rise (sym c.in-Some.ensures.value) _ c.in_ok-with_flag.ensures.exact

pub returns-clause-resolutions : goal.returns-clause-resolutions
returns-clause-resolutions c =
    as_before _ _ c.args.key.now c.args.site c.args.rule.now c.len.ensures.lawful (subst IsRuleTotal c.total.ensures.value c.total.ensures.allowed) (returns-clause-changed c) (returns-clause-others c)

pub returns-clause-floats : goal.returns-clause-floats
returns-clause-floats c =
    c.in_ok-with_flag.ensures.floats
    ∙ put_same (floats_view c.args.flags.now) c.args.key.now (floats_of c.in-Some.flag.now) (floats_of c.in_ok-changed.changed) (floats_rise c.args.flags.now.flags.items c.len.ensures.lawful.rise) (sym c.in-Some.ensures.floats)
    c.in_ok-changed.ensures.floats
