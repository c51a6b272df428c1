use Rattle.std.proofs.Common.{ap, subst, ◌∙◌, arith}
use Rattle.flag_text.proofs.Halving.{names_rise-tidy}
use Rattle.flag_text.specs.View.{members_view}
use Rattle.flag_defs.specs.Flag.{entries_view}
use Rattle.flag_defs.specs.Foreseen.{AllForesee, least_sum}
use Rattle.flag_defs.proofs.Foreseen.{summed-take}
use Rattle.flag_defs.proofs.Meant.{light, many_meant, heavy_meant, rise_meant}
use Rattle.flag_defs.proofs.entries.read_definitions.Goals as goal

pub returns-then-len-gt-FLAGS-clause-means : goal.returns-then-len-gt-FLAGS-clause-means
returns-then-len-gt-FLAGS-clause-means c = λ _.
    let evaluators = members_view c.args.evaluators.now in
    let ds = c.args.definitions.items in
    let ws = c.in_ok-forecasts.forecasts.items in
    let foreseen = subst (λ xs. AllForesee evaluators (members_view xs) ws) c.as_slice.ensures.value c.in_ok-forecasts.ensures in
    let take = summed-take evaluators ds ws c.least_of_all-least.result (c.least_of_all-least.ensures ∙ ap least_sum c.as_slice-2.ensures.value) foreseen in
    many_meant evaluators ds c.least_of_all-least.result take (omega (arith, c.if-len-gt-FLAGS.true, c.len.ensures, c.args.definitions.ok.0))

pub returns-then-least-gt-TEXT_BYTES-clause-means : goal.returns-then-least-gt-TEXT_BYTES-clause-means
returns-then-least-gt-TEXT_BYTES-clause-means c = λ _.
    let evaluators = members_view c.args.evaluators.now in
    let ds = c.args.definitions.items in
    let ws = c.in_ok-forecasts.forecasts.items in
    let foreseen = subst (λ xs. AllForesee evaluators (members_view xs) ws) c.as_slice.ensures.value c.in_ok-forecasts.ensures in
    let take = summed-take evaluators ds ws c.least_of_all-least.result (c.least_of_all-least.ensures ∙ ap least_sum c.as_slice-2.ensures.value) foreseen in
    heavy_meant evaluators ds c.least_of_all-least.result (names_rise-tidy (members_view ds) c.requires) take c.if-least-gt-TEXT_BYTES.true

pub read_all-requires-clause-light : goal.read_all-requires-clause-light
read_all-requires-clause-light c =
    let evaluators = members_view c.args.evaluators.now in
    let ds = c.args.definitions.items in
    let ws = c.in_ok-forecasts.forecasts.items in
    let foreseen = subst (λ xs. AllForesee evaluators (members_view xs) ws) c.as_slice.ensures.value c.in_ok-forecasts.ensures in
    let take = summed-take evaluators ds ws c.least_of_all-least.result (c.least_of_all-least.ensures ∙ ap least_sum c.as_slice-2.ensures.value) foreseen in
    light evaluators ds c.least_of_all-least.result take c.if-least-gt-TEXT_BYTES.false (omega (arith, c.if-len-gt-FLAGS.false, c.len.ensures, c.args.definitions.ok.0))

pub returns-clause-rising : goal.returns-clause-rising
returns-clause-rising c =
    rise_meant (members_view c.args.evaluators.now) (members_view c.args.definitions.items) (entries_view c.in_ok-flags.flags.items) (names_rise-tidy (members_view c.args.definitions.items) c.requires) c.in_ok-flags.ensures.means

pub returns-clause-each : goal.returns-clause-each
returns-clause-each c = c.in_ok-flags.ensures.means
