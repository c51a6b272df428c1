use Rattle.std.proofs.Common.{◌∙◌, sym, ap, ◌+◌, ◌*◌}
use Rattle.std.specs.Map.{keys_of}
use Rattle.price_core.specs.Limits.{limits_view}
use Rattle.rule_switches.specs.Runs.{run_view}
use Rattle.rule_switches.specs.declared.table.PairSwitches.{PairSwitches}
use Rattle.rule_switches.proofs.TablePlacing.{long_keys, unknown_from, unknown_to}
use Rattle.rule_switches.proofs.Tables.{added, unchanged}
use Rattle.rule_switches.proofs.table.add_run.Goals as goal

pub returns-in_default : goal.returns-in_default
returns-in_default c =
    let names = keys_of (limits_view c.args.names.now) in
    unchanged names (run_view c.args.run.now) c.args.switches.now.items c.requires.square (unknown_from names (run_view c.args.run.now) c.in_default.ensures)

pub returns-in_default-place_of : goal.returns-in_default-place_of
returns-in_default-place_of c =
    let names = keys_of (limits_view c.args.names.now) in
    unchanged names (run_view c.args.run.now) c.args.switches.now.items c.requires.square (unknown_to names (run_view c.args.run.now) c.in_default-place_of.ensures)

pub returns : goal.returns
returns c =
    let names = keys_of (limits_view c.args.names.now) in
    let i = c.in-Some.from in
    let j = c.in-Some-place_of.to in
    let place = c.place-at.ensures.value ∙ ap (λ k. i * k + j) (sym (long_keys c.args.names.now)) in
    added names (run_view c.args.run.now) c.args.switches.now.items i j c.place-at.result c.index.result.now c.more.result c.requires.square c.requires.apart
    c.in-Some.ensures.0 c.in-Some-place_of.ensures.0 c.in-Some.ensures.1 c.in-Some-place_of.ensures.1 place
    (c.more.ensures.points ∙ ap (λ (s : PairSwitches). s.points + c.args.run.now.points) c.index.ensures) (c.more.ensures.users ∙ ap (λ (s : PairSwitches). s.users + c.args.run.now.users) c.index.ensures)
