use Rattle.std.proofs.Common.{◌≡◌, ◌++◌, [], ◌∷◌, length, get_or, take, refl, ap, sym, subst, ◌∙◌}
use Rattle.std.proofs.lemmas.List.{length_push, take_all, take_more}
use Rattle.flag_text.specs.Shape.{is_tidy}
use Rattle.flag_text.specs.View.{view, members_view}
use Rattle.flag_text.proofs.Views.{Named}
use Rattle.flag_defs.specs.Document.{AllMean}
use Rattle.flag_defs.specs.Flag.{entries_view}
use Rattle.flag_defs.specs.Floats.{are_unmarked, entries_floats}
use Rattle.flag_defs.specs.Foreseen.{Foresees}
use Rattle.flag_defs.specs.Weighing.{IsAmong}
use Rattle.flag_defs.specs.declared.forecast.Forecast.{Forecast}
use Rattle.flag_defs.proofs.Foreseen.{foreseen_at}
use Rattle.flag_defs.proofs.Marked.{unmarked_push}
use Rattle.flag_defs.proofs.Meant.{all_mean_push, among_at, tidy_at}
use Rattle.flag_defs.proofs.Paired.{Pair, paired_turn, paired_end}
use Rattle.flag_defs.proofs.Sorted.{Entry}
use Rattle.flag_defs.proofs.entries.read_all.Goals as goal

pub read_flag-requires-clause-tidy : goal.read_flag-requires-clause-tidy
read_flag-requires-clause-tidy c =
    let ds = c.args.definitions.items in
    let l = c.loop-key in
    let p : Pair = ((c.in-Some.key, c.in-Some.definition), c.in-Some.forecast) in
    let turn = paired_turn c.into_iter-key-iterator.result ds c.args.forecasts.items l.invariant.1 l.yielded l.key-iterator c.next.new.self l.yielded_by c.next.result c.next.ensures.steps p c.in-Some.is in
    ap (λ (y : Named). is_tidy (view y.1)) turn.1 ∙ tidy_at ds (length l.yielded) p.0 turn.0 c.requires.tidy

pub read_flag-requires-clause-foreseen : goal.read_flag-requires-clause-foreseen
read_flag-requires-clause-foreseen c =
    let evaluators = members_view c.args.evaluators.now in
    let ds = c.args.definitions.items in
    let ws = c.args.forecasts.items in
    let l = c.loop-key in
    let p : Pair = ((c.in-Some.key, c.in-Some.definition), c.in-Some.forecast) in
    let turn = paired_turn c.into_iter-key-iterator.result ds ws l.invariant.1 l.yielded l.key-iterator c.next.new.self l.yielded_by c.next.result c.next.ensures.steps p c.in-Some.is in
    subst (λ (y : Named). Foresees evaluators (view y.1) p.1) (sym turn.1)
    (subst (λ (w : Forecast). Foresees evaluators (view (get_or ds (length l.yielded) p.0).1) w) (sym turn.2)
    (foreseen_at evaluators ds ws (length l.yielded) p.0 p.1 turn.0 c.requires.foreseen))

pub read_flag-requires-clause-weighed : goal.read_flag-requires-clause-weighed
read_flag-requires-clause-weighed c =
    let ds = c.args.definitions.items in
    let l = c.loop-key in
    let p : Pair = ((c.in-Some.key, c.in-Some.definition), c.in-Some.forecast) in
    let turn = paired_turn c.into_iter-key-iterator.result ds c.args.forecasts.items l.invariant.1 l.yielded l.key-iterator c.next.new.self l.yielded_by c.next.result c.next.ensures.steps p c.in-Some.is in record {
      definitions = members_view ds;
      light = c.requires.light;
      among = subst (λ (y : Named). IsAmong (view y.1) (members_view ds)) (sym turn.1) (among_at ds (length l.yielded) p.0 turn.0);
    }

pub loop-key-preserved : goal.loop-key-preserved
loop-key-preserved c =
    let evaluators = members_view c.args.evaluators.now in
    let ds = c.args.definitions.items in
    let l = c.loop-key in
    let i = length l.yielded in
    let p : Pair = ((c.in-Some.key, c.in-Some.definition), c.in-Some.forecast) in
    let turn = paired_turn c.into_iter-key-iterator.result ds c.args.forecasts.items l.invariant.1 l.yielded l.key-iterator c.next.new.self l.yielded_by c.next.result c.next.ensures.steps p c.in-Some.is in
    let f : Entry = (c.in-Some.key, c.in_ok-flag.flag) in
    let more : take (length (l.yielded ++ p ∷ [])) ds ≡ take i ds ++ p.0 ∷ [] =
    ap (λ n. take n ds) (length_push l.yielded p) ∙ (take_more ds i p.0 turn.0 ∙ ap (λ (y : Named). take i ds ++ y ∷ []) (sym turn.1)) in (
      subst (λ es. AllMean evaluators (members_view (take (length (l.yielded ++ p ∷ [])) ds)) (entries_view es)) (sym c.in_ok-push.ensures.items)
          (subst (λ xs. AllMean evaluators (members_view xs) (entries_view (l.flags.items ++ f ∷ []))) (sym more)
          (all_mean_push evaluators (take i ds) p.0 l.flags.items f l.invariant.0 refl c.in_ok-flag.ensures.means)),
      l.invariant.1,
      ap (λ es. are_unmarked (entries_floats es)) c.in_ok-push.ensures.items ∙ unmarked_push l.flags.items f l.invariant.2 c.in_ok-flag.ensures.floats,
    )

pub returns-clause-means : goal.returns-clause-means
returns-clause-means c =
    let evaluators = members_view c.args.evaluators.now in
    let ds = c.args.definitions.items in
    let l = c.loop-key in
    let end = paired_end c.into_iter-key-iterator.result ds c.args.forecasts.items l.invariant.1 l.yielded l.key-iterator c.next.new.self l.yielded_by c.next.result c.next.ensures.steps evaluators c.requires.foreseen c.in-None.is in
    subst (λ xs. AllMean evaluators (members_view xs) (entries_view l.flags.items)) (take_all (length l.yielded) ds end) l.invariant.0

pub returns-clause-floats : goal.returns-clause-floats
returns-clause-floats c = c.loop-key.invariant.2
