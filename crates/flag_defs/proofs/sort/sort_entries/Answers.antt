use Rattle.std.proofs.Common.{◌≡◌, [], ◌++◌, append-nil, sym, ap, ◌∙◌, subst}
use Rattle.std.specs.List.Sorted.{IsStrictlySortedBy}
use Rattle.std.specs.Map.{keys_of}
use Rattle.std.proofs.lemmas.List.{map-id}
use Rattle.std.proofs.lemmas.Iterator.Adapters.{YieldsList-from_vec}
use Rattle.std.proofs.lemmas.Iterator.Consumers.{YieldsList-end}
use Rattle.flag_defs.specs.Changes.{by_key}
use Rattle.flag_defs.specs.Flag.{entries_view, flag_view}
use Rattle.flag_defs.specs.Floats.{entries_floats, floats_of, marks_by_key}
use Rattle.flag_defs.proofs.Sorted.{one_more, rise_viewed, text_cmp}
use Rattle.flag_defs.proofs.sort.sort_entries.Goals as goal

pub loop-key-preserved : goal.loop-key-preserved
loop-key-preserved c = (
  one_more flag_view c.loop-key.by_key.entries c.insert.new.flags.entries c.loop-key.yielded c.in-Some.key c.in-Some.flag c.in_ok-insert.ensures c.loop-key.invariant.0,
  one_more floats_of c.loop-key.by_key.entries c.insert.new.flags.entries c.loop-key.yielded c.in-Some.key c.in-Some.flag c.in_ok-insert.ensures c.loop-key.invariant.1,
)

pub returns-clause-value : goal.returns-clause-value
returns-clause-value c =
    let l = c.loop-key-2 in
    let all = c.into_iter-key-iterator-2.ensures.into_iter_gives in
    let left : l.key-iterator ≡ [] = c.in-None-2.ensures.steps.0 in
    let whole : l.flags.items ≡ c.loop-key.by_key.entries = sym (append-nil l.flags.items) ∙ (ap (λ es. l.flags.items ++ es) (sym left) ∙ (l.invariant.2 ∙ all.0)) in
    let given = c.into_iter-key-iterator.ensures.into_iter_gives in
    let taken = YieldsList-end (YieldsList-from_vec {s = c.into_iter-key-iterator.result} c.args.entries.items given.0 (cc)) c.loop-key.yielded c.loop-key.key-iterator c.loop-key.yielded_by c.next.result c.next.new.self c.in-None.is c.next.ensures.steps in
    ap entries_view whole ∙ (c.loop-key.invariant.0 ∙ ap (λ es. by_key (entries_view es)) (sym (map-id c.loop-key.yielded) ∙ taken.0))

pub returns-clause-floats : goal.returns-clause-floats
returns-clause-floats c =
    let l = c.loop-key-2 in
    let all = c.into_iter-key-iterator-2.ensures.into_iter_gives in
    let left : l.key-iterator ≡ [] = c.in-None-2.ensures.steps.0 in
    let whole : l.flags.items ≡ c.loop-key.by_key.entries = sym (append-nil l.flags.items) ∙ (ap (λ es. l.flags.items ++ es) (sym left) ∙ (l.invariant.2 ∙ all.0)) in
    let given = c.into_iter-key-iterator.ensures.into_iter_gives in
    let taken = YieldsList-end (YieldsList-from_vec {s = c.into_iter-key-iterator.result} c.args.entries.items given.0 (cc)) c.loop-key.yielded c.loop-key.key-iterator c.loop-key.yielded_by c.next.result c.next.new.self c.in-None.is c.next.ensures.steps in
    ap entries_floats whole ∙ (c.loop-key.invariant.1 ∙ ap (λ es. marks_by_key (entries_floats es)) (sym (map-id c.loop-key.yielded) ∙ taken.0))

pub returns-clause-rising : goal.returns-clause-rising
returns-clause-rising c =
    let l = c.loop-key-2 in
    let all = c.into_iter-key-iterator-2.ensures.into_iter_gives in
    let left : l.key-iterator ≡ [] = c.in-None-2.ensures.steps.0 in
    let whole : l.flags.items ≡ c.loop-key.by_key.entries = sym (append-nil l.flags.items) ∙ (ap (λ es. l.flags.items ++ es) (sym left) ∙ (l.invariant.2 ∙ all.0)) in
    rise_viewed l.flags.items (subst (λ es. IsStrictlySortedBy text_cmp (keys_of es)) (sym whole) all.5)
