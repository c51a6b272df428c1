use Rattle.std.proofs.Common.{◌≡◌, map, length, get_or, false, Bool, string_bytes, sym, ap, ◌∙◌, subst}
use Rattle.std.specs.Prelude.{unwrap_or}
use Rattle.std.specs.BTreeMap.{get_by_text}
use Rattle.std.proofs.lemmas.List.{map-id}
use Rattle.std.proofs.lemmas.Iterator.Adapters.{YieldsList-from_vec}
use Rattle.std.proofs.lemmas.Iterator.Consumers.{YieldsList-end, YieldsList-turn}
use Rattle.spelled_numbers.specs.View.{mark_view}
use Rattle.flag_defs.specs.Flag.{entries_view, flag_view}
use Rattle.flag_defs.specs.Floats.{entries_floats, mark_of, marked, marked_with}
use Rattle.flag_defs.specs.SpelledLaw.{IsSpelled}
use Rattle.flag_defs.proofs.Marked.{one_more_viewed, one_more_marked, same_key, same_mark, Entry}
use Rattle.flag_defs.proofs.Spellings.{may_be_marked}
use Rattle.flag_defs.proofs.marks.mark_all.Goals as goal

pub with_mark-requires : goal.with_mark-requires
with_mark-requires c =
    let l = c.loop-key in
    let es = c.args.flags.items in
    let ms = map mark_view c.args.marks.items in
    let y : Entry = (c.in-Some.key, c.in-Some.flag) in
    let given = c.into_iter-key-iterator.ensures.into_iter_gives in
    let turn = YieldsList-turn (YieldsList-from_vec {s = c.into_iter-key-iterator.result} es given.0 (cc)) l.yielded l.key-iterator l.yielded_by c.next.result c.next.new.self y c.in-Some.is c.next.ensures.steps in
    let told = c.mark_of-has_floats.ensures ∙ (ap (λ s. unwrap_or (get_by_text c.in_ok-last.last s) false) c.as_str.ensures.value ∙ c.in_ok-last.ensures (string_bytes y.0)) in
    subst (λ (b : Bool). IsSpelled (flag_view y.1) (marked_with (flag_view y.1) b)) (sym told)
    (subst (λ (e : Entry). IsSpelled (flag_view e.1) (marked_with (flag_view e.1) (mark_of (string_bytes e.0) ms))) (sym turn.1) (may_be_marked ms es (length l.yielded) y turn.0 c.requires))

pub loop-key-preserved : goal.loop-key-preserved
loop-key-preserved c =
    let l = c.loop-key in
    let k = string_bytes c.in-Some.key in
    let y : Entry = (c.in-Some.key, c.in-Some.flag) in
    let x : Entry = (c.in-Some.key, c.with_mark.result) in
    let told = c.mark_of-has_floats.ensures ∙ (ap (λ s. unwrap_or (get_by_text c.in_ok-last.last s) false) c.as_str.ensures.value ∙ c.in_ok-last.ensures k) in (
      ap entries_view c.in_ok-push.ensures.items ∙ one_more_viewed l.all.items l.yielded x y (same_key k _ _ c.with_mark.ensures.value) l.invariant.0,
      ap entries_floats c.in_ok-push.ensures.items
          ∙ one_more_marked (map mark_view c.args.marks.items) l.all.items l.yielded x y (same_mark k _ _ (c.with_mark.ensures.floats ∙ ap (marked_with (flag_view c.in-Some.flag)) told)) l.invariant.1,
    )

pub returns-clause-value : goal.returns-clause-value
returns-clause-value c =
    let given = c.into_iter-key-iterator.ensures.into_iter_gives in
    let taken = YieldsList-end (YieldsList-from_vec {s = c.into_iter-key-iterator.result} c.args.flags.items given.0 (cc)) c.loop-key.yielded c.loop-key.key-iterator c.loop-key.yielded_by c.next.result c.next.new.self c.in-None.is c.next.ensures.steps in
    let whole : c.loop-key.yielded ≡ c.args.flags.items = sym (map-id c.loop-key.yielded) ∙ taken.0 in
    c.loop-key.invariant.0 ∙ ap entries_view whole

pub returns-clause-floats : goal.returns-clause-floats
returns-clause-floats c =
    let given = c.into_iter-key-iterator.ensures.into_iter_gives in
    let taken = YieldsList-end (YieldsList-from_vec {s = c.into_iter-key-iterator.result} c.args.flags.items given.0 (cc)) c.loop-key.yielded c.loop-key.key-iterator c.loop-key.yielded_by c.next.result c.next.new.self c.in-None.is c.next.ensures.steps in
    let whole : c.loop-key.yielded ≡ c.args.flags.items = sym (map-id c.loop-key.yielded) ∙ taken.0 in
    c.loop-key.invariant.1 ∙ ap (λ es. marked (map mark_view c.args.marks.items) (entries_view es)) whole
