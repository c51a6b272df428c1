use Rattle.std.proofs.Common.{◌≡◌, map, false, string_bytes, sym, ap, ◌∙◌}
use Rattle.std.specs.Prelude.{unwrap_or}
use Rattle.std.specs.BTreeMap.{get_by_text, is_at}
use Rattle.std.specs.Cmp.Lexicographic.{slice_cmp}
use Rattle.std.specs.Map.{lookup}
use Rattle.std.specs.Ordering.{nat_cmp}
use Rattle.std.proofs.lemmas.List.{map-id}
use Rattle.std.proofs.lemmas.Iterator.Adapters.{YieldsList-from_vec}
use Rattle.std.proofs.lemmas.Iterator.Consumers.{YieldsList-end}
use Rattle.spelled_numbers.specs.View.{mark_view}
use Rattle.flag_defs.specs.Floats.{mark_of}
use Rattle.flag_defs.proofs.Marked.{one_more_mark}
use Rattle.flag_defs.proofs.marks.last_of_each.Goals as goal

pub loop-mark-init : goal.loop-mark-init
loop-mark-init c = λ key. ap (λ es. unwrap_or (lookup (is_at (λ k. slice_cmp nat_cmp key (string_bytes k))) es) false) c.new-last.ensures.empty

pub loop-mark-preserved : goal.loop-mark-preserved
loop-mark-preserved c = λ key.
    one_more_mark key c.loop-mark.yielded c.in-Some.mark (get_by_text c.loop-mark.last key) (get_by_text c.insert.new.last key) (c.in_ok-insert.ensures key) (c.loop-mark.invariant key)

pub returns : goal.returns
returns c = λ key.
    let given = c.into_iter-mark-iterator.ensures.into_iter_gives in
    let taken = YieldsList-end (YieldsList-from_vec {s = c.into_iter-mark-iterator.result} c.args.marks.items given.0 (cc)) c.loop-mark.yielded c.loop-mark.mark-iterator c.loop-mark.yielded_by c.next.result c.next.new.self c.in-None.is c.next.ensures.steps in
    let whole : c.loop-mark.yielded ≡ c.args.marks.items = sym (map-id c.loop-mark.yielded) ∙ taken.0 in
    c.loop-mark.invariant key ∙ ap (λ ms. mark_of key (map mark_view ms)) whole
