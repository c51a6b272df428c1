use Rattle.std.proofs.Common.{◌≡◌, ◌≤◌, length, get_or, true, not, cond, nat_lt, take, string_bytes, sym, ap, ◌∙◌}
use Rattle.std.proofs.lemmas.List.{get_or_default, take_all}
use Rattle.std.proofs.lemmas.Map.Text.{btree_set_updates_text}
use Rattle.std.specs.BTreeSet.{contains_text}
use Rattle.std.specs.Str.{bytes_eq}
use Rattle.member_names.proofs.SecondNames.{nameless, was_met, was_new}
use Rattle.flag_doubts.proofs.Counts.{count, counted, met_once, met_twice, met_first}
use Rattle.flag_doubts.proofs.doubled.repeated.Goals as goal
use Rattle.flag_doubts.proofs.doubled.repeated.Goals.{then-not-branch+in_ok-from_str-2+in_ok-insert-2, else-not-branch}

pub loop-name-preserved : goal.loop-name-preserved
loop-name-preserved c =
    let xs = c.args.names.now in
    let i = c.loop-name.name-index in
    let m = get_or xs i nameless in
    let h = c.loop-name-test.true in
    let is = get_or_default xs i nameless m h in
    let name : string_bytes c.in_ok-from_str.field-0 ≡ m.now = c.in_ok-from_str.ensures.ok in
    let known = c.loop-name.invariant in
    let had : contains_text c.loop-name.met m.now ≡ nat_lt 0 (count m.now (take i xs)) = known.met m.now in
    let added : c.in_ok-insert.field-0 ≡ not (contains_text c.loop-name.met m.now) = c.in_ok-insert.ensures.added ∙ ap (λ b. not (contains_text c.loop-name.met b)) name in
    record {
      met = λ key.
          met_once xs i m h is key (contains_text c.loop-name.met key) (contains_text c.insert.new.self key) (known.met key)
          (btree_set_updates_text (string_bytes c.in_ok-from_str.field-0) c.loop-name.met c.insert.new.self true c.in_ok-insert.ensures.updates key ∙ ap (λ b. cond (bytes_eq b key) true (contains_text c.loop-name.met key)) name);
      again = λ key.
          elim c.if-not-branch.branch [
            | then-not-branch+in_ok-from_str-2+in_ok-insert-2 w ↦
                ap (λ s. contains_text s key) w.met_again-is
                ∙ met_twice xs i m h is key (sym had ∙ was_met _ _ added w.if-not-branch.true) (contains_text c.loop-name.met_again key) (contains_text w.insert-then-not-branch.new.self key) (known.again key)
                (btree_set_updates_text (string_bytes w.in_ok-from_str-2.field-0) c.loop-name.met_again w.insert-then-not-branch.new.self true w.in_ok-insert-2.ensures.updates key
                ∙ ap (λ b. cond (bytes_eq b key) true (contains_text c.loop-name.met_again key)) w.in_ok-from_str-2.ensures.ok)
            | else-not-branch w ↦ ap (λ s. contains_text s key) w.met_again-is ∙ met_first xs i m h is key (sym had ∙ was_new _ _ added w.if-not-branch.false) (contains_text c.loop-name.met_again key) (known.again key)
          ];
    }

pub returns : goal.returns
returns c = λ key.
    let xs = c.args.names.now in
    let all : length xs ≤ c.loop-name.name-index = c.loop-name-test.false in
    c.loop-name.invariant.again key ∙ ap (λ ms. nat_lt 1 (count key ms)) (take_all c.loop-name.name-index xs all) ∙ ap (nat_lt 1) (counted key xs)
