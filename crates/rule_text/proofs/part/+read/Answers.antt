use Rattle.std.proofs.Common.{◌≡◌, ◌-◌, ◌+◌, ◌<◌, [], ◌∷◌, length, true, false, option_map, ℕ, List, Result, Ok, Err, Some, None, refl, sym, ap, ap₂, ◌∙◌, arith}
use Rattle.std.specs.Prelude.{MatchResult}
use Rattle.std.specs.Result.{result_or}
use Rattle.json.specs.Token.{Token}
use Rattle.json.specs.Json.{parse_map, after_end_array, read_key, items, members, value}
use Rattle.json.specs.Reads.{token_of}
use Rattle.json.proofs.Grammar.{value_is, value-begin_array, value-begin_object, read_key-shorter}
use Rattle.serde_json.specs.Data as parsed
use Rattle.serde_json.specs.Data.{put, no_members}
use Rattle.serde_json.specs.Read.{converted, of_json, of_items, number_of}
use Rattle.flag_text.specs.Reading.{shape_of, items_shape, members_shape}
use Rattle.flag_text.specs.Shape.{members_levels, members_have_other}
use Rattle.rule_text.specs.Parts.{Seen, part_of, rest_of, list_of, both, extents_view, all_extents}
use Rattle.rule_text.proofs.Extents.{flat, both_none, after, after_none, after_item, extent_in, one_more, all_members, number_part, weighed_some, weighed_none, around, around_at, list_part}
use Rattle.rule_text.proofs.Readings.{converted-array, converted-object, item_read, item_refused, items_over, member_read, member_refused, key_refused, members_over, mapped_as, mapped_twice, mapped_some, unmapped}
use Rattle.rule_text.proofs.part.+read.Goals as goal

-- a refused key stays refused under the fault that it is given
no_key : {X E F : Type 0} (r : Result X E) (f e : F) (P : X → Type 0) {Q : Type 0} → Err e ≡ result_or r (Err f) → MatchResult r P (λ _. Q) → Q
no_key (Ok k) f e P is found = cc
no_key (Err x) f e P is found = found

pub read_part-returns-in_err-token-clause-err : goal.read_part-returns-in_err-token-clause-err
read_part-returns-in_err-token-clause-err t c refused =
    let empty : c.args.reader.now ≡ [] = grind arith in
    ap (converted of_json) (ap (value c.args.depth) empty ∙ value_is c.args.depth [])

pub part_from-returns-then-depth-eq0-clause-err : goal.part_from-returns-then-depth-eq0-clause-err
unfolding value
part_from-returns-then-depth-eq0-clause-err t c never =
    let none : c.args.depth ≡ 0 = omega arith in
    ap (converted of_json) (ap₂ value none (ap (λ k. token_of k ∷ c.args.reader.now) c.in-BeginArray.is))

pub part_from-returns-then-depth-eq0-2-clause-err : goal.part_from-returns-then-depth-eq0-2-clause-err
unfolding value
part_from-returns-then-depth-eq0-2-clause-err t c never =
    let none : c.args.depth ≡ 0 = omega arith in
    ap (converted of_json) (ap₂ value none (ap (λ k. token_of k ∷ c.args.reader.now) c.in-BeginObject.is))

pub part_from-returns-in_err-members-in-BeginObject-clause-err : goal.part_from-returns-in_err-members-in-BeginObject-clause-err
part_from-returns-in_err-members-in-BeginObject-clause-err t c refused =
    let r = c.args.reader.now in
    let opened = ap (converted of_json) (ap (value c.args.depth) (ap (λ k. token_of k ∷ r) c.in-BeginObject.is) ∙ value-begin_object c.args.depth r (omega arith)) ∙ converted-object (members (value (c.args.depth - 1)) (length r) r) in
    opened ∙ ap (parse_map parsed.object) (c.read_members.ensures.err (grind arith))

pub part_from-returns-in-String-clause-ok : goal.part_from-returns-in-String-clause-ok
part_from-returns-in-String-clause-ok t c =
    let s = c.in-String.text.now in
    let r = c.args.reader.now in
    let is : token_of c.args.token ∷ r ≡ Token.string s ∷ r = ap (λ k. token_of k ∷ r) c.in-String.is in (
      parsed.string s,
      ap (converted of_json) (ap (value c.args.depth) is ∙ value_is c.args.depth _),
      ap (λ e. (Some s, None, None, e)) (c.none.ensures ∙ flat c.args.depth _),
    )

pub part_from-returns-in-Some-clause-ok : goal.part_from-returns-in-Some-clause-ok
part_from-returns-in-Some-clause-ok t c =
    let s = c.in-Number.text.now in
    let r = c.args.reader.now in
    let is : token_of c.args.token ∷ r ≡ Token.number s ∷ r = ap (λ k. token_of k ∷ r) c.in-Number.is in
    let n = weighed_some (number_of s) c.in-Some.weight c.in-Some.other c.in-Some.ensures in (
      parsed.number n.0,
      ap (converted of_json) (ap (value c.args.depth) is ∙ value_is c.args.depth _) ∙ ap (λ o. option_map (λ d. (d, r)) (option_map parsed.number o)) n.1,
      number_part c.args.depth n.0 c.in-Some.weight c.in-Some.other n.2 n.3,
    )

pub part_from-returns-in-None-clause-err : goal.part_from-returns-in-None-clause-err
part_from-returns-in-None-clause-err t c never =
    let s = c.in-Number.text.now in
    let r = c.args.reader.now in
    let is : token_of c.args.token ∷ r ≡ Token.number s ∷ r = ap (λ k. token_of k ∷ r) c.in-Number.is in
    ap (converted of_json) (ap (value c.args.depth) is ∙ value_is c.args.depth _) ∙ ap (λ o. option_map (λ d. (d, r)) (option_map parsed.number o)) (weighed_none (number_of s) c.in-None.ensures)

pub part_from-returns-in-Bool-clause-ok : goal.part_from-returns-in-Bool-clause-ok
part_from-returns-in-Bool-clause-ok t c =
    let r = c.args.reader.now in
    let is : token_of c.args.token ∷ r ≡ Token.boolean c.in-Bool.field-0 ∷ r = ap (λ k. token_of k ∷ r) c.in-Bool.is in (
      parsed.boolean c.in-Bool.field-0,
      ap (converted of_json) (ap (value c.args.depth) is ∙ value_is c.args.depth _),
      c.other.ensures ∙ ap (λ e. (None, None, None, e)) (c.none-in-Bool.ensures ∙ flat c.args.depth _),
    )

pub part_from-returns-in-Null-clause-ok : goal.part_from-returns-in-Null-clause-ok
part_from-returns-in-Null-clause-ok t c =
    let r = c.args.reader.now in
    let is : token_of c.args.token ∷ r ≡ Token.null ∷ r = ap (λ k. token_of k ∷ r) c.in-Null.is in (
      parsed.null,
      ap (converted of_json) (ap (value c.args.depth) is ∙ value_is c.args.depth _),
      c.other-in-Null.ensures ∙ ap (λ e. (None, None, None, e)) (c.none-in-Null.ensures ∙ flat c.args.depth _),
    )

pub part_from-returns-in-EndObject-clause-err : goal.part_from-returns-in-EndObject-clause-err
part_from-returns-in-EndObject-clause-err t c never =
    let none : value c.args.depth (token_of c.args.token ∷ c.args.reader.now) ≡ None = rw (value_is c.args.depth (token_of c.args.token ∷ c.args.reader.now)) (grind arith) in
    ap (converted of_json) none

pub part_from-returns-in_ok-bucket-in-BeginArray-clause-ok : goal.part_from-returns-in_ok-bucket-in-BeginArray-clause-ok
part_from-returns-in_ok-bucket-in-BeginArray-clause-ok t c =
    let depth = c.args.depth in
    let r = c.args.reader.now in
    let all = items (value (depth - 1)) (length r) r in
    let deeper : 1 + (depth - 1) ≡ depth = omega arith in
    let opened = ap (converted of_json) (ap (value depth) (ap (λ k. token_of k ∷ r) c.in-BeginArray.is) ∙ value-begin_array depth r (omega arith)) ∙ converted-array all in
    let ds = mapped_some (λ ds. list_of (depth - 1) (items_shape ds)) (converted of_items all) _ _ c.in_ok-bucket-in-BeginArray.ensures.ok in
    (parsed.array ds.0, opened ∙ ap (parse_map parsed.array) ds.1, sym ds.2 ∙ ap (λ k. part_of k (shape_of (parsed.array ds.0))) deeper)

pub part_from-returns-in_err-bucket-in-BeginArray-clause-err : goal.part_from-returns-in_err-bucket-in-BeginArray-clause-err
part_from-returns-in_err-bucket-in-BeginArray-clause-err t c refused =
    let depth = c.args.depth in
    let r = c.args.reader.now in
    let opened = ap (converted of_json) (ap (value depth) (ap (λ k. token_of k ∷ r) c.in-BeginArray.is) ∙ value-begin_array depth r (omega arith)) ∙ converted-array (items (value (depth - 1)) (length r) r) in
    opened ∙ ap (parse_map parsed.array) (c.list_part.ensures.err (grind arith))

pub part_from-returns-in_ok-members-in-BeginObject-clause-ok : goal.part_from-returns-in_ok-members-in-BeginObject-clause-ok
part_from-returns-in_ok-members-in-BeginObject-clause-ok t c =
    let depth = c.args.depth in
    let r = c.args.reader.now in
    let deeper : 1 + (depth - 1) ≡ depth = omega arith in
    let opened = ap (converted of_json) (ap (value depth) (ap (λ k. token_of k ∷ r) c.in-BeginObject.is) ∙ value-begin_object depth r (omega arith)) ∙ converted-object (members (value (depth - 1)) (length r) r) in
    let found = c.in_ok-members-in-BeginObject.ensures.ok in
    let ms = members_shape found.0 in
    let extent = c.extent_of.ensures ∙ ap all_extents found.2 ∙ all_members (depth - 1) ms in
    let whole = c.around.ensures ∙ ap (around (depth - 1)) extent ∙ around_at (depth - 1) (members_levels ms) (members_have_other ms) in (
      parsed.object found.0,
      opened ∙ ap (parse_map parsed.object) found.1,
      c.other-in-BeginObject.ensures ∙ ap (λ e. (None, None, None, e)) whole ∙ ap (λ k. part_of k (shape_of (parsed.object found.0))) deeper,
    )

pub list_part-returns-then-take_end_array-clause-ok : goal.list_part-returns-then-take_end_array-clause-ok
list_part-returns-then-take_end_array-clause-ok t c =
    let depth = c.args.depth in
    let r = c.args.reader.now in
    let over = items_over (value depth) (length r) r c.take_end_array.new.self (omega arith) (grind arith) in
    let extent = c.around.ensures ∙ ap (around depth) (c.none.ensures ∙ flat depth _) ∙ around_at depth 0 _ in
    ap (parse_map (λ ds. list_of depth (items_shape ds))) over ∙ ap (λ (p : Seen). Some (p, c.take_end_array.new.self)) (sym (ap (λ e. (None, None, None, e)) extent))

pub list_part-returns-in_err-name-clause-err : goal.list_part-returns-in_err-name-clause-err
list_part-returns-in_err-name-clause-err t c refused =
    let r = c.args.reader.now in
    let going : (after_end_array r ≡ None) × (c.take_end_array.new.self ≡ r) = grind arith in
    item_refused (value c.args.depth) (length r) r going.0 (rw (← going.1) (c.read_name.ensures.err (grind arith)))

pub list_part-returns-in_err-weight-clause-err : goal.list_part-returns-in_err-weight-clause-err
list_part-returns-in_err-weight-clause-err t c refused =
    let p = value c.args.depth in
    let r = c.args.reader.now in
    let going : (after_end_array r ≡ None) × (c.take_end_array.new.self ≡ r) = grind arith in
    let first = c.in_ok-name.ensures in
    let d = first.ok in
    let less : length c.read_name.new.reader < length r = rw (← going.1) first.shorter in
    item_read p (length r) r c.read_name.new.reader d.0 (omega arith) going.0 (rw (← going.1) d.1)
    ∙ ap (parse_map (parsed.item d.0)) (c.read_rest.ensures.err (grind arith) (length r - 1) (omega arith))

pub list_part-returns-clause-ok : goal.list_part-returns-clause-ok
list_part-returns-clause-ok t c =
    let depth = c.args.depth in
    let p = value depth in
    let r = c.args.reader.now in
    let s = c.read_name.new.reader in
    let going : (after_end_array r ≡ None) × (c.take_end_array.new.self ≡ r) = grind arith in
    let first = c.in_ok-name.ensures in
    let d = first.ok in
    let less : length s < length r = rw (← going.1) first.shorter in
    let rest = c.in_ok-weight.ensures.ok (length r - 1) (omega arith) in
    let ds = mapped_some (λ ds. rest_of depth (items_shape ds)) (converted of_items (items p (length r - 1) s)) _ _ rest in
    let turn = item_read p (length r) r s d.0 (omega arith) going.0 (rw (← going.1) d.1) ∙ ap (parse_map (parsed.item d.0)) ds.1 in
    let e = c.around-2.ensures ∙ ap (around depth) c.and.ensures in
    let is = list_part depth c.in_ok-name.name c.in_ok-weight.weight c.in_ok-name.first c.in_ok-weight.rest c.around-2.result (shape_of d.0) (items_shape ds.0) (ap (λ x. x.0) d.2) (ap (λ x. x.1) d.2) (sym ds.2) e in
    ap (parse_map (λ ds. list_of depth (items_shape ds))) turn ∙ ap (λ x. Some (x, c.read_rest.new.reader)) (sym (ap (λ b. (None, None, option_map {U = List ℕ × ℕ} (λ b. (b.0.now, b.1)) b, c.around-2.result)) c.zip.ensures ∙ is))

pub read_name-returns-in_err-token-clause-err : goal.read_name-returns-in_err-token-clause-err
read_name-returns-in_err-token-clause-err t c refused =
    let empty : c.args.reader.now ≡ [] = grind arith in
    ap (converted of_json) (ap (value c.args.depth) empty ∙ value_is c.args.depth [])

pub read_name-returns-in-String-clause-ok : goal.read_name-returns-in-String-clause-ok
read_name-returns-in-String-clause-ok t c =
    let s = c.in-String.text.now in
    let r = c.next.new.self in
    let first : c.args.reader.now ≡ token_of c.in_ok-token.token ∷ r = grind arith in
    let is : c.args.reader.now ≡ Token.string s ∷ r = first ∙ ap (λ k. token_of k ∷ r) c.in-String.is in (
      parsed.string s,
      ap (converted of_json) (ap (value c.args.depth) is ∙ value_is c.args.depth _),
      ap (λ e. (Some s, e)) (c.none.ensures ∙ flat c.args.depth _),
    )

pub read_weight-returns-in_err-token-clause-err : goal.read_weight-returns-in_err-token-clause-err
read_weight-returns-in_err-token-clause-err t c refused =
    let empty : c.args.reader.now ≡ [] = grind arith in
    ap (converted of_json) (ap (value c.args.depth) empty ∙ value_is c.args.depth [])

pub read_weight-returns-in-Some-clause-ok : goal.read_weight-returns-in-Some-clause-ok
read_weight-returns-in-Some-clause-ok t c =
    let s = c.in-Number.text.now in
    let r = c.next.new.self in
    let first : c.args.reader.now ≡ token_of c.in_ok-token.token ∷ r = grind arith in
    let is : c.args.reader.now ≡ Token.number s ∷ r = first ∙ ap (λ k. token_of k ∷ r) c.in-Number.is in
    let n = weighed_some (number_of s) c.in-Some.weight c.in-Some.other c.in-Some.ensures in (
      parsed.number n.0,
      ap (converted of_json) (ap (value c.args.depth) is ∙ value_is c.args.depth _) ∙ ap (λ o. option_map (λ d. (d, r)) (option_map parsed.number o)) n.1,
      ap (λ (x : Seen). (x.1, x.3)) (number_part c.args.depth n.0 c.in-Some.weight c.in-Some.other n.2 n.3),
    )

pub read_weight-returns-in-None-clause-err : goal.read_weight-returns-in-None-clause-err
read_weight-returns-in-None-clause-err t c never =
    let s = c.in-Number.text.now in
    let r = c.next.new.self in
    let first : c.args.reader.now ≡ token_of c.in_ok-token.token ∷ r = grind arith in
    let is : c.args.reader.now ≡ Token.number s ∷ r = first ∙ ap (λ k. token_of k ∷ r) c.in-Number.is in
    ap (converted of_json) (ap (value c.args.depth) is ∙ value_is c.args.depth _) ∙ ap (λ o. option_map (λ d. (d, r)) (option_map parsed.number o)) (weighed_none (number_of s) c.in-None.ensures)

pub read_rest-items-init : goal.read_rest-items-init
read_rest-items-init t c =
    let depth = c.args.depth in
    let r = c.args.reader.now in
    ((λ n enough. (n, enough, mapped_as (λ ds. rest_of depth (items_shape ds)) (after depth false (Some 1) c.none-extent.result) (λ ds. after_none depth ds ∙ ap (λ e. after depth false (Some 1) e ds) (sym c.none-extent.ensures)) (converted of_items (items (value depth) n r)))), omega arith)

pub read_rest-returns-in_err-item_weight-clause-err : goal.read_rest-returns-in_err-item_weight-clause-err
read_rest-returns-in_err-item_weight-clause-err t c refused n enough =
    let p = value c.args.depth in
    let l = c.items in
    let turn = l.invariant.0 n enough in
    let going : (after_end_array l.reader ≡ None) × (c.take_end_array.new.self ≡ l.reader) = grind arith in
    unmapped _ _ (turn.2 ∙ ap (parse_map (after c.args.depth l.begun l.weight l.extent)) (item_refused p turn.0 l.reader going.0 (rw (← going.1) (c.read_weight.ensures.err (grind arith)))))

pub read_rest-items-preserved : goal.read_rest-items-preserved
read_rest-items-preserved t c =
    let depth = c.args.depth in
    let p = value depth in
    let l = c.items in
    let going : (after_end_array l.reader ≡ None) × (c.take_end_array.new.self ≡ l.reader) = grind arith in
    let done = c.in_ok-item_weight.ensures in
    let d = done.ok in
    let r = c.read_weight.new.reader in
    let less : length r < length l.reader = rw (← going.1) done.shorter in
    let weight = ap (λ x. x.0) d.2 in
    let extent = c.and-extent.ensures ∙ ap (both l.extent) (ap (λ x. x.1) d.2) in (
      λ n enough.
          let turn = l.invariant.0 n enough in
          let read = item_read p turn.0 l.reader r d.0 (omega (arith, turn.1)) going.0 (rw (← going.1) d.1) in (
            turn.0 - 1,
            omega (arith, turn.1),
            turn.2 ∙ ap (parse_map (after depth l.begun l.weight l.extent)) read
                ∙ mapped_twice (after depth l.begun l.weight l.extent) (parsed.item d.0) (after depth true _ c.and-extent.result) (after_item depth l.begun l.weight _ l.extent c.and-extent.result d.0 (grind (arith, weight)) extent) (converted of_items (items p (turn.0 - 1) r)),
          ),
      omega (arith, l.invariant.1),
    )

pub read_rest-returns-clause-ok : goal.read_rest-returns-clause-ok
read_rest-returns-clause-ok t c = λ n enough.
    let depth = c.args.depth in
    let p = value depth in
    let l = c.items in
    let r = c.take_end_array.new.self in
    let turn = l.invariant.0 n enough in
    turn.2 ∙ ap (parse_map (after depth l.begun l.weight l.extent)) (items_over p turn.0 l.reader r turn.1 (grind arith)) ∙ ap (λ e. Some ((l.weight, e), r)) (ap (both l.extent) (sym (flat depth _)) ∙ both_none l.extent)

pub read_members-members-init : goal.read_members-members-init
read_members-members-init t c =
    (length c.args.reader.now, omega arith, no_members, ap extents_view c.new-found.ensures.empty, refl, omega arith)

pub read_members-returns-in_err-name-clause-err : goal.read_members-returns-in_err-name-clause-err
read_members-returns-in_err-name-clause-err t c refused =
    let l = c.members in
    l.invariant.4 ∙ key_refused (value c.args.depth) l.invariant.2 l.invariant.0 l.reader (no_key c.next_key.result _ _ _ c.in_err-name.ensures c.next_key.ensures.value)

pub read_members-returns-in_err-member-clause-err : goal.read_members-returns-in_err-member-clause-err
read_members-returns-in_err-member-clause-err t c refused =
    let l = c.members in
    let k = c.in-Some.name.now in
    let s = c.next_key.new.self in
    let named : read_key l.reader ≡ Some (Some k, s) = grind arith in
    l.invariant.4 ∙ member_refused (value c.args.depth) l.invariant.2 l.invariant.0 k l.reader s named (c.read_part.ensures.err (grind arith))

pub read_members-members-preserved : goal.read_members-members-preserved
read_members-members-preserved t c =
    let depth = c.args.depth in
    let p = value depth in
    let l = c.members in
    let n = l.invariant.0 in
    let ms = l.invariant.2 in
    let name = c.in-Some.name in
    let k = name.now in
    let s = c.next_key.new.self in
    let named : read_key l.reader ≡ Some (Some k, s) = grind arith in
    let done = c.in_ok-member.ensures in
    let d = done.ok in
    let r = c.read_part.new.reader in
    let less = read_key-shorter l.reader (Some k) s named in
    let lesser = done.shorter in
    let extent : c.in_ok-member.member.extent ≡ extent_in depth d.0 = ap (λ x. x.3) d.2 in (
      n - 1,
      omega (arith, l.invariant.1),
      put k d.0 ms,
      one_more depth l.found.entries c.insert.new.self.entries name c.in_ok-member.member.extent d.0 ms c.in_ok-insert.ensures.entries extent l.invariant.3,
      l.invariant.4 ∙ member_read p ms n k l.reader s r d.0 (omega (arith, l.invariant.1)) named d.1,
      omega (arith, l.invariant.5),
    )

pub read_members-returns-clause-ok : goal.read_members-returns-clause-ok
read_members-returns-clause-ok t c =
    let l = c.members in
    (l.invariant.2, l.invariant.4 ∙ members_over (value c.args.depth) l.invariant.2 l.invariant.0 l.reader c.next_key.new.self l.invariant.1 (grind arith), l.invariant.3)
