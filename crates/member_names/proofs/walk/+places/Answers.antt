use Rattle.std.proofs.Common.{◌≡◌, ◌-◌, ◌<◌, ◌++◌, [], ◌∷◌, length, Some, None, refl, sym, ap, ap₂, ◌∙◌, subst, append-nil, arith}
use Rattle.std.proofs.lemmas.Result.{IfOk-weaker}
use Rattle.std.specs.Option.{option_or}
use Rattle.json.specs.Token.{Token}
use Rattle.json.specs.Json.{parse_map, after_end_array, read_key, items, members, value, null, boolean, number, string, array, object, no_items, item, no_members, member}
use Rattle.json.specs.Reads.{token_of}
use Rattle.json.proofs.Grammar.{value_is, value-begin_array, value-begin_object, read_key-shorter}
use Rattle.member_names.specs.Passed.{Begins}
use Rattle.member_names.specs.Places.{behind, items_place, next, place_of, step_at, step_to, twin_place}
use Rattle.member_names.specs.Repeated.{member_names}
use Rattle.member_names.proofs.Grammar.{joined, joined_items, items_first, members_first, item_taken, item_refused, items_over, member_taken, member_refused, key_refused, members_over, member_names-more}
use Rattle.member_names.proofs.Placing.{items_place-more, members_place-more, one_behind}
use Rattle.member_names.proofs.Open.{no_key, one_name, seen_more, added_names}
use Rattle.member_names.proofs.walk.+places.Goals as goal

pub begin-returns-in_err-token-clause-err : goal.begin-returns-in_err-token-clause-err
begin-returns-in_err-token-clause-err t c refused =
    let empty : c.args.reader.now ≡ [] = grind arith in
    ap (value c.args.depth) empty ∙ value_is c.args.depth []

pub begin-returns-then-depth-eq0-clause-err : goal.begin-returns-then-depth-eq0-clause-err
unfolding value
begin-returns-then-depth-eq0-clause-err t c never =
    let first : c.args.reader.now ≡ token_of c.in_ok-token.token ∷ c.next.new.self = grind arith in
    let none : c.args.depth ≡ 0 = omega arith in
    ap₂ value none (first ∙ ap (λ k. token_of k ∷ c.next.new.self) c.in-BeginArray.is)

pub begin-returns-then-depth-eq0-2-clause-err : goal.begin-returns-then-depth-eq0-2-clause-err
unfolding value
begin-returns-then-depth-eq0-2-clause-err t c never =
    let first : c.args.reader.now ≡ token_of c.in_ok-token.token ∷ c.next.new.self = grind arith in
    let none : c.args.depth ≡ 0 = omega arith in
    ap₂ value none (first ∙ ap (λ k. token_of k ∷ c.next.new.self) c.in-BeginObject.is)

pub begin-returns-in_err-in_items-in-BeginArray-clause-err : goal.begin-returns-in_err-in_items-in-BeginArray-clause-err
begin-returns-in_err-in_items-in-BeginArray-clause-err t c refused =
    let first : c.args.reader.now ≡ token_of c.in_ok-token.token ∷ c.next.new.self = grind arith in
    ap (value c.args.depth) (first ∙ ap (λ k. token_of k ∷ c.next.new.self) c.in-BeginArray.is) ∙ value-begin_array c.args.depth c.next.new.self (omega arith)
    ∙ ap (parse_map array) (c.in_items.ensures.err (grind arith))

pub begin-returns-in_ok-in_items-in-BeginArray-clause-ok : goal.begin-returns-in_ok-in_items-in-BeginArray-clause-ok
begin-returns-in_ok-in_items-in-BeginArray-clause-ok t c =
    let first : c.args.reader.now ≡ token_of c.in_ok-token.token ∷ c.next.new.self = grind arith in
    let read = c.in_ok-in_items-in-BeginArray.ensures.ok in (
      array read.0,
      ap (value c.args.depth) (first ∙ ap (λ k. token_of k ∷ c.next.new.self) c.in-BeginArray.is) ∙ value-begin_array c.args.depth c.next.new.self (omega arith) ∙ ap (parse_map array) read.1,
      (refl, read.2),
    )

pub begin-returns-in-String-clause-ok : goal.begin-returns-in-String-clause-ok
begin-returns-in-String-clause-ok t c =
    let first : c.args.reader.now ≡ token_of c.in_ok-token.token ∷ c.next.new.self = grind arith in
    let is : c.args.reader.now ≡ Token.string c.in-String._text.now ∷ c.next.new.self = grind (arith, first) in
    (string c.in-String._text.now, ap (value c.args.depth) is ∙ value_is c.args.depth _, (refl, refl))

pub begin-returns-in-Number-clause-ok : goal.begin-returns-in-Number-clause-ok
begin-returns-in-Number-clause-ok t c =
    let first : c.args.reader.now ≡ token_of c.in_ok-token.token ∷ c.next.new.self = grind arith in
    let is : c.args.reader.now ≡ Token.number c.in-Number._text.now ∷ c.next.new.self = grind (arith, first) in
    (number c.in-Number._text.now, ap (value c.args.depth) is ∙ value_is c.args.depth _, (refl, refl))

pub begin-returns-in-Bool-clause-ok : goal.begin-returns-in-Bool-clause-ok
begin-returns-in-Bool-clause-ok t c =
    let first : c.args.reader.now ≡ token_of c.in_ok-token.token ∷ c.next.new.self = grind arith in
    let is : c.args.reader.now ≡ Token.boolean c.in-Bool._b ∷ c.next.new.self = grind (arith, first) in
    (boolean c.in-Bool._b, ap (value c.args.depth) is ∙ value_is c.args.depth _, (refl, refl))

pub begin-returns-in-Null-clause-ok : goal.begin-returns-in-Null-clause-ok
begin-returns-in-Null-clause-ok t c =
    let first : c.args.reader.now ≡ token_of c.in_ok-token.token ∷ c.next.new.self = grind arith in
    let is : c.args.reader.now ≡ Token.null ∷ c.next.new.self = grind (arith, first) in
    (null, ap (value c.args.depth) is ∙ value_is c.args.depth _, (refl, refl))

pub begin-returns-in-EndObject-clause-err : goal.begin-returns-in-EndObject-clause-err
begin-returns-in-EndObject-clause-err t c refused =
    let first : c.args.reader.now ≡ token_of c.in_ok-token.token ∷ c.next.new.self = grind arith in
    rw (value_is c.args.depth c.args.reader.now, first) (grind arith)

pub place_in-returns-in-Object-clause-ok : goal.place_in-returns-in-Object-clause-ok
place_in-returns-in-Object-clause-ok t c =
    let begun = subst (Begins c.args.depth c.args.reader.now c.begin.new.reader) c.in-Object.is c.in_ok-begin.ensures.ok in
    let opened = ap (value c.args.depth) begun.1 ∙ value-begin_object c.args.depth c.begin.new.reader begun.0 in
    IfOk-weaker c.in_object.result _ _ (λ o read. (object read.0, opened ∙ ap (parse_map object) read.1, read.2)) c.in_object.ensures.ok

pub place_in-returns-in-Object-clause-err : goal.place_in-returns-in-Object-clause-err
place_in-returns-in-Object-clause-err t c = λ refused.
    let begun = subst (Begins c.args.depth c.args.reader.now c.begin.new.reader) c.in-Object.is c.in_ok-begin.ensures.ok in
    ap (value c.args.depth) begun.1 ∙ value-begin_object c.args.depth c.begin.new.reader begun.0 ∙ ap (parse_map object) (c.in_object.ensures.err refused)

pub in_items-items-init : goal.in_items-items-init
in_items-items-init t c =
    (length c.args.reader.now, no_items, omega arith, items_first (items (value c.args.depth) (length c.args.reader.now) c.args.reader.now), omega arith, refl, refl, refl)

pub in_items-returns-in_err-inner-clause-err : goal.in_items-returns-in_err-inner-clause-err
in_items-returns-in_err-inner-clause-err t c refused =
    let l = c.items in
    let going : (after_end_array l.reader ≡ None) × (c.take_end_array.new.self ≡ l.reader) = grind arith in
    item_refused (value c.args.depth) l.invariant.0 l.reader _ l.invariant.1 l.invariant.3 going.0 (rw (← going.1) (c.place_in.ensures.err (grind arith)))

pub in_items-items-preserved : goal.in_items-items-preserved
in_items-items-preserved t c =
    let l = c.items in
    let n = l.invariant.0 in
    let done = l.invariant.1 in
    let r = c.place_in.new.reader in
    let going : (after_end_array l.reader ≡ None) × (c.take_end_array.new.self ≡ l.reader) = grind arith in
    let read = c.in_ok-inner.ensures.ok in
    let j = read.0 in
    let less : length r < length l.reader = rw (← going.1) c.in_ok-inner.ensures.shorter in (
      n - 1,
      joined_items done (item j no_items),
      omega (arith, l.invariant.2),
      item_taken (value c.args.depth) n l.reader _ done l.invariant.3 r j (omega (arith, l.invariant.2)) going.0 (rw (← going.1) read.1),
      omega (arith, l.invariant.4),
      c.in_ok-place.ensures ∙ ap₂ (λ a b. option_or a (behind (step_at l.item) b)) l.invariant.5 read.2
          ∙ ap (λ n. option_or (items_place 0 done) (behind (step_at n) (place_of j))) l.invariant.6 ∙ sym (items_place-more 0 done j),
      c.saturating_add-item.ensures ∙ ap next l.invariant.6 ∙ sym (one_behind 0 done j),
      c.in_ok-inner.ensures.names ∙ l.invariant.7,
    )

pub in_items-returns-clause-ok : goal.in_items-returns-clause-ok
in_items-returns-clause-ok t c =
    let l = c.items in
    (l.invariant.1, items_over (value c.args.depth) l.invariant.0 l.reader _ l.invariant.1 l.invariant.3 c.take_end_array.new.self l.invariant.2 (grind arith), l.invariant.5)

pub with_members-members-init : goal.with_members-members-init
with_members-members-init t c =
    (length c.args.reader.now, no_members, [], omega arith, members_first (members (value c.args.depth) (length c.args.reader.now) c.args.reader.now), omega arith, refl, sym (append-nil c.args.names.now.items), refl)

pub with_members-returns-in_err-name-clause-err : goal.with_members-returns-in_err-name-clause-err
with_members-returns-in_err-name-clause-err t c refused =
    let l = c.members in
    key_refused (value c.args.depth) l.invariant.0 l.reader _ l.invariant.1 l.invariant.4 (no_key c.next_key.result _ _ _ c.in_err-name.ensures c.next_key.ensures.value)

pub with_members-returns-in_err-inner-clause-err : goal.with_members-returns-in_err-inner-clause-err
with_members-returns-in_err-inner-clause-err t c refused =
    let l = c.members in
    let k = c.in-Some.name.now in
    let s = c.next_key.new.self in
    let named : read_key l.reader ≡ Some (Some k, s) = grind arith in
    member_refused (value c.args.depth) l.invariant.0 l.reader _ l.invariant.1 l.invariant.4 k s named (c.place_in.ensures.err (grind arith))

pub with_members-members-preserved : goal.with_members-members-preserved
with_members-members-preserved t c =
    let l = c.members in
    let n = l.invariant.0 in
    let done = l.invariant.1 in
    let k = c.in-Some.name.now in
    let s = c.next_key.new.self in
    let r = c.place_in.new.reader in
    let named : read_key l.reader ≡ Some (Some k, s) = grind arith in
    let read = c.in_ok-inner.ensures.ok in
    let j = read.0 in
    let less = read_key-shorter l.reader (Some k) s named in
    let lesser = c.in_ok-inner.ensures.shorter in (
      n - 1,
      joined done (member k j no_members),
      l.invariant.2 ++ c.in-Some.name ∷ [],
      omega (arith, l.invariant.3),
      member_taken (value c.args.depth) n l.reader _ done l.invariant.4 k s r j (omega (arith, l.invariant.3)) named read.1,
      omega (arith, l.invariant.5),
      c.in_ok-place.ensures ∙ ap₂ (λ a b. option_or a (behind (step_to k) b)) l.invariant.6 read.2 ∙ sym (members_place-more k j done),
      one_name c.place_in.new.names.items l.names.items c.args.names.now.items l.invariant.2 c.in-Some.name l.invariant.7 (c.in_ok-inner.ensures.names ∙ c.in_ok-push.ensures.items),
      seen_more l.invariant.2 c.in-Some.name (member_names done) l.invariant.8 ∙ sym (member_names-more k j done),
    )

pub with_members-returns-clause-ok : goal.with_members-returns-clause-ok
with_members-returns-clause-ok t c =
    let l = c.members in
    let done = l.invariant.1 in
    (done, members_over (value c.args.depth) l.invariant.0 l.reader _ done l.invariant.4 c.next_key.new.self l.invariant.3 (grind arith), (l.invariant.6, (l.invariant.2, l.invariant.7, l.invariant.8)))

pub in_object-returns-clause-ok : goal.in_object-returns-clause-ok
in_object-returns-clause-ok t c =
    let read = c.in_ok-inner.ensures.ok in
    let left = read.2.1 in
    let many : c.len-outer.result ≡ length c.args.names.now.items = omega (arith, c.len-outer.ensures, c.args.names.now.ok.0) in
    let inner = added_names c.deref.result.now c.with_members.new.names.items c.args.names.now.items left.0 (member_names read.0) c.len-outer.result many c.deref.ensures.value left.1 left.2 in
    (read.0, read.1, c.in_ok-place.ensures ∙ ap₂ (λ ns b. option_or (twin_place ns) b) inner read.2.0)
