use Rattle.std.proofs.Common.{◌≡◌, ◌-◌, ◌<◌, [], ◌∷◌, length, option_map, Result, Ok, Err, Some, None, string_bytes, sym, ap, ap₂, ◌∙◌, arith, rules}
use Rattle.std.specs.Prelude.{MatchResult}
use Rattle.std.specs.Result.{result_or}
use Rattle.json.specs.Token.{Token}
use Rattle.json.specs.Json.{parse_map, after_end_array, read_key, items, members, value}
use Rattle.json.specs.Reads.{token_of}
use Rattle.json.proofs.Grammar.{value_is, value-begin_array, value-begin_object, read_key-shorter}
use Rattle.serde_json.specs.Read.{converted}
use Rattle.flag_text.specs.Grammar.{put, tree_from, items_from, members_from}
use Rattle.flag_text.specs.Shape.{null, boolean, text, list, object, names_rise}
use Rattle.flag_text.specs.SortedMembers.{entries_of}
use Rattle.flag_text.specs.View.{view, members_view}
use Rattle.flag_text.specs.declared.tree.Tree.{Text, Bool, Null, Object, the_lemmas}
use Rattle.flag_text.proofs.Entered.{view-List, view-Object}
use Rattle.flag_text.proofs.Placed.{names_rise-put}
use Rattle.flag_text.proofs.Turns.{converted-list, converted-object, item_read, item_refused, items_over, member_read, member_refused, key_refused, members_over, items_before, items_before-no_items, one_more_item, none_before}
use Rattle.flag_text.proofs.tokens.+read.Goals as goal

-- a refused key stays refused under the fault that it is given
no_key : {X E F : Type 0} (r : Result X E) (f e : F) (P : X → Type 0) {Q : Type 0} → Err e ≡ result_or r (Err f) → MatchResult r P (λ _. Q) → Q
no_key (Ok k) f e P is found = cc
no_key (Err x) f e P is found = found

pub read_value-returns-in_err-token-clause-err : goal.read_value-returns-in_err-token-clause-err
read_value-returns-in_err-token-clause-err t c refused =
    let empty : c.args.reader.now ≡ [] = grind arith in
    ap (converted tree_from) (ap (value c.args.depth) empty ∙ value_is c.args.depth [])

pub read_value-returns-then-depth-eq0-clause-err : goal.read_value-returns-then-depth-eq0-clause-err
unfolding value
read_value-returns-then-depth-eq0-clause-err t c never =
    let first : c.args.reader.now ≡ token_of c.in_ok-token.token ∷ c.next.new.self = grind arith in
    let none : c.args.depth ≡ 0 = omega arith in
    ap (converted tree_from) (ap₂ value none (first ∙ ap (λ k. token_of k ∷ c.next.new.self) c.in-BeginArray.is))

pub read_value-returns-then-depth-eq0-2-clause-err : goal.read_value-returns-then-depth-eq0-2-clause-err
unfolding value
read_value-returns-then-depth-eq0-2-clause-err t c never =
    let first : c.args.reader.now ≡ token_of c.in_ok-token.token ∷ c.next.new.self = grind arith in
    let none : c.args.depth ≡ 0 = omega arith in
    ap (converted tree_from) (ap₂ value none (first ∙ ap (λ k. token_of k ∷ c.next.new.self) c.in-BeginObject.is))

pub read_value-returns-in_err-read_items-in-BeginArray-clause-err : goal.read_value-returns-in_err-read_items-in-BeginArray-clause-err
read_value-returns-in_err-read_items-in-BeginArray-clause-err t c refused =
    let first : c.args.reader.now ≡ token_of c.in_ok-token.token ∷ c.next.new.self = grind arith in
    let opened = ap (converted tree_from) (ap (value c.args.depth) (first ∙ ap (λ k. token_of k ∷ c.next.new.self) c.in-BeginArray.is) ∙ value-begin_array c.args.depth c.next.new.self (omega arith)) ∙ converted-list (items (value (c.args.depth - 1)) (length c.next.new.self) c.next.new.self) in
    opened ∙ ap (parse_map list) (c.read_items.ensures.err (grind arith))

pub read_value-returns-in_err-members-in-BeginObject-clause-err : goal.read_value-returns-in_err-members-in-BeginObject-clause-err
read_value-returns-in_err-members-in-BeginObject-clause-err t c refused =
    let first : c.args.reader.now ≡ token_of c.in_ok-token.token ∷ c.next.new.self = grind arith in
    let opened = ap (converted tree_from) (ap (value c.args.depth) (first ∙ ap (λ k. token_of k ∷ c.next.new.self) c.in-BeginObject.is) ∙ value-begin_object c.args.depth c.next.new.self (omega arith)) ∙ converted-object (members (value (c.args.depth - 1)) (length c.next.new.self) c.next.new.self) in
    opened ∙ ap (parse_map object) (c.read_members.ensures.err (grind arith))

pub read_value-returns-in_ok-from_str-in-String-clause-ok : goal.read_value-returns-in_ok-from_str-in-String-clause-ok
read_value-returns-in_ok-from_str-in-String-clause-ok t c =
    let first : c.args.reader.now ≡ token_of c.in_ok-token.token ∷ c.next.new.self = grind arith in
    let is : c.args.reader.now ≡ Token.string c.in-String.text.now ∷ c.next.new.self = grind (arith, first) in
    let seen : view (Text c.in_ok-from_str-in-String.field-0) ≡ text c.in-String.text.now = search (rules, the_lemmas) in
    ap (converted tree_from) (ap (value c.args.depth) is ∙ value_is c.args.depth _) ∙ ap (λ d. Some (d, c.next.new.self)) (sym seen)

pub read_value-returns-in-Bool-clause-ok : goal.read_value-returns-in-Bool-clause-ok
read_value-returns-in-Bool-clause-ok t c =
    let first : c.args.reader.now ≡ token_of c.in_ok-token.token ∷ c.next.new.self = grind arith in
    let is : c.args.reader.now ≡ Token.boolean c.in-Bool.b ∷ c.next.new.self = grind (arith, first) in
    let seen : view (Bool c.in-Bool.b) ≡ boolean c.in-Bool.b = search (rules, the_lemmas) in
    ap (converted tree_from) (ap (value c.args.depth) is ∙ value_is c.args.depth _) ∙ ap (λ d. Some (d, c.next.new.self)) (sym seen)

pub read_value-returns-in-Null-clause-ok : goal.read_value-returns-in-Null-clause-ok
read_value-returns-in-Null-clause-ok t c =
    let first : c.args.reader.now ≡ token_of c.in_ok-token.token ∷ c.next.new.self = grind arith in
    let is : c.args.reader.now ≡ Token.null ∷ c.next.new.self = grind (arith, first) in
    let seen : view (Null) ≡ null = search (rules, the_lemmas) in
    ap (converted tree_from) (ap (value c.args.depth) is ∙ value_is c.args.depth _) ∙ ap (λ d. Some (d, c.next.new.self)) (sym seen)

pub read_value-returns-in-Some-clause-ok : goal.read_value-returns-in-Some-clause-ok
read_value-returns-in-Some-clause-ok t c =
    let first : c.args.reader.now ≡ token_of c.in_ok-token.token ∷ c.next.new.self = grind arith in
    let is : c.args.reader.now ≡ Token.number c.in-Number.text.now ∷ c.next.new.self = grind (arith, first) in
    ap (converted tree_from) (ap (value c.args.depth) is ∙ value_is c.args.depth _) ∙ ap (option_map (λ b. (b, c.next.new.self))) (sym c.in-Some.ensures)

pub read_value-returns-in-None-clause-err : goal.read_value-returns-in-None-clause-err
read_value-returns-in-None-clause-err t c refused =
    let first : c.args.reader.now ≡ token_of c.in_ok-token.token ∷ c.next.new.self = grind arith in
    let is : c.args.reader.now ≡ Token.number c.in-Number.text.now ∷ c.next.new.self = grind (arith, first) in
    ap (converted tree_from) (ap (value c.args.depth) is ∙ value_is c.args.depth _) ∙ ap (option_map (λ b. (b, c.next.new.self))) (sym c.in-None.ensures)

pub read_value-returns-in-EndObject-clause-err : goal.read_value-returns-in-EndObject-clause-err
read_value-returns-in-EndObject-clause-err t c refused =
    let first : c.args.reader.now ≡ token_of c.in_ok-token.token ∷ c.next.new.self = grind arith in
    let none : value c.args.depth c.args.reader.now ≡ None = rw (value_is c.args.depth c.args.reader.now, first) (grind arith) in
    ap (converted tree_from) none

pub read_value-returns-in_ok-read_items-in-BeginArray-clause-ok : goal.read_value-returns-in_ok-read_items-in-BeginArray-clause-ok
read_value-returns-in_ok-read_items-in-BeginArray-clause-ok t c =
    let first : c.args.reader.now ≡ token_of c.in_ok-token.token ∷ c.next.new.self = grind arith in
    let opened = ap (converted tree_from) (ap (value c.args.depth) (first ∙ ap (λ k. token_of k ∷ c.next.new.self) c.in-BeginArray.is) ∙ value-begin_array c.args.depth c.next.new.self (omega arith)) ∙ converted-list (items (value (c.args.depth - 1)) (length c.next.new.self) c.next.new.self) in
    let found = c.in_ok-read_items-in-BeginArray in
    opened ∙ ap (parse_map list) found.ensures.ok ∙ ap (λ d. Some (d, c.read_items.new.reader)) (sym (view-List found.field-0))

pub read_value-returns-in_ok-into_list-in-BeginObject-clause-ok : goal.read_value-returns-in_ok-into_list-in-BeginObject-clause-ok
read_value-returns-in_ok-into_list-in-BeginObject-clause-ok t c =
    let first : c.args.reader.now ≡ token_of c.in_ok-token.token ∷ c.next.new.self = grind arith in
    let opened = ap (converted tree_from) (ap (value c.args.depth) (first ∙ ap (λ k. token_of k ∷ c.next.new.self) c.in-BeginObject.is) ∙ value-begin_object c.args.depth c.next.new.self (omega arith)) ∙ converted-object (members (value (c.args.depth - 1)) (length c.next.new.self) c.next.new.self) in
    let found = c.in_ok-members-in-BeginObject in
    let list = c.in_ok-into_list-in-BeginObject in
    let seen : view (Object list.field-0) ≡ object (members_view (entries_of found.members)) = view-Object list.field-0 ∙ ap (λ ms. object (members_view ms)) list.ensures in
    opened ∙ ap (parse_map object) found.ensures.ok ∙ ap (λ d. Some (d, c.read_members.new.reader)) (sym seen)

pub read_items-items-init : goal.read_items-items-init
read_items-items-init t c =
    let all = converted items_from (items (value c.args.depth) (length c.args.reader.now) c.args.reader.now) in
    (length c.args.reader.now, omega arith, none_before all ∙ ap (λ vs. parse_map (items_before vs) all) (sym c.in_ok-found.ensures.items), omega arith)

pub read_items-returns-in_err-item-clause-err : goal.read_items-returns-in_err-item-clause-err
read_items-returns-in_err-item-clause-err t c refused =
    let p = value c.args.depth in
    let l = c.items in
    let n = l.invariant.0 in
    let going : (after_end_array l.reader ≡ None) × (c.take_end_array.new.self ≡ l.reader) = grind arith in
    l.invariant.2 ∙ ap (parse_map (items_before l.found.items)) (item_refused p n l.reader going.0 (rw (← going.1) (c.read_value.ensures.err (grind arith))))

pub read_items-items-preserved : goal.read_items-items-preserved
read_items-items-preserved t c =
    let p = value c.args.depth in
    let l = c.items in
    let n = l.invariant.0 in
    let going : (after_end_array l.reader ≡ None) × (c.take_end_array.new.self ≡ l.reader) = grind arith in
    let done = c.in_ok-item.ensures in
    let v = c.in_ok-item.item in
    let r = c.read_value.new.reader in
    let less : length r < length l.reader = rw (← going.1) done.shorter in
    let turn = item_read p n l.reader r (view v) (omega (arith, l.invariant.1)) going.0 (rw (← going.1) done.ok) in (
      n - 1,
      omega (arith, l.invariant.1),
      l.invariant.2 ∙ ap (parse_map (items_before l.found.items)) turn ∙ one_more_item l.found.items v _
          ∙ ap (λ vs. parse_map (items_before vs) (converted items_from (items p (n - 1) r))) (sym c.in_ok-push.ensures.items),
      omega (arith, l.invariant.3),
    )

pub read_items-returns-clause-ok : goal.read_items-returns-clause-ok
read_items-returns-clause-ok t c =
    let p = value c.args.depth in
    let l = c.items in
    let n = l.invariant.0 in
    let r = c.take_end_array.new.self in
    l.invariant.2 ∙ ap (parse_map (items_before l.found.items)) (items_over p n l.reader r l.invariant.1 (grind arith)) ∙ ap (λ ds. Some (ds, r)) (items_before-no_items l.found.items)

pub read_members-members-init : goal.read_members-members-init
read_members-members-init t c =
    let all = members (value c.args.depth) (length c.args.reader.now) c.args.reader.now in
    let none = c.in_ok-found.ensures in (
      length c.args.reader.now,
      omega arith,
      ap (λ es. converted (λ ms. members_from ms (members_view es)) all) (sym none),
      omega arith,
      ap (λ es. names_rise (members_view es)) none,
    )

pub read_members-returns-in_err-name-clause-err : goal.read_members-returns-in_err-name-clause-err
read_members-returns-in_err-name-clause-err t c refused =
    let p = value c.args.depth in
    let l = c.members in
    let n = l.invariant.0 in
    let old = members_view (entries_of l.found) in
    l.invariant.2 ∙ key_refused p old n l.reader (no_key c.next_key.result _ _ _ c.in_err-name.ensures c.next_key.ensures.value)

pub read_members-returns-in_err-member-clause-err : goal.read_members-returns-in_err-member-clause-err
read_members-returns-in_err-member-clause-err t c refused =
    let p = value c.args.depth in
    let l = c.members in
    let n = l.invariant.0 in
    let old = members_view (entries_of l.found) in
    let k = c.in-Some.name.now in
    let s = c.next_key.new.self in
    let named : read_key l.reader ≡ Some (Some k, s) = grind arith in
    l.invariant.2 ∙ member_refused p old n k l.reader s named (c.read_value.ensures.err (grind arith))

pub read_members-members-preserved : goal.read_members-members-preserved
read_members-members-preserved t c =
    let p = value c.args.depth in
    let l = c.members in
    let n = l.invariant.0 in
    let old = members_view (entries_of l.found) in
    let k = c.in-Some.name.now in
    let s = c.next_key.new.self in
    let named : read_key l.reader ≡ Some (Some k, s) = grind arith in
    let done = c.in_ok-member.ensures in
    let v = c.in_ok-member.member in
    let r = c.read_value.new.reader in
    let less = read_key-shorter l.reader (Some k) s named in
    let lesser = done.shorter in
    let copied : string_bytes c.in_ok-key.key ≡ k = search rules in
    let inserted : members_view (entries_of c.put.new.self) ≡ put k (view v) old = c.in_ok-put.ensures ∙ ap (λ name. put name (view v) old) copied in (
      n - 1,
      omega (arith, l.invariant.1),
      l.invariant.2 ∙ member_read p old n k l.reader s r (view v) (omega (arith, l.invariant.1)) named done.ok
          ∙ ap (λ found. converted (λ ms. members_from ms found) (members p (n - 1) r)) (sym inserted),
      omega (arith, l.invariant.3),
      ap names_rise inserted ∙ names_rise-put k (view v) old l.invariant.4,
    )

pub read_members-returns-clause-ok : goal.read_members-returns-clause-ok
read_members-returns-clause-ok t c =
    let p = value c.args.depth in
    let l = c.members in
    let n = l.invariant.0 in
    let old = members_view (entries_of l.found) in
    l.invariant.2 ∙ members_over p old n l.reader c.next_key.new.self l.invariant.1 (grind arith)
