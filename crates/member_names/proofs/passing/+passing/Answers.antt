use Rattle.std.proofs.Common.{◌≡◌, ◌∷◌, ◌-◌, ◌<◌, length, option_map, Some, None, refl, sym, ap, ◌∙◌, subst, arith}
use Rattle.json.specs.Json.{after_end_array, read_key, items, value}
use Rattle.json.specs.Reads.{token_of}
use Rattle.json.specs.Token.{Token}
use Rattle.json.proofs.Grammar.{value_is, read_key-shorter}
use Rattle.serde_json.specs.Read.{converted}
use Rattle.flag_text.specs.Grammar.{put, tree_from, items_from}
use Rattle.flag_text.specs.Shape.{null, boolean, whole, text, no_items, no_members}
use Rattle.flag_text.proofs.Turns.{item_read, items_over, member_read, members_over}
use Rattle.member_names.specs.NamedPassed.{IsPlain, AreItemsPlain, Passes}
use Rattle.member_names.proofs.Put.{put_plain}
use Rattle.member_names.proofs.Turns.{if_some, item_passed, list_passed, object_passed}
use Rattle.member_names.proofs.passing.+passing.Goals as goal

pub pass_items-items-preserved : goal.pass_items-items-preserved
pass_items-items-preserved t c =
    let p = value c.args.depth in
    let l = c.items in
    let n = l.invariant.0 in
    let going : (after_end_array l.reader ≡ None) × (c.take_end_array.new.self ≡ l.reader) = grind arith in
    let done = c.in_ok-pass_value.ensures.plain in
    let r = c.pass_value.new.reader in
    let less : length r < length l.reader = rw (← going.1) c.in_ok-pass_value.ensures.shorter in
    let turn = item_read p n l.reader r done.0 (omega (arith, l.invariant.1)) going.0 (rw (← going.1) done.1) in (
      n - 1,
      omega (arith, l.invariant.1),
      λ rest more. l.invariant.2 rest
          (subst (λ o. Passes o rest (AreItemsPlain c.args.most)) (sym turn) (item_passed c.args.most done.0 (converted items_from (items p (n - 1) r)) rest done.2 more)),
      omega (arith, l.invariant.3),
    )

pub pass_items-returns-clause-plain : goal.pass_items-returns-clause-plain
pass_items-returns-clause-plain t c =
    let p = value c.args.depth in
    let l = c.items in
    let r = c.take_end_array.new.self in
    l.invariant.2 r (no_items, items_over p l.invariant.0 l.reader r l.invariant.1 (grind arith), (omega arith, refl))

pub pass_members-members-init : goal.pass_members-members-init
pass_members-members-init t c = (length c.args.reader.now, no_members, omega arith, refl, (omega arith, refl), omega arith)

pub pass_members-members-preserved : goal.pass_members-members-preserved
pass_members-members-preserved t c =
    let p = value c.args.depth in
    let l = c.members in
    let n = l.invariant.0 in
    let all = l.invariant.1 in
    let k = c.in-Some._name.now in
    let s = c.next_key.new.self in
    let named : read_key l.reader ≡ Some (Some k, s) = grind arith in
    let done = c.in_ok-pass_value.ensures.plain in
    let r = c.pass_value.new.reader in
    let less = read_key-shorter l.reader (Some k) s named in
    let lesser = c.in_ok-pass_value.ensures.shorter in (
      n - 1,
      put k done.0 all,
      omega (arith, l.invariant.2),
      l.invariant.3 ∙ member_read p all n k l.reader s r done.0 (omega (arith, l.invariant.2)) named done.1,
      put_plain c.args.most k done.0 all done.2 l.invariant.4,
      omega (arith, l.invariant.5),
    )

pub pass_members-returns-clause-plain : goal.pass_members-returns-clause-plain
pass_members-returns-clause-plain t c =
    let l = c.members in
    let all = l.invariant.1 in
    let over : read_key l.reader ≡ Some (None, c.next_key.new.self) = grind arith in
    (all, l.invariant.3 ∙ members_over (value c.args.depth) all l.invariant.0 l.reader c.next_key.new.self l.invariant.2 over, l.invariant.4)

pub pass_value-returns-in-String-clause-plain : goal.pass_value-returns-in-String-clause-plain
pass_value-returns-in-String-clause-plain t c =
    let first : c.args.reader.now ≡ token_of c.in_ok-token.token ∷ c.next.new.self = grind arith in
    let is : c.args.reader.now ≡ Token.string c.in-String._text.now ∷ c.next.new.self = grind (arith, first) in
    (text c.in-String._text.now, ap (converted tree_from) (ap (value c.args.depth) is ∙ value_is c.args.depth _), (omega arith, refl))

pub pass_value-returns-in-Number-clause-plain : goal.pass_value-returns-in-Number-clause-plain
pass_value-returns-in-Number-clause-plain t c =
    let first : c.args.reader.now ≡ token_of c.in_ok-token.token ∷ c.next.new.self = grind arith in
    let is : c.args.reader.now ≡ Token.number c.in-Number.text.now ∷ c.next.new.self = grind (arith, first) in
    if_some c.pass_number.result
    (λ n. (whole n.0, ap (converted tree_from) (ap (value c.args.depth) is ∙ value_is c.args.depth _) ∙ ap (option_map (λ b. (b, c.next.new.self))) n.1, (omega arith, refl)))
    c.pass_number.ensures

pub pass_value-returns-in-Bool-clause-plain : goal.pass_value-returns-in-Bool-clause-plain
pass_value-returns-in-Bool-clause-plain t c =
    let first : c.args.reader.now ≡ token_of c.in_ok-token.token ∷ c.next.new.self = grind arith in
    let is : c.args.reader.now ≡ Token.boolean c.in-Bool._b ∷ c.next.new.self = grind (arith, first) in
    (boolean c.in-Bool._b, ap (converted tree_from) (ap (value c.args.depth) is ∙ value_is c.args.depth _), (omega arith, refl))

pub pass_value-returns-in-Null-clause-plain : goal.pass_value-returns-in-Null-clause-plain
pass_value-returns-in-Null-clause-plain t c =
    let first : c.args.reader.now ≡ token_of c.in_ok-token.token ∷ c.next.new.self = grind arith in
    let is : c.args.reader.now ≡ Token.null ∷ c.next.new.self = grind (arith, first) in
    (null, ap (converted tree_from) (ap (value c.args.depth) is ∙ value_is c.args.depth _), (omega arith, refl))

pub pass_value-returns-else-most-eq0-clause-plain : goal.pass_value-returns-else-most-eq0-clause-plain
pass_value-returns-else-most-eq0-clause-plain t c =
    let first : c.args.reader.now ≡ token_of c.in_ok-token.token ∷ c.next.new.self = grind arith in
    let is : c.args.reader.now ≡ Token.begin_array ∷ c.next.new.self = first ∙ ap (λ k. token_of k ∷ c.next.new.self) c.in-BeginArray.is in
    let rest = c.pass_items.new.reader in
    if_some c.pass_items.result
    (λ inner. subst (λ ts. Passes (converted tree_from (value c.args.depth ts)) rest (IsPlain c.args.most)) (sym is) (list_passed c.args.depth c.args.most c.next.new.self rest (omega arith) c.requires.within inner))
    c.pass_items.ensures.plain

pub pass_value-returns-else-most-eq0-2-clause-plain : goal.pass_value-returns-else-most-eq0-2-clause-plain
pass_value-returns-else-most-eq0-2-clause-plain t c =
    let first : c.args.reader.now ≡ token_of c.in_ok-token.token ∷ c.next.new.self = grind arith in
    let is : c.args.reader.now ≡ Token.begin_object ∷ c.next.new.self = first ∙ ap (λ k. token_of k ∷ c.next.new.self) c.in-BeginObject.is in
    let rest = c.pass_members.new.reader in
    if_some c.pass_members.result
    (λ inner. subst (λ ts. Passes (converted tree_from (value c.args.depth ts)) rest (IsPlain c.args.most)) (sym is) (object_passed c.args.depth c.args.most c.next.new.self rest (omega arith) c.requires.within inner))
    c.pass_members.ensures.plain
