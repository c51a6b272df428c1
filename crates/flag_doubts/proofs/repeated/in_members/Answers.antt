use Rattle.std.proofs.Common.{◌≡◌, ◌-◌, ◌||◌, ◌&&◌, ◌++◌, [], ◌∷◌, not, true, false, codes, cond, length, is_some, Some, refl, sym, ap, ap₂, ◌∙◌, subst, append-nil, arith}
use Rattle.std.specs.List.{list_all}
use Rattle.std.specs.Str.{bytes_eq}
use Rattle.json.specs.Find.{get_member}
use Rattle.json.specs.Json.{read_key, members, value, no_members, member}
use Rattle.json.proofs.Grammar.{read_key-shorter}
use Rattle.member_names.specs.Unread.{reads}
use Rattle.member_names.specs.declared.reader.Reader.TheVariants as reader
use Rattle.member_names.specs.Repeated.{has_twin, member_names, repeats}
use Rattle.member_names.proofs.Grammar.{joined, members_first, member_taken, member_refused, key_refused, members_over, member_names-more}
use Rattle.member_names.proofs.Open.{no_key, one_name, seen_more, added_names}
use Rattle.member_names.proofs.Placing.{behind_is_told, place_is_told, twin_is_told}
use Rattle.flag_doubts.specs.AllRead.{are_definitions_read, are_flags_read}
use Rattle.flag_doubts.specs.Doubled.{members_in}
use Rattle.flag_doubts.specs.FoundFlags.{FindsIn}
use Rattle.flag_doubts.specs.Repeated.{repeats_beside}
use Rattle.flag_doubts.proofs.Grammar.{repeats_beside-more, get_member-more, are_flags_read-more, and_true, or_none}
use Rattle.flag_doubts.proofs.Others.{finds_whole}
use Rattle.flag_doubts.proofs.repeated.in_members.Goals as goal

pub members-init : goal.members-init
members-init c = (
  length c.args.reader.now,
  no_members,
  [],
  omega arith,
  members_first (members (value c.args.depth) (length c.args.reader.now) c.args.reader.now),
  omega arith,
  c.none-flags.ensures,
  refl,
  refl,
  sym (append-nil c.args.names.now.items),
  refl,
)

pub returns-in_err-name-clause-err : goal.returns-in_err-name-clause-err
returns-in_err-name-clause-err c = λ refused.
    let l = c.members in
    key_refused (value c.args.depth) l.invariant.0 l.reader _ l.invariant.1 l.invariant.4 (no_key c.next_key.result _ _ _ c.in_err-name.ensures c.next_key.ensures.value)

pub returns-in_err-flags-clause-err : goal.returns-in_err-flags-clause-err
returns-in_err-flags-clause-err c = λ refused.
    let l = c.members in
    let k = c.in-Some.name.now in
    let s = c.next_key.new.self in
    let named : read_key l.reader ≡ Some (Some k, s) = grind arith in
    member_refused (value c.args.depth) l.invariant.0 l.reader _ l.invariant.1 l.invariant.4 k s named (c.in_flags.ensures.err (grind arith))

pub returns-in_err-inner-clause-err : goal.returns-in_err-inner-clause-err
returns-in_err-inner-clause-err c = λ refused.
    let l = c.members in
    let k = c.in-Some.name.now in
    let s = c.next_key.new.self in
    let named : read_key l.reader ≡ Some (Some k, s) = grind arith in
    member_refused (value c.args.depth) l.invariant.0 l.reader _ l.invariant.1 l.invariant.4 k s named (c.place_in.ensures.err (grind arith))

pub members-preserved-then-eq : goal.members-preserved-then-eq
members-preserved-then-eq c =
    let l = c.members in
    let n = l.invariant.0 in
    let done = l.invariant.1 in
    let k = c.in-Some.name.now in
    let s = c.next_key.new.self in
    let r = c.in_flags.new.reader in
    let named : read_key l.reader ≡ Some (Some k, s) = grind arith in
    let read = c.in_ok-flags.ensures.ok in
    let j = read.0 in
    let less = read_key-shorter l.reader (Some k) s named in
    let lesser = c.in_ok-flags.ensures.shorter in
    let is : bytes_eq k (codes "flags") ≡ true = sym c.if-eq.ensures in
    let last = get_member-more k j (codes "flags") done ∙ ap (λ b. cond b (Some j) (get_member (codes "flags") done)) is in
    let beside = repeats_beside-more k j done ∙ ap (λ b. repeats_beside done || (not b && repeats j)) is in
    let taken = are_flags_read-more k j done ∙ ap (λ b. are_flags_read done && (not b || are_definitions_read (members_in (Some j)))) is in (
      n - 1,
      joined done (member k j no_members),
      l.invariant.2 ++ c.in-Some.name ∷ [],
      omega (arith, l.invariant.3),
      member_taken (value c.args.depth) n l.reader _ done l.invariant.4 k s r j (omega (arith, l.invariant.3)) named read.1,
      omega (arith, l.invariant.5),
      subst (λ o. FindsIn o c.in_ok-flags.flags) (sym last) read.2,
      l.invariant.7 ∙ sym (beside ∙ or_none (repeats_beside done)),
      ap₂ (λ a b. a && b) l.invariant.8 read.2.all_read ∙ sym taken,
      one_name c.in_flags.new.names.items l.names.items c.args.names.now.items l.invariant.2 c.in-Some.name l.invariant.9 (c.in_ok-flags.ensures.names ∙ c.in_ok-push.ensures.items),
      seen_more l.invariant.2 c.in-Some.name (member_names done) l.invariant.10 ∙ sym (member_names-more k j done),
    )

pub members-preserved : goal.members-preserved
members-preserved c =
    let l = c.members in
    let n = l.invariant.0 in
    let done = l.invariant.1 in
    let k = c.in-Some.name.now in
    let s = c.next_key.new.self in
    let r = c.place_in.new.reader in
    let named : read_key l.reader ≡ Some (Some k, s) = grind arith in
    let read = c.in_ok-inner.ensures.ok in
    let j = read.0 in
    let less = read_key-shorter l.reader (Some k) s named in
    let lesser = c.in_ok-inner.ensures.shorter in
    let is : bytes_eq k (codes "flags") ≡ false = sym c.if-eq.ensures in
    let last = get_member-more k j (codes "flags") done ∙ ap (λ b. cond b (Some j) (get_member (codes "flags") done)) is in
    let beside = repeats_beside-more k j done ∙ ap (λ b. repeats_beside done || (not b && repeats j)) is in
    let taken = are_flags_read-more k j done ∙ ap (λ b. are_flags_read done && (not b || are_definitions_read (members_in (Some j)))) is in (
      n - 1,
      joined done (member k j no_members),
      l.invariant.2 ++ c.in-Some.name ∷ [],
      omega (arith, l.invariant.3),
      member_taken (value c.args.depth) n l.reader _ done l.invariant.4 k s r j (omega (arith, l.invariant.3)) named read.1,
      omega (arith, l.invariant.5),
      subst (λ o. FindsIn o l.flags) (sym last) l.invariant.6,
      behind_is_told _ _ _ _ c.in_ok-place.ensures ∙ ap₂ (λ a b. a || b) l.invariant.7 (place_is_told _ j read.2) ∙ sym beside,
      l.invariant.8 ∙ sym (taken ∙ and_true (are_flags_read done)),
      one_name c.place_in.new.names.items l.names.items c.args.names.now.items l.invariant.2 c.in-Some.name l.invariant.9 (c.in_ok-inner.ensures.names ∙ c.in_ok-push.ensures.items),
      seen_more l.invariant.2 c.in-Some.name (member_names done) l.invariant.10 ∙ sym (member_names-more k j done),
    )

pub returns-clause-ok : goal.returns-clause-ok
returns-clause-ok c =
    let l = c.members in
    let done = l.invariant.1 in
    let many : c.len-outer.result ≡ length c.args.names.now.items = omega (arith, c.len-outer.ensures, c.args.names.now.ok.0) in
    let inner = added_names c.deref.result.now l.names.items c.args.names.now.items l.invariant.2 (member_names done) c.len-outer.result many c.deref.ensures.value l.invariant.9 l.invariant.10 in (
      done,
      members_over (value c.args.depth) l.invariant.0 l.reader _ done l.invariant.4 c.next_key.new.self l.invariant.3 (grind arith),
      finds_whole done l.flags _ c.told.ensures.flags l.invariant.6 (ap (λ o. is_some o) c.told.ensures.document ∙ twin_is_told _ l.place _ (member_names done) c.in_ok-twin_or.ensures inner ∙ ap (λ b. has_twin (member_names done) || b) l.invariant.7)
          (c.told.ensures.all_read ∙ ap₂ (λ a b. a && b) (c.takes_each.ensures ∙ ap (list_all (reads reader.Document)) inner) l.invariant.8),
    )
