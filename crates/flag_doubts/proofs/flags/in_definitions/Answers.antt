use Rattle.std.proofs.Common.{◌≡◌, ◌-◌, ◌||◌, ◌&&◌, ◌++◌, [], ◌∷◌, length, is_some, nat_lt, string_bytes, Some, refl, sym, ap, ap₂, ◌∙◌, append-nil, arith}
use Rattle.std.specs.BTreeMap.{is_at}
use Rattle.std.specs.Cmp.Lexicographic.{slice_cmp}
use Rattle.std.specs.Map.{lookup}
use Rattle.std.specs.Ordering.{nat_cmp}
use Rattle.std.specs.Str.{bytes_eq}
use Rattle.json.specs.Json.{read_key, members, value, no_members, member}
use Rattle.json.proofs.Grammar.{read_key-shorter}
use Rattle.member_names.specs.Repeated.{member_names}
use Rattle.member_names.proofs.Grammar.{joined, members_first, member_taken, member_refused, key_refused, members_over, member_names-more}
use Rattle.member_names.proofs.Open.{no_key, one_name, seen_more, added_names}
use Rattle.flag_doubts.specs.Doubled.{count_of}
use Rattle.flag_doubts.proofs.Grammar.{repeats_under-more, are_definitions_read-more}
use Rattle.flag_doubts.proofs.flags.in_definitions.Goals as goal

pub members-init : goal.members-init
members-init c = (
  length c.args.reader.now,
  no_members,
  [],
  omega arith,
  members_first (members (value c.args.depth) (length c.args.reader.now) c.args.reader.now),
  omega arith,
  λ key. ap (λ es. is_some (lookup (is_at (λ k. slice_cmp nat_cmp key (string_bytes k))) es)) c.new-definitions.ensures.empty,
  refl,
  sym (append-nil c.args.names.now.items),
  refl,
)

pub returns-in_err-key-clause-err : goal.returns-in_err-key-clause-err
returns-in_err-key-clause-err c = λ refused.
    let l = c.members in
    key_refused (value c.args.depth) l.invariant.0 l.reader _ l.invariant.1 l.invariant.4 (no_key c.next_key.result _ _ _ c.in_err-key.ensures c.next_key.ensures.value)

pub returns-in_err-found-clause-err : goal.returns-in_err-found-clause-err
returns-in_err-found-clause-err c = λ refused.
    let l = c.members in
    let k = c.in-Some.key.now in
    let s = c.next_key.new.self in
    let named : read_key l.reader ≡ Some (Some k, s) = grind arith in
    member_refused (value c.args.depth) l.invariant.0 l.reader _ l.invariant.1 l.invariant.4 k s named (c.in_definition.ensures.err (grind arith))

pub members-preserved : goal.members-preserved
members-preserved c =
    let l = c.members in
    let n = l.invariant.0 in
    let done = l.invariant.1 in
    let k = c.in-Some.key.now in
    let s = c.next_key.new.self in
    let r = c.in_definition.new.reader in
    let named : read_key l.reader ≡ Some (Some k, s) = grind arith in
    let read = c.in_ok-found.ensures.ok in
    let j = read.0 in
    let less = read_key-shorter l.reader (Some k) s named in
    let lesser = c.in_ok-found.ensures.shorter in (
      n - 1,
      joined done (member k j no_members),
      l.invariant.2 ++ c.in-Some.key ∷ [],
      omega (arith, l.invariant.3),
      member_taken (value c.args.depth) n l.reader _ done l.invariant.4 k s r j (omega (arith, l.invariant.3)) named read.1,
      omega (arith, l.invariant.5),
      λ key. c.in_ok-note.ensures key ∙ ap₂ (λ a b. a || (bytes_eq k key && b)) (l.invariant.6 key) read.2.place ∙ sym (repeats_under-more k j key done),
      ap₂ (λ a b. a && b) l.invariant.7 read.2.all_read ∙ sym (are_definitions_read-more k j done),
      one_name c.in_definition.new.names.items l.names.items c.args.names.now.items l.invariant.2 c.in-Some.key l.invariant.8 (c.in_ok-found.ensures.names ∙ c.in_ok-push.ensures.items),
      seen_more l.invariant.2 c.in-Some.key (member_names done) l.invariant.9 ∙ sym (member_names-more k j done),
    )

pub returns-clause-ok : goal.returns-clause-ok
returns-clause-ok c =
    let l = c.members in
    let done = l.invariant.1 in
    let many : c.len-outer.result ≡ length c.args.names.now.items = omega (arith, c.len-outer.ensures, c.args.names.now.ok.0) in
    let inner = added_names c.deref.result.now l.names.items c.args.names.now.items l.invariant.2 (member_names done) c.len-outer.result many c.deref.ensures.value l.invariant.8 l.invariant.9 in (
      done,
      members_over (value c.args.depth) l.invariant.0 l.reader _ done l.invariant.4 c.next_key.new.self l.invariant.3 (grind arith),
      record {
        keys = λ key. c.in_ok-keys.ensures.doubled key ∙ ap (λ ns. nat_lt 1 (count_of key ns)) inner;
        rising = c.in_ok-keys.ensures.rising;
        definitions = l.invariant.6;
        all_read = l.invariant.7;
      },
    )
