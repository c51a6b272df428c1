use Rattle.std.proofs.Common.{◌≡◌, ◌-◌, length, map, Some, None, refl, ap, ◌∙◌, arith}
use Rattle.json.specs.Json.{read_key, value}
use Rattle.json.proofs.Grammar.{read_key-shorter}
use Rattle.flag_text.specs.Grammar.{put}
use Rattle.flag_text.specs.Readers.{find_member}
use Rattle.flag_text.specs.Shape.{no_members}
use Rattle.flag_text.specs.View.{members_view}
use Rattle.flag_text.proofs.Turns.{member_read, members_over}
use Rattle.member_names.proofs.Put.{put_plain, agree_more}
use Rattle.member_names.proofs.reading.kept_members.Goals as goal

pub members-init : goal.members-init
members-init c = (length c.args.reader.now, no_members, omega arith, refl, (omega arith, refl), λ name among. ap (λ es. find_member name (members_view es)) c.new-kept.ensures.empty)

pub members-preserved : goal.members-preserved
members-preserved c =
    let p = value 126 in
    let l = c.members in
    let n = l.invariant.0 in
    let all = l.invariant.1 in
    let k = c.in-Some.name.now in
    let s = c.next_key.new.self in
    let named : read_key l.reader ≡ Some (Some k, s) = grind arith in
    let done = c.in_ok-take_member.ensures.taken in
    let r = c.take_member.new.reader in
    let less = read_key-shorter l.reader (Some k) s named in
    let lesser = c.in_ok-take_member.ensures.shorter in (
      n - 1,
      put k done.0 all,
      omega (arith, l.invariant.2),
      l.invariant.3 ∙ member_read p all n k l.reader s r done.0 (omega (arith, l.invariant.2)) named done.1,
      put_plain 119 k done.0 all done.2.0 l.invariant.4,
      agree_more (map (λ m. m.now) c.args.names.now) k done.0 (members_view l.kept.entries) (members_view c.take_member.new.kept.entries) all done.2.1 l.invariant.5,
    )

pub returns : goal.returns
returns c =
    let l = c.members in
    let all = l.invariant.1 in
    let over : read_key l.reader ≡ Some (None, c.next_key.new.self) = grind arith in
    (all, l.invariant.3 ∙ members_over (value 126) all l.invariant.0 l.reader c.next_key.new.self l.invariant.2 over, (l.invariant.4, l.invariant.5))
