use Rattle.std.proofs.Common.{◌≡◌, ◌||◌, length, ap, ◌∙◌, arith}
use Rattle.std.specs.List.{list_all}
use Rattle.member_names.specs.Unread.{reads}
use Rattle.member_names.specs.declared.reader.Reader.TheVariants as reader
use Rattle.member_names.specs.Repeated.{has_twin, member_names}
use Rattle.member_names.proofs.Open.{added_names}
use Rattle.member_names.proofs.Placing.{members_are_told, twin_is_told}
use Rattle.flag_doubts.proofs.definition.in_rules.Goals as goal

pub returns-clause-ok : goal.returns-clause-ok
returns-clause-ok c =
    let read = c.in_ok-inner.ensures.ok in
    let left = read.2.1 in
    let many : c.len-outer.result ≡ length c.args.names.now.items = omega (arith, c.len-outer.ensures, c.args.names.now.ok.0) in
    let inner = added_names c.deref.result.now c.with_members.new.names.items c.args.names.now.items left.0 (member_names read.0) c.len-outer.result many c.deref.ensures.value left.1 left.2 in (
      read.0,
      read.1,
      record {
        place = twin_is_told _ c.in_ok-inner.inner _ (member_names read.0) c.in_ok-place.ensures inner ∙ ap (λ b. has_twin (member_names read.0) || b) (members_are_told c.in_ok-inner.inner read.0 read.2.0);
        all_read = c.takes_each-all_read.ensures ∙ ap (list_all (reads reader.Definition)) inner;
      },
    )
