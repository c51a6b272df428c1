use Rattle.std.proofs.Common.{nat_cmp, rules, string_bytes, sym}
use Rattle.std.proofs.lemmas.Fn.{always_returns_same}
use Rattle.std.specs.Cmp.Lexicographic.{slice_cmp}
use Rattle.book_core.proofs.Listed.{found_among, missed_among}
use Rattle.flagops_checks.proofs.judging.is_among.Goals as goal

pub returns-in-Ok : goal.returns-in-Ok
returns-in-Ok c =
    let halved = c.in-Ok.ensures.position (λ other. slice_cmp nat_cmp (string_bytes other) c.args.key.now) (always_returns_same _ _ _ (λ a r h called. search rules)) in
    sym (found_among c.args.keys.now c.args.key.now c.in-Ok.field-0 c.in-Ok.ensures.bound halved)

pub returns-in-Err : goal.returns-in-Err
returns-in-Err c =
    let halved = c.in-Err.ensures.position (λ other. slice_cmp nat_cmp (string_bytes other) c.args.key.now) (always_returns_same _ _ _ (λ a r h called. search rules)) in
    sym (missed_among c.args.keys.now c.args.key.now c.in-Err.field-0 c.requires c.in-Err.ensures.bound halved)
