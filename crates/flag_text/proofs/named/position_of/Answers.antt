use Rattle.std.proofs.Common.{get_or, nat_cmp, rules}
use Rattle.std.specs.Cmp.Lexicographic.{slice_cmp}
use Rattle.std.proofs.lemmas.Fn.{always_returns_same}
use Rattle.flag_text.proofs.Halving.{name_of, same_name, searchable, apart, found_at, found_none}
use Rattle.flag_text.proofs.named.position_of.Goals as goal

pub returns-in-Ok-clause-named : goal.returns-in-Ok-clause-named
returns-in-Ok-clause-named c = λ d.
    let at = c.in-Ok.ensures.position (λ m. slice_cmp nat_cmp (name_of m) c.args.name.now) (always_returns_same _ _ _ (λ a r q k. search rules)) in
    same_name (name_of (get_or c.args.members.now c.in-Ok.i d)) c.args.name.now (at d)

pub returns-in-Ok-clause-found : goal.returns-in-Ok-clause-found
returns-in-Ok-clause-found c = λ d.
    let at = c.in-Ok.ensures.position (λ m. slice_cmp nat_cmp (name_of m) c.args.name.now) (always_returns_same _ _ _ (λ a r q k. search rules)) in
    found_at c.args.members.now c.args.name.now c.requires.rising c.in-Ok.i d c.in-Ok.ensures.bound (at d)

pub returns-in-Err-clause-found : goal.returns-in-Err-clause-found
returns-in-Err-clause-found c =
    let parts = c.in-Err.ensures.position (λ m. slice_cmp nat_cmp (name_of m) c.args.name.now) (always_returns_same _ _ _ (λ a r q k. search rules)) (searchable c.args.members.now c.args.name.now c.requires.rising) in
    found_none c.args.members.now c.args.name.now (apart c.args.members.now c.args.name.now c.in-Err.field-0 parts.0 parts.1)
