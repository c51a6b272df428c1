use Rattle.std.proofs.Common.{◌≡◌, ℕ, ◌+◌, if◌then◌else◌, length, Option, None, is_some, hash_map_len, ap, sym, ◌∙◌, subst, arith}
use Rattle.std.proofs.lemmas.List.{length-map}
use Rattle.price_core.specs.Numbering.{IsNumbering, Numbers, numbers_view, number_of, number_view}
use Rattle.price_core.proofs.Numbered.{Adds, adds_inserted, added, keeps_more, number-borrowed, numbering_more}
use Rattle.price_core.proofs.numbering.Numbering.add.Goals as goal
use Rattle.price_core.proofs.numbering.Numbering.add.Goals.{In_ok-insert}

adds : (c : In_ok-insert) → Adds c.args.self.now c.args.name.now c.len-number.result (numbers_view c.insert.new.self.entries)
adds c = adds_inserted c.self.inside.by_name c.insert.new.self c.args.self.now c.args.name.now c.len-number.result c.self.view_is c.in_ok-insert.ensures.updates

absent : (c : In_ok-insert) → number_of c.args.self.now c.args.name.now ≡ None
absent c = sym c.get.ensures ∙ c.in_default.is

pub returns-in-Some-clause-numbered : goal.returns-in-Some-clause-numbered
returns-in-Some-clause-numbered c = sym c.get.ensures ∙ c.in-Some.is

pub invariant_of-self-2 : goal.invariant_of-self-2
invariant_of-self-2 c =
    let name = c.args.name.now in
    let before = c.self.inside.by_name in
    let after = c.insert.new.self in
    let as_many : length (numbers_view before.entries) ≡ length c.args.self.now = ap (λ (ns : Numbers). length ns) c.self.view_is in
    let none : c.in_ok-insert.field-0 ≡ None = c.in_ok-insert.ensures.old ∙ (number-borrowed name before.entries ∙ (ap (λ (ns : Numbers). number_of ns name) c.self.view_is ∙ absent c)) in
    let more : hash_map_len after ≡ hash_map_len before + 1 = c.in_ok-insert.ensures.len ∙ ap (λ (o : Option ℕ). hash_map_len before + (if is_some o then 0 else 1)) none in
    let seen_before = length-map before.entries number_view in
    let seen_after = length-map after.entries number_view in
    numbering_more c.args.self.now (numbers_view after.entries) name c.len-number.result (subst IsNumbering c.self.view_is c.self.invariant) (omega (arith, c.len-number.ensures.len, seen_before, as_many)) (adds c) (omega (arith, more, seen_before, seen_after, as_many))

pub returns-clause-numbered : goal.returns-clause-numbered
returns-clause-numbered c = added c.args.self.now (numbers_view c.insert.new.self.entries) c.args.name.now c.len-number.result (adds c)

pub returns-clause-keeps : goal.returns-clause-keeps
returns-clause-keeps c = keeps_more c.args.self.now (numbers_view c.insert.new.self.entries) c.args.name.now c.len-number.result (absent c) (adds c)
