use Rattle.std.proofs.Common.{◌≡◌, ◌≤◌, ℕ, List, Some, ap, sym, ◌∙◌, subst}
use Rattle.murmur_core.specs.Murmur.{hash}
use Rattle.bucket_core.specs.Rule.{choice, entry_name}
use Rattle.price_core.specs.Cost.{input_cost, name_of_input}
use Rattle.price_core.specs.Pricing.{max_price}
use Rattle.price_core.proofs.Numbered.{Rules, chosen, choice_at}
use Rattle.price_core.proofs.Pricings.{price_small}
use Rattle.price_core.proofs.switching.Switching.cost.Goals as goal
use Rattle.price_core.proofs.switching.Switching.cost.Goals.{After-price}

value : (c : After-price) → c.price.result ≡ input_cost c.args.self.now.0 c.args.self.now.1 c.args.self.now.2 c.args.input.now
value c =
    let s = c.self.inside in
    let input = c.args.input.now in
    let hashed = c.hash-hash.ensures ∙ ap (λ (bytes : List ℕ). hash bytes 0) c.as_bytes.ensures.value in
    let old : choice s.old.now input ≡ entry_name s.old.now c.entry_at-from.result =
    choice_at s.old.now input c.total.result c.hash-hash.result c.scale.result c.total.ensures.value hashed c.scale.ensures.value ∙ c.entry_at-from.ensures.name in
    let new : choice s.new.now input ≡ entry_name s.new.now c.entry_at-to.result =
    choice_at s.new.now input c.total-2.result c.hash-hash.result c.scale-2.result c.total-2.ensures.value hashed c.scale-2.ensures.value ∙ c.entry_at-to.ensures.name in
    c.price.ensures.value (name_of_input c.args.self.now.0 input) (name_of_input c.args.self.now.1 input)
    (subst (λ (w : Rules). entry_name w.0 c.entry_at-from.result ≡ Some (name_of_input w.0 input)) c.self.view_is (chosen s.old.now c.entry_at-from.result input c.entry_at-from.ensures.within old))
    (subst (λ (w : Rules). entry_name w.1 c.entry_at-to.result ≡ Some (name_of_input w.1 input)) c.self.view_is (chosen s.new.now c.entry_at-to.result input c.entry_at-to.ensures.within new))

pub returns-clause-value : goal.returns-clause-value
returns-clause-value c = value c

pub returns-clause-small : goal.returns-clause-small
returns-clause-small c =
    let input = c.args.input.now in
    let rules = c.args.self.now in
    subst (λ n. n ≤ max_price) (sym (value c)) (price_small rules.2 (name_of_input rules.0 input) (name_of_input rules.1 input) c.price.ensures.lawful)
