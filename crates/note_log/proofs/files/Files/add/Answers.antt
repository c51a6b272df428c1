use Rattle.std.proofs.Common.{◌≡◌, ◌++◌, ◌∷◌, ◌+◌, ℕ, List, [], rules, subst, sym}
use Rattle.note_log.specs.Files.{AreBelow}
use Rattle.note_log.proofs.Numbers.{given_below, given_fresh}
use Rattle.note_log.proofs.files.Files.add.Goals as goal

-- the number was not taken
pub invariant_of-self : goal.invariant_of-self
invariant_of-self c =
    let self = c.args.self.now in
    let same : c.push.new.self.items ≡ self.numbers.items = search rules in
    record { below = subst (λ (ns : List ℕ). ∥ AreBelow self.next ns self.history.items ∥₁) (sym same) self.below }

pub invariant_of-self-2 : goal.invariant_of-self-2
invariant_of-self-2 c =
    let self = c.args.self.now in
    let more : c.push.new.self.items ≡ self.numbers.items ++ self.next ∷ [] = search rules in
    let after : c.in_ok-next.next ≡ self.next + 1 = search rules in
    record { below = given_below self.next c.in_ok-next.next self.numbers.items c.push.new.self.items self.history.items after more self.below }

pub returns-clause-fresh : goal.returns-clause-fresh
returns-clause-fresh c = given_fresh c.args.self.now.next c.args.self.now.numbers.items c.args.self.now.history.items c.args.self.now.below
