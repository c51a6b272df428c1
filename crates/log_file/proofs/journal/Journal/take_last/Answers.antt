use Rattle.std.proofs.Common.{◌≡◌, ℕ, List, rules, subst, sym}
use Rattle.log_file.specs.Line.{EndsLine}
use Rattle.log_file.proofs.journal.Journal.take_last.Goals as goal

pub returns-clause-whole : goal.returns-clause-whole
returns-clause-whole g c =
    let same : c.from_vec-last.result.items ≡ c.args.self.now.last.items = search rules in
    subst (λ (t : List ℕ). ∥ EndsLine t ∥₁) (sym same) c.args.self.now.is_whole
