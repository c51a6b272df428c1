-- sorted keys, each once, are the inputs that the keys come to
use Rattle.std.proofs.Common.{◌≡◌, [], ◌∷◌, false, sym, ap, ◌∙◌, subst, arith, rules}
use Rattle.std.specs.Str.{bytes_eq}
use Rattle.std.proofs.lemmas.List.Filters.{dedup_is}
use Rattle.flagops_shell.specs.Outcomes.{◌>>=◌}
use Rattle.flagops_commands.specs.Refusal.{GivesUnlessWant, is_want}
use Rattle.flagops_shell.specs.Report.{outcome_view}
use Rattle.rule_text.specs.Texts.{texts_view}
use Rattle.flagops_commands.specs.Price.{are_taken, weighed}
use Rattle.flagops_commands.proofs.Distinct.{exposed-apart}
use Rattle.flagops_files.specs.Told.{NamesOne, file, word}
use Rattle.flagops_commands.specs.Subjects.{is_of_keys, is_of_rules, old_weights}
use Rattle.flagops_commands.proofs.Gathered.{few_taken}
use Rattle.flagops_rollouts.proofs.Telling.{told_among}
use Rattle.flagops_commands.proofs.rules.price.weigh_keys.Goals as goal

pub returns-then-are_taken-clause-exact : goal.returns-then-are_taken-clause-exact
returns-then-are_taken-clause-exact g c =
    let sorted = c.sort_keys.new.keys.items in
    let distinct = c.dedup.new.self.items in
    let once = dedup_is (λ x y. bytes_eq x.now y.now) sorted distinct c.dedup.ensures.filtered in
    let same = exposed-apart c.args.keys.items sorted distinct (ap are_taken (sym c.as_slice.ensures.value) ∙ sym c.if-are_taken.ensures) c.sort_keys.ensures.permutation c.sort_keys.ensures.sorted once in
    let weigh = weighed c.args.json c.args.old.now c.args.new.now c.args.prices.now in
    subst (λ wanted. GivesUnlessWant outcome_view c.priced.result wanted) (ap (λ xs. weigh (texts_view xs)) c.as_slice-then-are_taken.ensures.value ∙ sym (ap (λ r. r >>= weigh) same)) c.priced.ensures.exact

pub priced-requires-clause-few : goal.priced-requires-clause-few
priced-requires-clause-few g c =
    let few = few_taken c.args.keys.items (ap are_taken (sym c.as_slice.ensures.value) ∙ sym c.if-are_taken.ensures) in
    omega (arith, few, c.dedup.ensures.bound, c.sort_keys.ensures.len, c.as_slice-then-are_taken.ensures.len)

pub returns-in_err-exposure-clause-names : goal.returns-in_err-exposure-clause-names
returns-in_err-exposure-clause-names g c =
    let refused = c.in_err-exposure.field-0.0 in
    let told : is_want refused.refusal ≡ false → NamesOne ((file c.args.path.now, is_of_keys) ∷ (word old_weights, is_of_rules) ∷ []) refused.refusal refused.remark =
    λ wanted. told_among [] (file c.args.path.now, is_of_keys) ((word old_weights, is_of_rules) ∷ []) refused.refusal refused.remark (c.in_err-exposure.ensures.names wanted) in
    search (told, rules)
