-- A file can hold the numbers of each rule and of each set of names.
use Rattle.std.proofs.Common.{◌≡◌, ℕ, pos, ◌<◌, ◌^◌, List, [], ◌∷◌, true, refl, arith}
use Rattle.std.specs.List.{AllByRecursion}
use Rattle.std.proofs.lemmas.Bool.{lt-ltb}
use Rattle.flag_text.proofs.Bools.{both, left, right}
use Rattle.flag_text.specs.Shape.{text, is_in_range, is_whole, items_are_whole}
use Rattle.bucket_core.specs.Rule.{Entries, IsRuleTotal, total_weight}
use Rattle.transport_core.specs.Certificate.{DualPrices}
use Rattle.transport_core.specs.declared.certificate.CutKind.{CutKind}
use Rattle.transport_core.specs.declared.certificate.CutKind.TheVariants.{Over, Under}
use Rattle.plan_text.specs.Answer.{emit, none_exists}
use Rattle.transport_core.specs.WrittenCertificate.{items_by, alpha_written, has_whole_numbers}
use Rattle.plan_text.specs.PlanFile.{entry_written, IsWhole}
use Rattle.plan_text.proofs.Orders.{weights_small}

entry_whole : (e : List ℕ × ℕ) → e.1 < 2 ^ 31 → is_whole (entry_written e) ≡ true
entry_whole e small = rw (lt-ltb e.1 (2 ^ 53) (omega arith)) refl

entries_whole : (rule : Entries) → AllByRecursion (λ e. e.1 < 2 ^ 31) rule → items_are_whole (items_by entry_written rule) ≡ true
entries_whole [] small = refl
entries_whole (e ∷ es) small = both (is_whole (entry_written e)) _ (entry_whole e small.0) (entries_whole es small.1)

names_whole : (names : List (List ℕ)) → items_are_whole (items_by text names) ≡ true
names_whole [] = refl
names_whole (name ∷ names) = names_whole names

pub emit_whole : (rule : Entries) (c : DualPrices) → IsRuleTotal (total_weight rule) → has_whole_numbers c ≡ true → IsWhole (emit rule c)
emit_whole rule c total h =
    let cost = left (is_in_range (pos c.cost)) _ h in
    let rows = right (is_in_range (pos c.cost)) _ h in
    let alpha = left (items_are_whole (items_by alpha_written c.alpha)) _ rows in
    let beta = right (items_are_whole (items_by alpha_written c.alpha)) _ rows in
    let entries = entries_whole rule (weights_small (2 ^ 31) rule total.small) in
    both _ _ alpha (both _ _ beta (both _ _ cost (both _ _ entries refl)))

pub none_whole : (kind : CutKind) (names : List (List ℕ)) → IsWhole (none_exists kind names)
none_whole Over names = both _ _ (names_whole names) refl
none_whole Under names = both _ _ (names_whole names) refl
