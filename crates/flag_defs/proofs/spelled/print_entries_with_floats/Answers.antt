use Rattle.std.proofs.Common.{◌≡◌, ℕ, List, Bool, true, false, sym, ap, ◌∙◌}
use Rattle.std.specs.Prelude.{if◌then◌else◌}
use Rattle.std.proofs.lemmas.Result.{IfOk-weaker}
use Rattle.flag_defs.specs.Document.{printed}
use Rattle.flag_defs.specs.Flag.{entries_view}
use Rattle.flag_defs.specs.Floats.{are_unmarked, entries_floats}
use Rattle.flag_defs.specs.Spelled.{flags_spelled}
use Rattle.flag_defs.proofs.spelled.print_entries_with_floats.Goals as goal

here : (b : Bool) (x y : List ℕ) → b ≡ true → (if b then x else y) ≡ x
here b x y e = ap (λ (a : Bool). if a then x else y) e

there : (b : Bool) (x y : List ℕ) → b ≡ false → (if b then x else y) ≡ y
there b x y e = ap (λ (a : Bool). if a then x else y) e

pub returns-then-are_unmarked : goal.returns-then-are_unmarked
returns-then-are_unmarked c =
    let es = c.args.flags.now in
    let fs = entries_view es in
    let ms = entries_floats es in
    let none : are_unmarked ms ≡ true = sym c.if-are_unmarked.ensures in
    IfOk-weaker c.print_entries.result _ _ (λ v e. e ∙ sym (here (are_unmarked ms) (printed fs) (flags_spelled fs ms) none)) c.print_entries.ensures.text

pub returns-else-are_unmarked : goal.returns-else-are_unmarked
returns-else-are_unmarked c =
    let es = c.args.flags.now in
    let fs = entries_view es in
    let ms = entries_floats es in
    let some : are_unmarked ms ≡ false = sym c.if-are_unmarked.ensures in
    IfOk-weaker c.print_spelled.result _ _ (λ v e. e ∙ sym (there (are_unmarked ms) (printed fs) (flags_spelled fs ms) some)) c.print_spelled.ensures
