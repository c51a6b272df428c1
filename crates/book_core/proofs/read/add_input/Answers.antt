use Rattle.std.proofs.Common.{◌≡◌, ◌++◌, [], ◌∷◌, true, map, string_bytes, sym, ap, ap₂, ◌∙◌, subst}
use Rattle.std.specs.List.Sorted.{IsStrictlySortedBy}
use Rattle.std.proofs.lemmas.List.{map-append}
use Rattle.book_core.specs.Page.{bytes_cmp}
use Rattle.book_core.specs.Reading.{is_above}
use Rattle.book_core.proofs.Listed.{sorted_above}
use Rattle.book_core.proofs.read.add_input.Goals as goal

pub returns-clause-added : goal.returns-clause-added
returns-clause-added c = ap (map string_bytes) c.in_ok-push.ensures.items ∙ map-append string_bytes c.args.inputs.now.items (c.args.input ∷ [])

pub returns-clause-rising : goal.returns-clause-rising
returns-clause-rising c =
    let inputs = map string_bytes c.args.inputs.now.items in
    let input = string_bytes c.args.input in
    let above : is_above inputs input ≡ true =
    sym (ap₂ (λ xs t. is_above (map string_bytes xs) t) c.as_slice.ensures.value c.as_str.ensures.value) ∙ sym c.is_above.ensures ∙ c.if-not-is_above.false in
    let more : map string_bytes c.push.new.self.items ≡ inputs ++ input ∷ [] = ap (map string_bytes) c.in_ok-push.ensures.items ∙ map-append string_bytes c.args.inputs.now.items (c.args.input ∷ []) in
    subst (IsStrictlySortedBy bytes_cmp) (sym more) (sorted_above inputs input c.requires above)
