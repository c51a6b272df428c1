use Rattle.std.proofs.Common.{◌≡◌, [], ◌∷◌, true, map, string_bytes, sym, ap, ap₂, ◌∙◌}
use Rattle.std.specs.BTreeSet.{insert_key}
use Rattle.std.specs.Cmp.Lexicographic.{nat_list_cmp_total}
use Rattle.std.proofs.lemmas.List.{map-append}
use Rattle.book_core.specs.Book.{inputs_view}
use Rattle.book_core.specs.Page.{bytes_cmp}
use Rattle.book_core.specs.Reading.{is_above}
use Rattle.book_core.proofs.Ordered.{insert_key-map}
use Rattle.book_core.proofs.Taken.{insert_key-above}
use Rattle.book_core.proofs.inputs.PageInputs.insert.Goals as goal

pub returns-in-Gathered-clause-inserted : goal.returns-in-Gathered-clause-inserted
returns-in-Gathered-clause-inserted c =
    ap (map string_bytes) c.in_ok-insert-in-Gathered.ensures.keys ∙ insert_key-map string_bytes bytes_cmp c.in-Gathered.set.keys c.args.input
    ∙ sym (ap (λ inputs. insert_key bytes_cmp (inputs_view inputs) (string_bytes c.args.input)) c.in-Gathered.is)

pub returns-then-is_above-clause-inserted : goal.returns-then-is_above-clause-inserted
returns-then-is_above-clause-inserted c =
    let list = c.in-Listed.list.items in
    let input = string_bytes c.args.input in
    let above : is_above (map string_bytes list) input ≡ true =
    sym (ap₂ (λ xs t. is_above (map string_bytes xs) t) c.as_slice.ensures.value c.as_str.ensures.value) ∙ sym c.is_above.ensures ∙ c.if-is_above.true in
    ap (map string_bytes) c.in_ok-push-in-Listed.ensures.items ∙ map-append string_bytes list (c.args.input ∷ [])
    ∙ sym (insert_key-above nat_list_cmp_total (map string_bytes list) input above) ∙ sym (ap (λ inputs. insert_key bytes_cmp (inputs_view inputs) input) c.in-Listed.is)

pub returns-clause-inserted : goal.returns-clause-inserted
returns-clause-inserted c =
    let input = string_bytes c.args.input in
    ap (map string_bytes) c.in_ok-insert.ensures.keys ∙ insert_key-map string_bytes bytes_cmp c.in_ok-set-in-Listed.set.keys c.args.input
    ∙ ap (λ texts. insert_key bytes_cmp texts input) (c.in_ok-set-in-Listed.ensures ∙ ap (map string_bytes) c.as_slice-in-Listed.ensures.value)
    ∙ sym (ap (λ inputs. insert_key bytes_cmp (inputs_view inputs) input) c.in-Listed.is)
