-- Sums over the pages.
use Rattle.std.proofs.Common.{◌≡◌, ℕ, ◌+◌, ◌*◌, ◌≤◌, List, [], ◌∷◌, length, sum_by, refl, sym, ap, ◌∙◌, arith}
use Rattle.std.specs.List.{AllByRecursion}
use Rattle.std.specs.Map.{values_of}
use Rattle.std.proofs.lemmas.List.Sums.{sum_by-cons}
use Rattle.book_core.specs.declared.inputs.PageInputs.{PageInputs}
use Rattle.book_core.specs.Page.{PageName}
use Rattle.book_core.specs.Book.{Inputs, Contents, most_inputs, input_count, inputs_view, contents_view, IsFilled}

abbrev pub size_of : PageInputs → ℕ
size_of inputs = length (inputs_view inputs)

-- the sizes of the pages sum to the number of inputs
pub sizes_sum : (es : List (PageName × PageInputs)) → sum_by size_of (values_of es) ≡ input_count (contents_view es)
sizes_sum [] = refl
sizes_sum (e ∷ es) =
    let f : PageName × Inputs → ℕ = λ x. length x.1 in
    sum_by-cons size_of e.1 (values_of es)
    ∙ (ap (λ n. size_of e.1 + n) (sizes_sum es)
    ∙ sym (sum_by-cons f (e.0, inputs_view e.1) (contents_view es)))

-- no more inputs than pages full of them
pub few_in_all : (book : Contents) → AllByRecursion (λ (e : PageName × Inputs). IsFilled e.1) book → input_count book ≤ most_inputs * length book
few_in_all [] filled = omega arith
few_in_all (e ∷ es) filled =
    let f : PageName × Inputs → ℕ = λ x. length x.1 in
    let here : length e.1 ≤ most_inputs = filled.0.lawful.few in
    rw (sum_by-cons f e es) (omega (arith, few_in_all es filled.1))
