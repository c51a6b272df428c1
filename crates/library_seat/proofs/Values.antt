-- The texts of truth values.
use Rattle.std.proofs.Common.{◌≡◌, ℕ, List, ◌++◌, true, false, codes, refl, ap, sym, ◌∙◌, if◌then◌else◌, is_ok, Result, Ok, Err, OnOk}
use Rattle.flag_text.specs.Printing.{text_of}
use Rattle.flag_text.specs.Shape.{boolean}
use Rattle.flag_text.specs.View.{view}
use Rattle.flag_text.specs.declared.tree.Tree.{Bool as Truth}
use Rattle.library_seat.proofs.Defaults.{view-Truth}

true_text : codes "true" ≡ text_of (boolean true)
unfolding text_of
true_text = refl

false_text : codes "false" ≡ text_of (boolean false)
unfolding text_of
false_text = refl

pub says_true : codes "true" ≡ text_of (view (Truth true))
says_true = true_text ∙ ap text_of (sym (view-Truth true))

pub says_false : codes "false" ≡ text_of (view (Truth false))
says_false = false_text ∙ ap text_of (sym (view-Truth false))

-- what was pushed stands behind what stood there
pub pushed : {T E : Type 0} (r : Result T E) (now was text said : List ℕ) → now ≡ (if is_ok r then was ++ text else was) → text ≡ said → OnOk r (now ≡ was ++ said)
pushed (Ok x) now was text said is same = is ∙ ap (λ (l : List ℕ). was ++ l) same
pushed (Err e) now was text said is same = tt
