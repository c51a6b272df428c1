-- What is printed as JSON is a tree of texts.
use Rattle.std.proofs.Common.{◌≡◌, ℕ, true, List, [], ◌∷◌, map, refl}
use Rattle.flag_text.specs.Shape.{is_whole, items_are_whole, text}
use Rattle.flag_text.specs.View.{items_of}
use Rattle.flagops_checks.specs.Judged.{Judged}
use Rattle.flagops_checks.specs.Printed.{document_shape, keys_in}
use Rattle.flagops_checks.specs.declared.objects.Listed.TheVariants.{Broken, Doubted, Good}

whole_texts : (keys : List (List ℕ)) → items_are_whole (items_of (map text keys)) ≡ true
whole_texts [] = refl
whole_texts (key ∷ keys) = whole_texts keys

pub whole : (path : List ℕ) (js : List Judged) → is_whole (document_shape path js) ≡ true
whole path js = rw (whole_texts (keys_in Broken js), whole_texts (keys_in Doubted js), whole_texts (keys_in Good js)) refl
