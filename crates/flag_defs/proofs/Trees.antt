-- The view of a tree that is a text.
use Rattle.std.proofs.Common.{◌≡◌, String, Global, string_bytes}
use Rattle.flag_text.specs.Shape.{text}
use Rattle.flag_text.specs.View.{view}
use Rattle.flag_text.specs.declared.tree.Tree.{the_lemmas}
use Rattle.flag_text.specs.declared.tree.Tree.TheVariants.{Text}

pub view-text : (s : String Global) → view (Text s) ≡ text (string_bytes s)
view-text s = simp the_lemmas
