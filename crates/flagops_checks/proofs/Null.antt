-- What the tree of `null` is: one in which nothing is unread.
use Rattle.std.proofs.Common.{◌≡◌, List, ℕ, Bool, true, Result, Ok, Err, IfOk, refl, sym, ap, ◌∙◌}
use Rattle.flag_text.specs.Shape.{Shape, is_tidy, null}
use Rattle.flag_text.specs.View.{view}
use Rattle.flag_text.specs.declared.tree.Tree.{the_lemmas}
use Rattle.flag_text.specs.declared.tree.Tree.TheVariants as tree
use Rattle.flagops_checks.specs.Judged.{definition_of, is_unread, tree_in}
use Rattle.flagops_checks.specs.Names.{HasUnread}
use Rattle.flagops_checks.proofs.PlainTrees.{IsPlain}
use Rattle.member_names.specs.Unread.{unread_of}
use Rattle.member_names.specs.declared.reader.Reader.TheVariants as reader

null_view : view tree.Null ≡ null
null_view = simp the_lemmas refl

-- where each member is read
pub nothing_unread : (floats : Bool) (bytes : List ℕ) → IsPlain floats bytes → HasUnread floats bytes (view tree.Null)
nothing_unread floats bytes plain = record {
  tidy = ap is_tidy null_view;
  document = ap (unread_of reader.Document) null_view ∙ sym plain.document;
  definitions = λ key. ap (λ t. is_unread (definition_of t key)) null_view ∙ sym (plain.definitions key);
}

-- the tree of the bytes
pub as_read : (floats : Bool) (bytes : List ℕ) (t : Shape) → t ≡ tree_in floats bytes → is_tidy t ≡ true → HasUnread floats bytes t
as_read floats bytes t same tidy = record { tidy = tidy; document = ap (unread_of reader.Document) same; definitions = λ key. ap (λ u. is_unread (definition_of u key)) same }

pub both_ok : {A E : Type 0} (P Q R : A → Type 0) (r : Result A E) → ((a : A) → P a → Q a → R a) → IfOk r P → IfOk r Q → IfOk r R
both_ok P Q R (Ok a) f p q = f a p q
both_ok P Q R (Err e) f p q = tt
