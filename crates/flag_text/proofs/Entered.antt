-- Lists and objects of trees, and the members of a map after an entry.
use Rattle.std.proofs.Common.{◌≡◌, List, [], ◌∷◌, String, Vec, Global, Ordering, Less, Equal, Greater, string_bytes, string_cmp, refl, ◌∙◌, rules}
use Rattle.std.specs.BTreeMap.{insert_entry}
use Rattle.std.specs.Ordering.{match_ordering}
use Rattle.flag_text.specs.Grammar.{put}
use Rattle.flag_text.specs.Shape.{list, object}
use Rattle.flag_text.specs.View.{view, items_view, members_view}
use Rattle.flag_text.specs.declared.tree.Tree.{Tree, List as ListOf, Object, the_lemmas}
use Rattle.flag_text.proofs.Views.{Named}

pub view-List : (v : Vec Tree Global) → view (ListOf v) ≡ list (items_view v.items)
view-List v = search (rules, the_lemmas)

pub view-Object : (v : Vec Named Global) → view (Object v) ≡ object (members_view v.items)
view-Object v = search (rules, the_lemmas)

placed : (o : Ordering) (a b c : List Named) → members_view (match_ordering o a b c) ≡ match_ordering o (members_view a) (members_view b) (members_view c)
placed Less a b c = refl
placed Equal a b c = refl
placed Greater a b c = refl

pub members_view-insert_entry : (es : List Named) (k : String Global) (t : Tree) → members_view (insert_entry string_cmp es k t) ≡ put (string_bytes k) (view t) (members_view es)
members_view-insert_entry [] k t = refl
members_view-insert_entry (e ∷ es) k t = placed (string_cmp k e.0) _ _ _ ∙ rw (members_view-insert_entry es k t)
