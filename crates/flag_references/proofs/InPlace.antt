-- Lists of trees that are changed in place, item by item: what is done, and what is left as it was.
use Rattle.std.proofs.Common.{◌≡◌, ℕ, zero, suc, ◌<◌, List, [], ◌∷◌, length, get_or, set, take, drop, ap, arith}
use Rattle.flag_text.specs.Shape.{Members}
use Rattle.flag_text.specs.View.{view, items_view, members_view}
use Rattle.flag_text.specs.declared.tree.Tree.{Tree}
use Rattle.flag_text.proofs.Halving.{name_of}
use Rattle.flag_text.proofs.Views.{Named}
use Rattle.flag_references.specs.Inlining.{IsInlined}
use Rattle.flag_references.specs.Forms.{AreInlined, MembersAreInlined}

-- the next item is as it was
pub still : {A : Type 0} (ts us : List A) (i : ℕ) (d : A) → i < length ts → i < length us → drop i us ≡ drop i ts → get_or us i d ≡ get_or ts i d
still [] us i d h g e = absurd (omega arith)
still (t ∷ ts) [] i d h g e = absurd (omega arith)
still (t ∷ ts) (u ∷ us) zero d h g e = ap (λ xs. get_or xs 0 d) e
still (t ∷ ts) (u ∷ us) (suc i) d h g e = still ts us i d (omega arith) (omega arith) e

-- and those behind it are once it is changed
pub behind : {A : Type 0} (ts us : List A) (i : ℕ) (u : A) → i < length ts → i < length us → drop i us ≡ drop i ts → drop (suc i) (set us i u) ≡ drop (suc i) ts
behind [] us i u h g e = absurd (omega arith)
behind (t ∷ ts) [] i u h g e = absurd (omega arith)
behind (t ∷ ts) (v ∷ us) zero u h g e = ap (drop 1) e
behind (t ∷ ts) (v ∷ us) (suc i) u h g e = behind ts us i u (omega arith) (omega arith) e

-- one more is inlined
pub AreInlined-set : (evaluators : Members) (ts us : List Tree) (i : ℕ) (d u : Tree) → i < length ts → i < length us → AreInlined evaluators (items_view (take i ts)) (items_view (take i us))
    → IsInlined evaluators (view (get_or ts i d)) (view u) → AreInlined evaluators (items_view (take (suc i) ts)) (items_view (take (suc i) (set us i u)))
AreInlined-set evaluators [] us i d u h g f p = absurd (omega arith)
AreInlined-set evaluators (t ∷ ts) [] i d u h g f p = absurd (omega arith)
AreInlined-set evaluators (t ∷ ts) (v ∷ us) zero d u h g f p = (p, tt)
AreInlined-set evaluators (t ∷ ts) (v ∷ us) (suc i) d u h g f p = (f.0, AreInlined-set evaluators ts us i d u (omega arith) (omega arith) f.1 p)

pub MembersAreInlined-set : (evaluators : Members) (ms ns : List Named) (i : ℕ) (d n : Named) → i < length ms → i < length ns
    → MembersAreInlined evaluators (members_view (take i ms)) (members_view (take i ns)) → name_of (get_or ms i d) ≡ name_of n
    → IsInlined evaluators (view (get_or ms i d).1) (view n.1) → MembersAreInlined evaluators (members_view (take (suc i) ms)) (members_view (take (suc i) (set ns i n)))
MembersAreInlined-set evaluators [] ns i d n h g f e p = absurd (omega arith)
MembersAreInlined-set evaluators (m ∷ ms) [] i d n h g f e p = absurd (omega arith)
MembersAreInlined-set evaluators (m ∷ ms) (v ∷ ns) zero d n h g f e p = (e, p, tt)
MembersAreInlined-set evaluators (m ∷ ms) (v ∷ ns) (suc i) d n h g f e p = (f.0, f.1, MembersAreInlined-set evaluators ms ns i d n (omega arith) (omega arith) f.2 e p)
