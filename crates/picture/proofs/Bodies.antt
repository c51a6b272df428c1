-- Pictures on a page, one below the other.
use Rattle.std.proofs.Common.{◌≡◌, ℕ, List, [], ◌∷◌, ◌++◌, append-nil, append_assoc, map, refl, sym, ap, subst, ◌∙◌}
use Rattle.std.proofs.lemmas.List.{map-append}
use Rattle.picture.specs.Spelling.{Adds, Continues, IsBody, Pictures, depth, placed, stacked}
use Rattle.picture.specs.Told.{Item, down, foot, told}
use Rattle.picture.specs.declared.element.Element.{Element}

-- none yet
pub none_yet : IsBody [] []
unfolding IsBody
none_yet = ([], refl, refl)

-- one more at the end
foot_more : {X : Type 0} (y : ℕ) (ps : List (ℕ × X)) (p : ℕ × X) → foot (λ y q. down y q.0) y (ps ++ (p ∷ [])) ≡ down (foot (λ y q. down y q.0) y ps) p.0
foot_more y [] p = refl
foot_more y (q ∷ ps) p = foot_more (down y q.0) ps p

pub depth_more : {X : Type 0} (ps : List (ℕ × X)) (p : ℕ × X) → depth (ps ++ (p ∷ [])) ≡ down (depth ps) p.0
depth_more ps p = foot_more 0 ps p

stacked_more : (y : ℕ) (ds : List (ℕ × List Element)) (d : ℕ × List Element) → stacked y (ds ++ (d ∷ [])) ≡ stacked y ds ++ placed (foot (λ y q. down y q.0) y ds) d.1
stacked_more y [] d = append-nil (placed y d.1)
stacked_more y (e ∷ ds) d = ap (λ xs. placed y e.1 ++ xs) (stacked_more (down y e.0) ds d) ∙ sym (append_assoc (placed y e.1) (stacked (down y e.0) ds) (placed (foot (λ y q. down y q.0) (down y e.0) ds) d.1))

-- what pictures tell does not say where they end
foot_told : (y : ℕ) (ds : List (ℕ × List Element)) → foot {A = ℕ × List Item} (λ y q. down y q.0) y (map (λ d. (d.0, told d.1)) ds) ≡ foot (λ y q. down y q.0) y ds
foot_told y [] = refl
foot_told y (d ∷ ds) = foot_told (down y d.0) ds

-- one more picture
pub one_more : (ps : Pictures) (p : ℕ × List Item) (before after : List ℕ) → IsBody ps before → Adds (depth ps) p.1 before after → IsBody (ps ++ (p ∷ [])) after
unfolding IsBody Adds
one_more ps (high, items) before after (ds, bytes, tells) (es, added, new) =
    let d : ℕ × List Element = (high, es) in
    let top : depth ps ≡ depth ds = ap depth (sym tells) ∙ foot_told 0 ds in (
      ds ++ (d ∷ []),
      added ∙ (ap (λ xs. xs ++ placed (depth ps) es) bytes ∙ (ap (λ y. stacked 0 ds ++ placed y es) top ∙ sym (stacked_more 0 ds d))),
      map-append (λ (e : ℕ × List Element). (e.0, told e.1)) ds (d ∷ []) ∙ (ap (λ xs. xs ++ ((high, told es) ∷ [])) tells ∙ ap (λ (xs : List Item). ps ++ ((high, xs) ∷ [])) new),
    )

-- a picture alone
pub alone : (p : ℕ × List Item) (before after : List ℕ) → before ≡ [] → Adds 0 p.1 before after → IsBody (p ∷ []) after
alone p before after none adds = one_more [] p [] after none_yet (subst (λ (bytes : List ℕ). Adds 0 p.1 bytes after) none adds)

-- ---- pictures below others

pub continues_none : (y : ℕ) (bytes : List ℕ) → Continues [] y y bytes bytes
continues_none y bytes = λ above body top. (subst (λ (ps : Pictures). IsBody ps bytes) (sym (append-nil above)) body, top ∙ ap depth (sym (append-nil above)))

-- one picture
pub continues_one : (high : ℕ) (items : List Item) (y end : ℕ) (before after : List ℕ) → Adds y items before after → end ≡ down y high → Continues ((high, items) ∷ []) y end before after
continues_one high items y end before after adds ends = λ above body top.
    let p : ℕ × List Item = (high, items) in (
      one_more above p before after body (subst (λ (z : ℕ). Adds z items before after) top adds),
      ends ∙ (ap (λ z. down z high) top ∙ sym (depth_more above p)),
    )

-- some, and then others
pub continues_both : (ps qs : Pictures) (y mid end : ℕ) (a b c : List ℕ) → Continues ps y mid a b → Continues qs mid end b c → Continues (ps ++ qs) y end a c
continues_both ps qs y mid end a b c first second = λ above body top.
    let one = first above body top in
    let all = second (above ++ ps) one.0 one.1 in (
      subst (λ (rs : Pictures). IsBody rs c) (append_assoc above ps qs) all.0,
      all.1 ∙ ap depth (append_assoc above ps qs),
    )

-- ---- a page without a picture

-- where nothing is written there is no picture
pub unwritten : (ps : Pictures) (bytes : List ℕ) → IsBody ps bytes → bytes ≡ [] → ps ≡ []
unfolding IsBody placed
unwritten ps bytes ([], is, tells) none = sym tells
unwritten ps bytes (d ∷ ds, is, tells) none = absurd (let empty = sym is ∙ none in cc)

-- and where something is there is one
pub written : (ps : Pictures) (bytes : List ℕ) → IsBody ps bytes → ps ≡ [] → bytes ≡ []
unfolding IsBody
written ps bytes ([], is, tells) none = is
written ps bytes (d ∷ ds, is, tells) none = absurd (let empty = tells ∙ none in cc)
