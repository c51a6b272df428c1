-- The bytes of a point's line.
use Rattle.std.proofs.Common.{◌≡◌, ◌<◌, ◌^◌, ℕ, List, [], ◌∷◌, ◌++◌, length, append_assoc, sym, ap, ◌∙◌, inl, inr, lit<, arith, length-append}
use Rattle.std.specs.Fmt.{decimal}
use Rattle.flag_text.specs.Printing.{text_of}
use Rattle.note_tallies.specs.Point.{IsPointCount, point_line}
use Rattle.note_tallies.specs.declared.point.PointCount.{PointCount}
use Rattle.note_tallies.proofs.Numbers.{same_rest, same_number}

-- the bytes of a line, with what stands after it
pub spelled : (e : PointCount) (rest : List ℕ) → point_line e ++ rest ≡ 91 ∷ (decimal e.point ++ 44 ∷ (decimal e.inputs ++ 93 ∷ 10 ∷ rest))
unfolding point_line text_of
spelled e rest = simp append_assoc

pub written : (e : PointCount) → point_line e ≡ 91 ∷ (decimal e.point ++ 44 ∷ (decimal e.inputs ++ 93 ∷ 10 ∷ []))
unfolding point_line text_of
written e = simp append_assoc

inner : (bytes rest : List ℕ) (b : ℕ) → b ∷ bytes ≡ b ∷ rest → bytes ≡ rest
inner bytes rest b e = cc

-- ---- what the parts of a line tell of it

pub after_bracket : (bytes rest : List ℕ) (e : PointCount) (more : List ℕ) → bytes ≡ 91 ∷ rest → bytes ≡ point_line e ++ more → rest ≡ decimal e.point ++ 44 ∷ (decimal e.inputs ++ 93 ∷ 10 ∷ more)
after_bracket bytes rest e more is line = inner rest (decimal e.point ++ 44 ∷ (decimal e.inputs ++ 93 ∷ 10 ∷ more)) 91 (sym is ∙ line ∙ spelled e more)

pub after_comma : (bytes rest next : List ℕ) (p : ℕ) (e : PointCount) (more : List ℕ) → IsPointCount e → p < 2 ^ 32 → bytes ≡ 91 ∷ rest → rest ≡ decimal p ++ 44 ∷ next → bytes ≡ point_line e ++ more → next ≡ decimal e.inputs ++ 93 ∷ 10 ∷ more
after_comma bytes rest next p e more are small is number line =
    same_rest p e.point 44 next (decimal e.inputs ++ 93 ∷ 10 ∷ more) (inl (lit< tt)) small are.point (sym number ∙ after_bracket bytes rest e more is line)

pub after_end : (bytes rest next last : List ℕ) (p n : ℕ) (e : PointCount) (more : List ℕ) → IsPointCount e → p < 2 ^ 32 → n < 2 ^ 32 → bytes ≡ 91 ∷ rest → rest ≡ decimal p ++ 44 ∷ next → next ≡ decimal n ++ 93 ∷ last → bytes ≡ point_line e ++ more → last ≡ 10 ∷ more
after_end bytes rest next last p n e more are small fits is number count line =
    same_rest n e.inputs 93 last (10 ∷ more) (inr (lit< tt)) fits are.inputs (sym count ∙ after_comma bytes rest next p e more are small is number line)

pub whole_line : (bytes rest next last more : List ℕ) (e : PointCount) → bytes ≡ 91 ∷ rest → rest ≡ decimal e.point ++ 44 ∷ next → next ≡ decimal e.inputs ++ 93 ∷ last → last ≡ 10 ∷ more → bytes ≡ point_line e ++ more
whole_line bytes rest next last more e is number count end =
    is ∙ ap (λ (r : List ℕ). 91 ∷ r) (number ∙ ap (λ (r : List ℕ). decimal e.point ++ 44 ∷ r) (count ∙ ap (λ (r : List ℕ). decimal e.inputs ++ 93 ∷ r) end)) ∙ sym (spelled e more)

-- a line is some bytes
pub longer : (bytes more : List ℕ) (e : PointCount) → bytes ≡ point_line e ++ more → length more < length bytes
longer bytes more e line =
    let all = ap length (line ∙ spelled e more) in
    let front = length-append (decimal e.point) (44 ∷ (decimal e.inputs ++ 93 ∷ 10 ∷ more)) in
    let back = length-append (decimal e.inputs) (93 ∷ 10 ∷ more) in
    omega (arith, all, front, back)

-- a line and what stands after it are told by their bytes
pub one_point : (e f : PointCount) (rest more : List ℕ) → IsPointCount e → IsPointCount f → point_line e ++ rest ≡ point_line f ++ more → (e ≡ f) × (rest ≡ more)
one_point e f rest more are also is =
    let inside = inner (decimal e.point ++ 44 ∷ (decimal e.inputs ++ 93 ∷ 10 ∷ rest)) (decimal f.point ++ 44 ∷ (decimal f.inputs ++ 93 ∷ 10 ∷ more)) 91 (sym (spelled e rest) ∙ is ∙ spelled f more) in
    let point = same_number e.point f.point 44 (decimal e.inputs ++ 93 ∷ 10 ∷ rest) (decimal f.inputs ++ 93 ∷ 10 ∷ more) (inl (lit< tt)) are.point also.point inside in
    let counts = same_rest e.point f.point 44 (decimal e.inputs ++ 93 ∷ 10 ∷ rest) (decimal f.inputs ++ 93 ∷ 10 ∷ more) (inl (lit< tt)) are.point also.point inside in
    let inputs = same_number e.inputs f.inputs 93 (10 ∷ rest) (10 ∷ more) (inr (lit< tt)) are.inputs also.inputs counts in
    let ends = same_rest e.inputs f.inputs 93 (10 ∷ rest) (10 ∷ more) (inr (lit< tt)) are.inputs also.inputs counts in
    (λ i. record { point = point i; inputs = inputs i }, inner rest more 10 ends)
