-- What is kept of a tree, and that a tree that was read is whole.
use Rattle.std.proofs.Common.{◌≡◌, ℕ, List, Bool, true, false, cond, nat_lt, Result, Ok, Err, refl, sym, ap, ◌∙◌}
use Rattle.flag_text.specs.Readers.{member_of}
use Rattle.flag_text.specs.Reading.{max_levels, doc_of, if_whole, tree_of}
use Rattle.flag_text.specs.Shape.{Shape, null, boolean, whole, other, text, list, object, levels, has_other, is_whole}
use Rattle.flag_text.specs.declared.fault.TextFault.{TextFault}
use Rattle.flag_text.specs.declared.fault.TextFault.TheVariants.{NotWhole, TooDeep}
use Rattle.flag_text.proofs.Rising.{is_tidy-read, is_whole-tidy}
use Rattle.member_names.specs.Kept.{is_among, Keeps}

-- a tree keeps its own members
pub keeps_itself : (names : List (List ℕ)) (t : Shape) → Keeps names t t
keeps_itself names null = refl
keeps_itself names (boolean b) = refl
keeps_itself names (whole n) = refl
keeps_itself names other = refl
keeps_itself names (text s) = refl
keeps_itself names (list ts) = refl
keeps_itself names (object ms) = (ms, refl, λ name among. refl)

pub same_member : (names : List (List ℕ)) (t u : Shape) (name : List ℕ) → Keeps names t u → is_among names name ≡ true → member_of name u ≡ member_of name t
same_member names null u name keeps among = ap (member_of name) keeps
same_member names (boolean b) u name keeps among = ap (member_of name) keeps
same_member names (whole n) u name keeps among = ap (member_of name) keeps
same_member names other u name keeps among = ap (member_of name) keeps
same_member names (text s) u name keeps among = ap (member_of name) keeps
same_member names (list ts) u name keeps among = ap (member_of name) keeps
same_member names (object ms) u name keeps among = ap (member_of name) keeps.1 ∙ keeps.2 name among

-- ---- a tree that was read

fits_by : (deep more : Bool) (t u : Shape) → has_other t ≡ more → cond deep (Err TooDeep) (cond more (Err NotWhole) (Ok t)) ≡ Ok u → (t ≡ u) × (has_other t ≡ false)
fits_by true more t u is e = absurd (cc)
fits_by false true t u is e = absurd (cc)
fits_by false false t u is e = (cc, is)

of_doc : (bytes : List ℕ) (limit : ℕ) (u : Shape) (r : Result Shape TextFault) → doc_of bytes limit ≡ r → if_whole r ≡ Ok u → is_whole u ≡ true
of_doc bytes limit u (Err e) is fits = absurd (cc)
of_doc bytes limit u (Ok t) is fits =
    let both = fits_by (nat_lt max_levels (levels t)) (has_other t) t u refl fits in
    ap is_whole (sym both.0) ∙ is_whole-tidy t (is_tidy-read bytes limit t is) both.1

pub is_whole-tree_of : (bytes : List ℕ) (limit : ℕ) (u : Shape) → tree_of bytes limit ≡ Ok u → is_whole u ≡ true
is_whole-tree_of bytes limit u e = of_doc bytes limit u (doc_of bytes limit) refl e
