-- The second line of a tally: what is read of it, and that no other line is told the same.
use Rattle.std.proofs.Common.{◌≡◌, ◌≢◌, ◌<◌, ◌≤◌, ◌^◌, ℕ, true, pos, List, [], ◌∷◌, ◌++◌, length, Option, Some, None, Result, Ok, Err, nat_lt, ◌-◌, take, codes, String, ℤ, string_bytes, option_map, length-append, append_assoc, refl, sym, ap, ap₂, ◌∙◌, subst, inl, inr, arith, IfSome}
use borrow.Author.Tests.{lt-ltb}
use Rattle.std.specs.Str.{IsUtf8}
use Rattle.std.specs.declared.alloc.Global.{Global}
use Rattle.std.proofs.Math.Seq.{take-append_seam}
use Rattle.flag_text.specs.Printing.{text_of}
use Rattle.flag_text.specs.Reading.{tree_of}
use Rattle.flag_text.specs.Shape.{Shape, object, text, whole, is_whole, levels}
use Rattle.flag_text.specs.View.{view, members_view}
use Rattle.flag_text.specs.declared.tree.Tree.{Tree}
use Rattle.flag_text.specs.declared.fault.TextFault.{TextFault}
use Rattle.book_core.specs.Page.{PageName}
use Rattle.book_core.specs.Printing.{Reads, by_shape, line_text}
use Rattle.book_core.specs.Reading.{by_of, page_of}
use Rattle.note_lines.specs.Hashed.{hashed_line, hashed_shape}
use Rattle.note_lines.specs.Note.{note_shape, note_line}
use Rattle.note_lines.proofs.Lines.{utf8_hashed, utf8_text}
use Rattle.note_tallies.specs.Tally.{AreEnds, IsLineOn, hashed_on, noted_on}
use Rattle.note_tallies.specs.Cut.{HasNoFeed}
use Rattle.note_tallies.specs.Ends.{IsTextLine}
use Rattle.note_tallies.specs.File.{Head, end_shape, head_shape, object_of, without_feed}
use Rattle.note_tallies.specs.Members.{end_of_shape, head_of_shape}
use Rattle.note_tallies.specs.Reading.{IsAllowed, IsBounded, IsHead}
use Rattle.note_tallies.proofs.Fed.{of_head, one_line}

-- ---- the lines at both ends

pub text_line : (page : PageName) (line : List ℕ) → IsLineOn page line → IsTextLine line
unfolding note_line hashed_line
text_line page line (inl on) = (text_of (note_shape (noted_on page on.0)), utf8_text (noted_on page on.0) on.1, on.2)
text_line page line (inr on) = (text_of (hashed_shape (hashed_on page on.0)), utf8_hashed (hashed_on page on.0) on.1, on.2)

pub without : (xs : List ℕ) (b : ℕ) → without_feed (xs ++ b ∷ []) ≡ xs
without [] b = refl
without (x ∷ []) b = refl
without (x ∷ y ∷ xs) b = ap (λ (ys : List ℕ). x ∷ ys) (without (y ∷ xs) b)

pub take_is : (line : List ℕ) → IsTextLine line → take (length line - 1) line ≡ without_feed line
take_is line is =
    let all = ap length is.2 in
    let sum = length-append is.0 (10 ∷ []) in
    let size : length line - 1 ≡ length is.0 = omega (arith, all, sum) in
    ap (λ (n : ℕ). take n line) size ∙ ap (take (length is.0)) is.2 ∙ take-append_seam is.0 (10 ∷ []) ∙ sym (without is.0 10) ∙ ap without_feed (sym is.2)

with_feed : (line : List ℕ) → IsTextLine line → without_feed line ++ 10 ∷ [] ≡ line
with_feed line is = ap (λ (l : List ℕ). without_feed l ++ 10 ∷ []) is.2 ∙ ap (λ (x : List ℕ). x ++ 10 ∷ []) (without is.0 10) ∙ sym is.2

pub first_is : (page : PageName) (inputs : ℕ) (first last : Option (List ℕ)) → AreEnds page inputs first last → IfSome first IsTextLine
first_is page inputs None None are = tt
first_is page inputs None (Some last) are = absurd are
first_is page inputs (Some first) None are = absurd are
first_is page inputs (Some first) (Some last) are = text_line page first are.1

pub last_is : (page : PageName) (inputs : ℕ) (first last : Option (List ℕ)) → AreEnds page inputs first last → IfSome last IsTextLine
last_is page inputs None None are = tt
last_is page inputs None (Some last) are = absurd are
last_is page inputs (Some first) None are = absurd are
last_is page inputs (Some first) (Some last) are = text_line page last are.2

-- ---- what the object says

by_seen : (by : Option (List ℕ)) → by_of (by_shape by) ≡ Some by
by_seen None = refl
by_seen (Some s) = refl

end_seen : (end : Option (List ℕ)) → IfSome end IsTextLine → end_of_shape (end_shape end) ≡ Some end
end_seen None is = refl
end_seen (Some line) is = ap (λ (l : List ℕ). Some (Some l)) (with_feed line is)

pub head_seen : (h : Head) → IsAllowed h → IsBounded h → head_of_shape (head_shape h) ≡ Some h
unfolding page_of
head_seen h allowed bounded =
    let site : nat_lt h.page.site (2 ^ 32) ≡ true = lt-ltb _ _ bounded.site in
    let total : nat_lt h.total (2 ^ 32) ≡ true = lt-ltb _ _ (omega (arith, allowed.total.few)) in
    let inputs : nat_lt h.inputs (2 ^ 53) ≡ true = lt-ltb _ _ bounded.inputs in
    let first = end_seen h.first (first_is h.page h.inputs h.first h.last allowed.ends) in
    let last = end_seen h.last (last_is h.page h.inputs h.first h.last allowed.ends) in
    rw (site, by_seen h.page.by, total, inputs, first, last) refl

-- ---- it is printed and read

whole_by : (by : Option (List ℕ)) → is_whole (by_shape by) ≡ true
whole_by None = refl
whole_by (Some s) = refl

whole_end : (end : Option (List ℕ)) → is_whole (end_shape end) ≡ true
whole_end None = refl
whole_end (Some line) = refl

pub head_whole : (h : Head) → h.page.site < 2 ^ 32 → h.inputs < 2 ^ 53 → h.total < 2 ^ 32 → is_whole (head_shape h) ≡ true
head_whole h small few low =
    let site : nat_lt h.page.site (2 ^ 53) ≡ true = lt-ltb _ _ (omega (arith, small)) in
    let total : nat_lt h.total (2 ^ 53) ≡ true = lt-ltb _ _ (omega (arith, low)) in
    let inputs : nat_lt h.inputs (2 ^ 53) ≡ true = lt-ltb _ _ few in
    rw (whole_by h.page.by, whole_end h.first, inputs, whole_end h.last, site, total) refl

levels_by : (by : Option (List ℕ)) → levels (by_shape by) ≡ 0
levels_by None = refl
levels_by (Some s) = refl

levels_end : (end : Option (List ℕ)) → levels (end_shape end) ≡ 0
levels_end None = refl
levels_end (Some line) = refl

pub head_flat : (h : Head) → levels (head_shape h) ≤ 120
head_flat h = rw (levels_by h.page.by, levels_end h.first, levels_end h.last) (omega arith)

-- ---- a line that tells the same is the same

abbrev good : Shape → Result Shape TextFault
good t = Ok t

ok-same : (a b : Shape) → good a ≡ good b → a ≡ b
ok-same a b e = cc

some-same : (a b : Head) → Some a ≡ Some b → a ≡ b
some-same a b e = cc

pub one_head : (h g : Head) → IsHead h → IsHead g → text_of (head_shape h) ≡ text_of (head_shape g) → h ≡ g
one_head h g is also same =
    let trees : good (head_shape h) ≡ good (head_shape g) = sym is.reads ∙ ap (λ (b : List ℕ). tree_of b (length b)) same ∙ also.reads in
    some-same h g (sym (head_seen h is.allowed is.bounded) ∙ ap head_of_shape (ok-same _ _ trees) ∙ head_seen g also.allowed also.bounded)

fed : (h : Head) (xs : List ℕ) → line_text (head_shape h) ++ xs ≡ text_of (head_shape h) ++ 10 ∷ xs
fed h xs = append_assoc (text_of (head_shape h)) (10 ∷ []) xs

pub same_head : (h g : Head) (xs ys : List ℕ) → IsHead h → IsHead g → line_text (head_shape h) ++ xs ≡ line_text (head_shape g) ++ ys → (h ≡ g) × (xs ≡ ys)
same_head h g xs ys is also same =
    let one = of_head h is.bounded.site is.bounded.inputs (omega (arith, is.allowed.total.few)) in
    let other = of_head g also.bounded.site also.bounded.inputs (omega (arith, also.allowed.total.few)) in
    let parts = one_line (text_of (head_shape h)) (text_of (head_shape g)) xs ys one other (sym (fed h xs) ∙ same ∙ fed g ys) in
    (one_head h g is also parts.0, parts.1)

-- a line that was cut from the bytes that it begins
pub of_cut : (h : Head) (bytes line rest more : List ℕ) → IsHead h → HasNoFeed line → bytes ≡ line ++ 10 ∷ rest → bytes ≡ line_text (head_shape h) ++ more → line ≡ text_of (head_shape h)
of_cut h bytes line rest more is none cut same =
    (one_line line (text_of (head_shape h)) rest more none (of_head h is.bounded.site is.bounded.inputs (omega (arith, is.allowed.total.few))) (sym cut ∙ same ∙ fed h more)).0

pub no_cut : (h : Head) (bytes more : List ℕ) → ((line rest : List ℕ) → bytes ≢ line ++ 10 ∷ rest) → bytes ≢ line_text (head_shape h) ++ more
no_cut h bytes more none same = none (text_of (head_shape h)) more (same ∙ fed h more)

pub from_cut : (h : Head) (bytes line rest : List ℕ) → bytes ≡ line ++ 10 ∷ rest → line ≡ text_of (head_shape h) → bytes ≡ line_text (head_shape h) ++ rest
from_cut h bytes line rest cut same = cut ∙ ap (λ (l : List ℕ). l ++ 10 ∷ rest) same ∙ sym (fed h rest)

-- ---- the object of seven members

abbrev pub Member : Type 0
Member = String Global × Tree

abbrev pub IsMember : Member → List ℕ → Shape → Type 0
IsMember m name t = (string_bytes m.0 ≡ name) × (view m.1 ≡ t)

pub seven : (ms : List Member) (a b d e f g h : Member) (page : PageName) (first last : Shape) (inputs total : ℤ) → ms ≡ a ∷ b ∷ d ∷ e ∷ f ∷ g ∷ h ∷ []
    → IsMember a (codes "by") (by_shape page.by) → IsMember b (codes "first") first → IsMember d (codes "flag") (text page.flag) → IsMember e (codes "inputs") (whole inputs)
    → IsMember f (codes "last") last → IsMember g (codes "site") (whole (pos page.site)) → IsMember h (codes "total") (whole total) → object (members_view ms) ≡ object_of page first inputs last total
seven ms a b d e f g h page first last inputs total is ma mb md me mf mg mh =
    ap (λ (xs : List Member). object (members_view xs)) is
    ∙ rw (ma.0, ma.1, mb.0, mb.1, md.0, md.1, me.0, me.1, mf.0, mf.1, mg.0, mg.1, mh.0, mh.1) refl

-- the lines of a tally's ends are lines of text
pub some_items : {V : Type 0} (f : V → List ℕ) (o : Option V) → IfSome (option_map f o) IsTextLine → IfSome o (λ (v : V). IsTextLine (f v))
some_items f None is = tt
some_items f (Some v) is = is

-- what is told by the tree of a second line
pub told_head : (line : List ℕ) (tree : Shape) (h : Head) → tree_of line (length line) ≡ Ok tree → IsHead h → line ≡ text_of (head_shape h) → head_of_shape tree ≡ Some h
told_head line tree h seen is same =
    let trees : good tree ≡ good (head_shape h) = sym seen ∙ ap (λ (b : List ℕ). tree_of b (length b)) same ∙ is.reads in
    ap head_of_shape (ok-same _ _ trees) ∙ head_seen h is.allowed is.bounded

pub none_told : (line : List ℕ) (tree : Shape) (o : Option Head) → tree_of line (length line) ≡ Ok tree → o ≡ head_of_shape tree → o ≡ None → (h : Head) → IsHead h → line ≢ text_of (head_shape h)
none_told line tree o seen tells none h is same = let some = told_head line tree h seen is same in cc

pub one_told : (line : List ℕ) (tree : Shape) (o : Option Head) (head h : Head) → tree_of line (length line) ≡ Ok tree → o ≡ head_of_shape tree → o ≡ Some head → IsHead h → line ≡ text_of (head_shape h) → head ≡ h
one_told line tree o head h seen tells some is same = some-same head h (sym some ∙ tells ∙ told_head line tree h seen is same)
