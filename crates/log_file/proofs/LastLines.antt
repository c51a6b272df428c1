-- The last lines of bytes, piece by piece from the end.
use Rattle.std.proofs.Common.{◌≡◌, ◌≤◌, ◌<◌, ◌+◌, ◌-◌, ℕ, Bool, cond, List, [], ◌∷◌, ◌++◌, length, take, drop, Option, Some, None, IfSome, refl, sym, ap, ◌∙◌, subst, append_assoc, append-nil, inl, inr, arith}
use Rattle.std.proofs.lemmas.Bool.{cases_lt}
use Rattle.std.proofs.lemmas.List.{get_or-append_right, length-append, take_all}
use Rattle.std.proofs.lemmas.List.Sums.{sum_by-append, sum_by-cons}
use Rattle.std.proofs.Math.ListN.{drop_of_length-le}
use Rattle.std.proofs.Math.Seq.{drop-append-add}
use Rattle.std.specs.List.{slice_index}
use Rattle.byte_streams.specs.Lines.{HasNoFeed, IsFirst}
use Rattle.log_file.specs.File.{Shows}
use Rattle.log_file.specs.Last.{AreLastLines, IsLastStart, LeavesOf, SkipsLines}
use Rattle.log_file.specs.Line.{EndsLine, IsWholePart, ends_line, lines_in}
use Rattle.log_file.proofs.Pieces.{ends_after}

abbrev count : ℕ → ℕ
count b = cond (ends_line b) 1 0

pub lines_both : (a b : List ℕ) → lines_in (a ++ b) ≡ lines_in a + lines_in b
lines_both a b = sum_by-append count a b

pub no_lines : (bytes : List ℕ) → HasNoFeed bytes → lines_in bytes ≡ 0
no_lines [] h = refl
no_lines (b ∷ bs) h = sum_by-cons count b bs ∙ omega (arith, ap {B = ℕ} (λ (t : Bool). cond t 1 0) h.0, no_lines bs h.1)

-- ---- lines at the front

pub one_line : (lines : ℕ) (bytes rest line behind : List ℕ) → SkipsLines lines bytes rest → IsFirst rest line behind → SkipsLines (lines + 1) bytes behind
one_line lines bytes rest line behind s f = record {
  front = s.front ++ line;
  parts = s.parts ∙ ap (λ (t : List ℕ). s.front ++ t) (f.whole ∙ sym (ap (λ (t : List ℕ). t ++ behind) f.ended ∙ append_assoc f.text (10 ∷ []) behind)) ∙ sym (append_assoc s.front line behind);
  ends = inr (s.front ++ f.text, ap (λ (t : List ℕ). s.front ++ t) f.ended ∙ sym (append_assoc s.front f.text (10 ∷ [])));
  count = lines_both s.front line ∙ omega (arith, s.count, ap lines_in f.ended ∙ lines_both f.text (10 ∷ []), no_lines f.text f.none, sum_by-cons count 10 []);
}

pub no_line_left : (lines i : ℕ) (bytes rest : List ℕ) → SkipsLines i bytes rest → i < lines → lines ≤ lines_in bytes → HasNoFeed rest → ⊥
no_line_left lines i bytes rest s before most none = omega (arith, before, most, ap lines_in s.parts ∙ lines_both s.front rest, s.count, no_lines rest none)

-- ---- pieces from the end

shown_drop : (bs : List ℕ) (start : ℕ) (part : List ℕ) (s : Shows (Some bs) start part) → drop start bs ≡ part ++ s.1
shown_drop bs start part s =
    let front : drop (length s.0 + 0) bs ≡ part ++ s.1 = ap (λ (t : List ℕ). drop (length s.0 + 0) t) s.2 ∙ drop-append-add s.0 (part ++ s.1) 0 in
    subst (λ (n : ℕ). drop n bs ≡ part ++ s.1) (omega (arith, s.3)) front

shown_rest : (bs : List ℕ) (start : ℕ) (part : List ℕ) (s : Shows (Some bs) start part) → drop (start + length part) bs ≡ s.1
shown_rest bs start part s =
    let all : bs ≡ (s.0 ++ part) ++ s.1 = s.2 ∙ sym (append_assoc s.0 part s.1) in
    let front : drop (length (s.0 ++ part) + 0) bs ≡ s.1 = ap (λ (t : List ℕ). drop (length (s.0 ++ part) + 0) t) all ∙ drop-append-add (s.0 ++ part) s.1 0 in
    subst (λ (n : ℕ). drop n bs ≡ s.1) (omega (arith, s.3, length-append s.0 part)) front

pub begins_leaving : (most len : ℕ) (bytes : Option (List ℕ)) → IfSome bytes (λ bs. len ≡ length bs) → IfSome bytes (LeavesOf most len most)
begins_leaving most len None h = tt
begins_leaving most len (Some bs) h =
    let none : lines_in (drop len bs) ≡ 0 = ap lines_in (drop_of_length-le bs (omega (arith, h))) in
    (omega (arith, h), omega (arith, none))

-- all lines of a piece are among the last ones
pub piece_leaves : (most start end left lines : ℕ) (bytes : Option (List ℕ)) (part : List ℕ) → start + length part ≡ end → lines ≡ lines_in part → lines ≤ left → Shows bytes start part
    → IfSome bytes (LeavesOf most end left) → IfSome bytes (LeavesOf most start (left - lines))
piece_leaves most start end left lines None part at is few s h = tt
piece_leaves most start end left lines (Some bs) part at is few s h =
    let rest : drop end bs ≡ s.1 = subst (λ (n : ℕ). drop n bs ≡ s.1) at (shown_rest bs start part s) in (
      omega (arith, h.0, at),
      omega (arith, is, few, h.1, ap lines_in rest, ap lines_in (shown_drop bs start part s) ∙ lines_both part s.1),
    )

module _ (most start end left lines : ℕ) (bs part rest : List ℕ) (at : start + length part ≡ end) (is : lines ≡ lines_in part) (more : left < lines) (s : Shows (Some bs) start part)
    (h : LeavesOf most end left bs) (k : SkipsLines (lines - left) part rest) where
  some_front : 0 < length k.front
  some_front = by k.front k.count where
    by : (front : List ℕ) → lines_in front ≡ lines - left → 0 < length front
    by [] e = absurd (omega (arith, more, e))
    by (b ∷ bs) e = omega arith

  lines_of_rest : lines_in (rest ++ s.1) ≡ most
  lines_of_rest =
      let after : drop end bs ≡ s.1 = subst (λ (n : ℕ). drop n bs ≡ s.1) at (shown_rest bs start part s) in
      lines_both rest s.1 ∙ omega (arith, is, more, h.1, ap lines_in after, k.count, ap lines_in k.parts ∙ lines_both k.front rest)

  all_parts : bs ≡ (s.0 ++ k.front) ++ (rest ++ s.1)
  all_parts =
      s.2 ∙ ap (λ (t : List ℕ). s.0 ++ (t ++ s.1)) k.parts ∙ ap (λ (t : List ℕ). s.0 ++ t) (append_assoc k.front rest s.1) ∙ sym (append_assoc s.0 k.front (rest ++ s.1))

  last_here : AreLastLines most bs (rest ++ s.1)
  last_here = record {
    before = s.0 ++ k.front;
    parts = all_parts;
    starts = ends_after s.0 k.front k.ends some_front;
    count = omega (arith, lines_of_rest, ap lines_in all_parts ∙ lines_both (s.0 ++ k.front) (rest ++ s.1));
  }

  last_start_here : IsLastStart most (end - length rest) bs
  unfolding last_here
  last_start_here =
      let place : length (s.0 ++ k.front) ≡ end - length rest = omega (arith, at, s.3, length-append s.0 k.front, ap length k.parts ∙ length-append k.front rest) in
      (rest ++ s.1, last_here, place)

-- the first of them is in a piece
pub piece_starts : (most start end left lines : ℕ) (bytes : Option (List ℕ)) (part rest : List ℕ) → start + length part ≡ end → lines ≡ lines_in part → left < lines → Shows bytes start part
    → IfSome bytes (LeavesOf most end left) → SkipsLines (lines - left) part rest → IfSome bytes (IsLastStart most (end - length rest))
piece_starts most start end left lines None part rest at is more s h k = tt
piece_starts most start end left lines (Some bs) part rest at is more s h k = last_start_here most start end left lines bs part rest at is more s h k

-- all lines are among the last ones
pub all_start : (most left : ℕ) (bytes : Option (List ℕ)) → IfSome bytes (LeavesOf most 0 left) → IfSome bytes (IsLastStart most 0)
all_start most left None h = tt
all_start most left (Some bs) h = (bs, record { before = []; parts = refl; starts = inl refl; count = omega (arith, h.1) }, refl)

-- ---- what is read from there on

ends_tail : (b : ℕ) (rest front : List ℕ) → b ∷ rest ≡ front ++ 10 ∷ [] → EndsLine rest
ends_tail b rest [] e = inl cc
ends_tail b rest (f ∷ fs) e = inr (fs, cc)

pub ends_rest : (before last : List ℕ) → EndsLine (before ++ last) → EndsLine last
ends_rest [] last e = e
ends_rest (b ∷ bs) last (inl none) = cc
ends_rest (b ∷ bs) last (inr line) = ends_rest bs last (ends_tail b (bs ++ last) line.0 line.1)

whole_of : (bytes : List ℕ) (n : ℕ) → EndsLine bytes → IsWholePart bytes n → take n bytes ≡ bytes
whole_of bytes n (inl none) w = take_all n bytes (omega (arith, ap (λ (l : List ℕ). length l) none))
whole_of bytes n (inr line) w =
    let none : length line.0 - length line.0 ≡ 0 = omega arith in
    let last_byte : slice_index bytes (length line.0) ≡ 10 =
    ap (λ (t : List ℕ). slice_index t (length line.0)) line.1 ∙ get_or-append_right line.0 (10 ∷ []) (length line.0) (length line.0) 0 refl (omega arith)
    ∙ ap (λ (k : ℕ). slice_index (10 ∷ []) k) none in
    let long : length bytes ≡ length line.0 + 1 = ap (λ (t : List ℕ). length t) line.1 ∙ length-append line.0 (10 ∷ []) in
    elim (cases_lt n (length bytes)) [
      | inl before ↦ absurd (w.2 (length line.0) (omega (arith, long, before)) (omega (arith, long)) last_byte)
      | inr after ↦ take_all n bytes after
    ]

-- what was read is the last lines
pub last_read : (most len start n : ℕ) (bytes : Option (List ℕ)) (shown : List ℕ) → IfSome bytes (λ bs. len ≡ length bs) → IfSome bytes EndsLine → IfSome bytes (IsLastStart most start)
    → length shown ≡ len - start → Shows bytes start shown → IsWholePart shown n → IfSome bytes (λ bs. AreLastLines most bs (take n shown))
last_read most len start n None shown is whole from long s w = tt
last_read most len start n (Some bs) shown is whole from long s w =
    let lines = from.1 in
    let at : drop start bs ≡ from.0 =
    subst (λ (k : ℕ). drop k bs ≡ from.0) (omega (arith, from.2)) (ap (λ (t : List ℕ). drop (length lines.before + 0) t) lines.parts ∙ drop-append-add lines.before from.0 0) in
    let none : s.1 ≡ [] = sym (shown_rest bs start shown s) ∙ drop_of_length-le bs (omega (arith, is, long)) in
    let same : from.0 ≡ shown = sym at ∙ shown_drop bs start shown s ∙ ap (λ (t : List ℕ). shown ++ t) none ∙ append-nil shown in
    let ended : EndsLine shown = subst EndsLine same (ends_rest lines.before from.0 (subst EndsLine lines.parts whole)) in
    subst (AreLastLines most bs) (same ∙ sym (whole_of shown n ended w)) lines

-- and nothing was read of a file that is lost
pub none_left : (bytes : List ℕ) → bytes ≡ [] → ∥ EndsLine bytes ∥₁
none_left bytes none = ∣ inl none ∣₁
