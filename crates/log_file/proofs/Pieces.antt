-- Whole lines, piece by piece from the end.
use Rattle.std.proofs.Common.{◌≡◌, ◌<◌, ◌+◌, ◌-◌, ℕ, List, [], ◌∷◌, ◌++◌, length, take, Option, Some, None, IfSome, refl, sym, ap, ◌∙◌, subst, append_assoc, inl, inr, arith}
use Rattle.std.proofs.lemmas.Bool.{cases_lt}
use Rattle.std.proofs.lemmas.List.{get_or-append_right, get_or_append_left, length-append, length-take-le, take-append-le}
use Rattle.std.proofs.Math.Seq.{take-append-add}
use Rattle.log_file.specs.File.{Shows}
use Rattle.log_file.specs.Line.{EndsLine, IsWholePart}
use Rattle.log_file.specs.Piece.{HasNoLine, HasNoLineFrom, IsWholeIn}

-- nothing comes after the end
pub begins : (len : ℕ) (bytes : Option (List ℕ)) → IfSome bytes (λ bs. len ≡ length bs) → IfSome bytes (HasNoLineFrom len)
begins len None h = tt
begins len (Some bs) h = (omega (arith, h), λ k low high e. absurd (omega (arith, h, low, high)))

-- no line feed in the piece before
pub further : (start count n : ℕ) (bytes : Option (List ℕ)) → n ≡ 0 → IfSome bytes (IsWholeIn start count n) → IfSome bytes (HasNoLineFrom (start + count)) → IfSome bytes (HasNoLineFrom start)
further start count n None none w h = tt
further start count n (Some bs) none w h = (
  omega (arith, w.within),
  λ k low high. elim (cases_lt k (start + count)) [
    | inl before ↦ w.after k (omega (arith, none, low)) before
    | inr after ↦ h.1 k after high
  ],
)

-- the last line feed is in the piece before
pub ends : (start count n : ℕ) (bytes : Option (List ℕ)) → 0 < n → IfSome bytes (IsWholeIn start count n) → IfSome bytes (HasNoLineFrom (start + count)) → IfSome bytes (λ bs. IsWholePart bs (start + n))
ends start count n None some w h = tt
ends start count n (Some bs) some w h = (
  omega (arith, w.within, w.most),
  w.ends some,
  λ k low high. elim (cases_lt k (start + count)) [
    | inl before ↦ w.after k low before
    | inr after ↦ h.1 k after high
  ],
)

-- no line feed at all
pub none : (bytes : Option (List ℕ)) → IfSome bytes (HasNoLineFrom 0) → IfSome bytes (λ bs. IsWholePart bs 0)
none None h = tt
none (Some bs) h = (omega arith, inl refl, h.1)

-- ---- one piece

pub ends_after : (before part : List ℕ) → EndsLine part → 0 < length part → EndsLine (before ++ part)
ends_after before part (inl empty) some = absurd (omega (arith, some, ap (λ (l : List ℕ). length l) empty))
ends_after before part (inr line) some = inr (before ++ line.0, ap (λ (l : List ℕ). before ++ l) line.1 ∙ sym (append_assoc before line.0 (10 ∷ [])))

module _ (before part after : List ℕ) (n : ℕ) (w : IsWholePart part n) where
  abbrev pub all : List ℕ
  all = before ++ (part ++ after)

  piece_ends : 0 < n → EndsLine (take (length before + n) all)
  piece_ends some =
      subst EndsLine (sym (take-append-add before (part ++ after) n ∙ ap (λ (l : List ℕ). before ++ l) (take-append-le n part after w.0)))
      (ends_after before (take n part) w.1 (omega (arith, some, length-take-le n part w.0)))

  piece_after : HasNoLine all (length before + n) (length before + length part)
  piece_after k low high e =
      let i = k - length before in
      let inside : i < length part = omega (arith, low, high) in
      w.2 i (omega (arith, low)) inside
      (sym (get_or_append_left part after 0 i inside) ∙ sym (get_or-append_right before (part ++ after) (length before) k 0 refl (omega (arith, low))) ∙ e)

  pub in_piece : IsWholeIn (length before) (length part) n all
  in_piece = record {
    within = omega (arith, length-append before (part ++ after), length-append part after);
    most = w.0;
    ends = piece_ends;
    after = piece_after;
  }

of_shown : (bs : List ℕ) (start n : ℕ) (part : List ℕ) → Shows (Some bs) start part → IsWholePart part n → IsWholeIn start (length part) n bs
of_shown bs start n part s w =
    subst (λ (t : ℕ). IsWholeIn t (length part) n bs) s.3 (subst (IsWholeIn (length s.0) (length part) n) (sym s.2) (in_piece s.0 part s.1 n w))

-- the piece that was read
pub of_piece : (bytes : Option (List ℕ)) (start count n : ℕ) (part : List ℕ) → length part ≡ count → Shows bytes start part → IsWholePart part n → IfSome bytes (IsWholeIn start count n)
of_piece None start count n part is s w = tt
of_piece (Some bs) start count n part is s w = subst (λ (k : ℕ). IsWholeIn start k n bs) is (of_shown bs start n part s w)
