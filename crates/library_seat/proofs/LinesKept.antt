-- Lists of lines.
use Rattle.std.proofs.Common.{rules, suc, ◌≤◌, add_assoc, drop-drop, ◌≡◌, ℕ, ◌+◌, ◌<◌, List, [], ◌∷◌, ◌++◌, Vec, length, take, drop, get_or, refl, ap, sym, ◌∙◌, append_assoc, drop-cons, arith, length-append, ◌||◌, Bool}
use Rattle.std.proofs.lemmas.List.{take-append-drop}
use Rattle.std.proofs.Math.Seq.{take-append_seam, drop-append_seam}
use Rattle.std.proofs.lemmas.Grind.{common_steps}
use Rattle.std.specs.List.{concat, list_any}
use Rattle.std.specs.Str.{bytes_eq}
use Rattle.std.specs.declared.alloc.Global.{Global}
use Rattle.library_seat.specs.LinesView.{lines_view}

-- a line is among the vectors where it is among their items
pub any_seen : (line : List ℕ) (vs : List (Vec ℕ Global)) → list_any (λ v. bytes_eq line v.items) vs ≡ list_any (bytes_eq line) (lines_view vs)
any_seen line [] = refl
any_seen line (v ∷ vs) = ap (λ (b : Bool). bytes_eq line v.items || b) (any_seen line vs)

pub lines_view-push : (vs : List (Vec ℕ Global)) (v : Vec ℕ Global) → lines_view (vs ++ v ∷ []) ≡ lines_view vs ++ v.items ∷ []
lines_view-push [] v = refl
lines_view-push (x ∷ vs) v = ap (λ (ls : List (List ℕ)). x.items ∷ ls) (lines_view-push vs v)

pub concat-push : (ls : List (List ℕ)) (l : List ℕ) → concat (ls ++ l ∷ []) ≡ concat ls ++ l
concat-push [] l = search rules
concat-push (x ∷ ls) l = ap (λ (bs : List ℕ). x ++ bs) (concat-push ls l) ∙ sym (append_assoc x (concat ls) l)

-- what begins with what begins with a list begins with the list
pub begins-trans : {X : Type 0} (a b c : List X) → take (length a) b ≡ a → take (length b) c ≡ b → take (length a) c ≡ a
begins-trans {X = X} a b c one two =
    let parts : b ≡ a ++ drop (length a) b = sym (take-append-drop (length a) b) ∙ ap (λ (x : List X). x ++ drop (length a) b) one in
    let whole : c ≡ a ++ (drop (length a) b ++ drop (length b) c) =
    sym (take-append-drop (length b) c) ∙ ap (λ (x : List X). x ++ drop (length b) c) (two ∙ parts) ∙ append_assoc a (drop (length a) b) (drop (length b) c) in
    ap (take (length a)) whole ∙ take-append_seam a (drop (length a) b ++ drop (length b) c)

-- a line after those that were copied
pub next_line : (vs : List (Vec ℕ Global)) (i : ℕ) (v : Vec ℕ Global) → i < length vs → v ≡ get_or vs i v → concat (lines_view (drop i vs)) ≡ v.items ++ concat (lines_view (drop (suc i) vs))
next_line vs i v low is = ap (λ (xs : List (Vec ℕ Global)). concat (lines_view xs)) (drop-cons vs i v low ∙ ap (λ (x : Vec ℕ Global). x ∷ drop (suc i) vs) (sym is))

-- ---- bytes that are copied to a place

module _ (start : ℕ) (out bytes : List ℕ) (fits : start + length bytes ≤ length out) where
  abbrev pub copied : List ℕ
  copied = take start out ++ (bytes ++ drop (start + length bytes) out)

  parts : copied ≡ (take start out ++ bytes) ++ drop (start + length bytes) out
  parts = sym (append_assoc (take start out) bytes (drop (start + length bytes) out))

  front_length : length (take start out ++ bytes) ≡ start + length bytes
  front_length = grind (arith, common_steps, fits)

  pub front_copied : take (start + length bytes) copied ≡ take start out ++ bytes
  front_copied = ap (take (start + length bytes)) parts ∙ ap (λ (n : ℕ). take n ((take start out ++ bytes) ++ drop (start + length bytes) out)) (sym front_length)
      ∙ take-append_seam (take start out ++ bytes) (drop (start + length bytes) out)

  pub rest_copied : drop (start + length bytes) copied ≡ drop (start + length bytes) out
  rest_copied = ap (drop (start + length bytes)) parts ∙ ap (λ (n : ℕ). drop n ((take start out ++ bytes) ++ drop (start + length bytes) out)) (sym front_length)
      ∙ drop-append_seam (take start out ++ bytes) (drop (start + length bytes) out)

  pub length_copied : length copied ≡ length out
  length_copied = grind (arith, common_steps, fits)

-- a line is copied behind those that were copied
module _ (vs : List (Vec ℕ Global)) (i end : ℕ) (v : Vec ℕ Global) (all first out : List ℕ) where
  -- [all in its order; what lies behind is as it was; so is the length; the lines that are left have room]
  abbrev pub IsCopied : ℕ → ℕ → List ℕ → Type 0
  IsCopied j n now =
      (take (end + n) now ++ concat (lines_view (drop j vs)) ≡ all) × (drop (end + n) now ≡ drop (end + n) first)
      × (length now ≡ length first) × (end + n + length (concat (lines_view (drop j vs))) ≡ length all)

  module _ (low : i < length vs) (is : v ≡ get_or vs i v) (wide : length all ≤ length first)
      (whole : take end out ++ concat (lines_view (drop i vs)) ≡ all) (after : drop end out ≡ drop end first)
      (same : length out ≡ length first) (room : end + length (concat (lines_view (drop i vs))) ≡ length all) where
    abbrev left : List ℕ
    left = concat (lines_view (drop (suc i) vs))

    next : concat (lines_view (drop i vs)) ≡ v.items ++ left
    next = next_line vs i v low is

    parts_length : (end + length v.items) + length left ≡ length all
    parts_length = add_assoc end (length v.items) (length left) ∙ ap (λ (n : ℕ). end + n) (sym (ap length next ∙ length-append v.items left)) ∙ room

    pub fits_line : end + length v.items ≤ length out
    fits_line = omega (arith, parts_length, wide, same)

    pub line_copied : IsCopied (suc i) (length v.items) (copied end out v.items fits_line)
    line_copied = (
      ap (λ (bs : List ℕ). bs ++ left) (front_copied end out v.items fits_line) ∙ append_assoc (take end out) v.items left ∙ ap (λ (bs : List ℕ). take end out ++ bs) (sym next) ∙ whole,
      rest_copied end out v.items fits_line ∙ sym (drop-drop (length v.items) end out) ∙ ap (drop (length v.items)) after ∙ drop-drop (length v.items) end first,
      length_copied end out v.items fits_line ∙ same,
      parts_length,
    )
