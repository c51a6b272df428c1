-- Writes one after the other.
use Rattle.std.proofs.Common.{◌≡◌, ℕ, List, [], ◌++◌, take, drop, Option, Some, None, refl, sym, ap, ◌∙◌, append_assoc, append-nil}
use Rattle.std.specs.Io.KnownBytes.{append_known}
use Rattle.std.proofs.lemmas.List.{take-append-drop}
use Rattle.note_log.specs.Handing.{Moves}

pub known_nil : (b : Option (List ℕ)) → b ≡ append_known b []
known_nil None = refl
known_nil (Some bs) = ap Some (sym (append-nil bs))

pub known_more : (b : Option (List ℕ)) (xs ys : List ℕ) → append_known (append_known b xs) ys ≡ append_known b (xs ++ ys)
known_more None xs ys = refl
known_more (Some bs) xs ys = ap Some (append_assoc bs xs ys)

-- what grew, and grew again
pub known_trans : (b0 b1 b2 : Option (List ℕ)) (xs ys : List ℕ) → b1 ≡ append_known b0 xs → b2 ≡ append_known b1 ys → b2 ≡ append_known b0 (xs ++ ys)
known_trans b0 b1 b2 xs ys x y = y ∙ ap (λ (b : Option (List ℕ)). append_known b ys) x ∙ known_more b0 xs ys

pub unmoved : (b : Option (List ℕ)) (h w : List ℕ) → Moves b b h h w w
unmoved b h w = record { more = []; bytes = known_nil b; handed = sym (append-nil h); waiting = refl }

module _ (b0 b1 b2 : Option (List ℕ)) (h0 h1 h2 w0 w1 w2 : List ℕ) where
  -- a front of n bytes more
  pub moved : (n : ℕ) → Moves b0 b1 h0 h1 w0 w1 → b2 ≡ append_known b1 (take n w1) → h2 ≡ h1 ++ take n w1 → w2 ≡ drop n w1 → Moves b0 b2 h0 h2 w0 w2
  moved n m a h w = record {
    more = m.more ++ take n w1;
    bytes = known_trans b0 b1 b2 m.more (take n w1) m.bytes a;
    handed = h ∙ ap (λ (t : List ℕ). t ++ take n w1) m.handed ∙ append_assoc h0 m.more (take n w1);
    waiting = m.waiting ∙ ap (λ (t : List ℕ). m.more ++ t) (sym (take-append-drop n w1)) ∙ sym (append_assoc m.more (take n w1) (drop n w1))
        ∙ ap (λ (t : List ℕ). (m.more ++ take n w1) ++ t) (sym w);
  }

  -- nothing more
  pub stayed : Moves b0 b1 h0 h1 w0 w1 → b2 ≡ b1 → Moves b0 b2 h0 h1 w0 w1
  stayed m k = record { more = m.more; bytes = k ∙ m.bytes; handed = m.handed; waiting = m.waiting }

  -- what waited, and then what came to it
  pub joined : (f : List ℕ) → Moves b0 b1 h0 h1 w0 w1 → w1 ≡ [] → Moves b1 b2 h1 h2 f w2 → Moves b0 b2 h0 h2 (w0 ++ f) w2
  joined f m none n = record {
    more = m.more ++ n.more;
    bytes = known_trans b0 b1 b2 m.more n.more m.bytes n.bytes;
    handed = n.handed ∙ ap (λ (t : List ℕ). t ++ n.more) m.handed ∙ append_assoc h0 m.more n.more;
    waiting = ap (λ (t : List ℕ). t ++ f) (m.waiting ∙ ap (λ (t : List ℕ). m.more ++ t) none ∙ append-nil m.more) ∙ ap (λ (t : List ℕ). m.more ++ t) n.waiting
        ∙ sym (append_assoc m.more n.more w2);
  }
