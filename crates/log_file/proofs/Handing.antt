-- What a file was handed, as it grows.
use Rattle.std.proofs.Common.{◌≡◌, ℕ, List, [], ◌∷◌, ◌++◌, take, Option, Some, None, sym, ap, ◌∙◌, subst, append_assoc, append-nil}
use Rattle.std.specs.declared.alloc.Global.{Global}
use Rattle.std.specs.Io.KnownBytes.{append_known}
use Rattle.std.proofs.Math.Logic.{∥∥₁_map}
use Rattle.std.proofs.lemmas.Grind.{flat_map-append}
use Rattle.bytes.specs.declared.unique.BytesMut.{BytesMut}
use Rattle.log_file.specs.Handed.{EndsWith, handed_in}

-- the bytes of one write more
pub one_write : (writes after : List (BytesMut Global × ℕ)) (buffer : BytesMut Global) (n : ℕ) → after ≡ writes ++ (buffer, n) ∷ [] → handed_in after ≡ handed_in writes ++ take n buffer.items
one_write writes after buffer n e =
    ap handed_in e ∙ flat_map-append (λ (w : BytesMut Global × ℕ). take w.1 w.0.items) writes ((buffer, n) ∷ [])
    ∙ ap (λ (bs : List ℕ). handed_in writes ++ bs) (append-nil (take n buffer.items))

-- nothing was handed over yet
pub ends_none : (bytes : Option (List ℕ)) (handed : List ℕ) → handed ≡ [] → ∥ EndsWith bytes handed ∥₁
ends_none None handed none = ∣ tt ∣₁
ends_none (Some bs) handed none = ∣ (bs, sym (append-nil bs) ∙ ap (λ (t : List ℕ). bs ++ t) (sym none)) ∣₁

more : (old : Option (List ℕ)) (handed taken : List ℕ) → EndsWith old handed → EndsWith (append_known old taken) (handed ++ taken)
more None handed taken h = tt
more (Some bs) handed taken h = (h.0, ap (λ (t : List ℕ). t ++ taken) h.1 ∙ append_assoc h.0 handed taken)

-- what was taken was handed over
pub ends_more : (n : ℕ) (old new : Option (List ℕ)) (buf handed after : List ℕ) → new ≡ append_known old (take n buf) → after ≡ handed ++ take n buf → ∥ EndsWith old handed ∥₁ → ∥ EndsWith new after ∥₁
ends_more n old new buf handed after is grown h =
    ∥∥₁_map h (λ (e : EndsWith old handed).
    subst (EndsWith new) (sym grown) (subst (λ (o : Option (List ℕ)). EndsWith o (handed ++ take n buf)) (sym is) (more old handed (take n buf) e)))

-- what stays
pub ends_same : (old new : Option (List ℕ)) (handed : List ℕ) → new ≡ old → ∥ EndsWith old handed ∥₁ → ∥ EndsWith new handed ∥₁
ends_same old new handed is h = subst (λ (o : Option (List ℕ)). ∥ EndsWith o handed ∥₁) (sym is) h
