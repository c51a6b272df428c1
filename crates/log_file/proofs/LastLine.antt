-- Where the whole lines of bytes end.
use Rattle.std.proofs.Common.{ℕ, ◌+◌, ◌<◌, ◌==◌, None, Some, List, [], ◌∷◌, ◌++◌, length, take, refl, ap, ◌∙◌, inl, inr, arith}
use Rattle.std.proofs.lemmas.Bool.{eqb-true}
use Rattle.std.proofs.lemmas.List.{take_more}
use Rattle.std.specs.List.{slice_index}
use Rattle.memchr.specs.Find.{IsLastByte, is_byte}
use Rattle.log_file.specs.Line.{IsWholePart}

pub last_line : (bytes : List ℕ) (place : ℕ) → IsLastByte (is_byte 10) bytes (Some place) → IsWholePart bytes (place + 1)
last_line bytes place last =
    let within : place < length bytes = last.0.high in (
      omega (arith, within),
      inr (take place bytes, take_more bytes place 0 within ∙ ap (λ (b : ℕ). take place bytes ++ b ∷ []) (eqb-true (slice_index bytes place) 10 last.1)),
      λ k low high e. last.0.after k low high (ap (λ (b : ℕ). b == 10) e),
    )

pub no_line : (bytes : List ℕ) → IsLastByte (is_byte 10) bytes None → IsWholePart bytes 0
no_line bytes none = (omega arith, inl refl, λ k low high e. none k low high (ap (λ (b : ℕ). b == 10) e))
