-- What a batch comes to, by what is cut of it and recorded of its lines.
use denote.Ref.{Bor}
use Rattle.std.proofs.Common.{◌≡◌, ◌≤◌, ◌<◌, ◌+◌, ℕ, true, false, List, length, Option, ap, ◌∙◌, sym, subst, inl, inr, arith}
use Rattle.std.specs.Io.KnownBytes.{Appends}
use Rattle.flag_text.specs.Outlet.{AppendsPart}
use Rattle.byte_streams.specs.Lines.{HasNoFeed, IsCut, lines_view}
use Rattle.note_streams.specs.Record.{Recorded, Scene, most_line, record_of}
use Rattle.note_streams.specs.Batch.{Fronts, Leaves, Stops}
use Rattle.note_streams.proofs.Batches.{few_recorded}

module _ (s : Scene) (bytes rest : List ℕ) (lines : List (Bor (List ℕ))) (r : Recorded) (is : r ≡ record_of s (lines_view lines)) (cut : IsCut bytes (lines_view lines) rest) where
  pub fronts : (old new : Option (List ℕ)) → AppendsPart old new r.text → Fronts s bytes old new
  fronts old new part = record {
    lines = lines_view lines;
    rest = rest;
    cut = cut;
    text = subst (λ (x : Recorded). AppendsPart old new x.text) is part;
  }

  -- as many lines as were recorded
  counted : r.lines ≡ (record_of s (lines_view lines)).lines
  counted = ap (λ (x : Recorded). x.lines) is

  judged : r.refused ≡ (record_of s (lines_view lines)).refused
  judged = ap (λ (x : Recorded). x.refused) is

  module _ (none : HasNoFeed rest) (before n : ℕ) (old new : Option (List ℕ)) (text : Appends old new r.text) where
    whole : Appends old new (record_of s (lines_view lines)).text
    whole = subst (λ (x : Recorded). Appends old new x.text) is text

    pub refuses : r.refused ≡ true → n ≡ before + r.lines → Stops s bytes before n old new
    refuses bad number = record {
      lines = lines_view lines;
      rest = rest;
      cut = cut;
      none = none;
      why = inl (sym judged ∙ bad, number ∙ ap (λ (k : ℕ). before + k) counted);
      text = whole;
    }

    pub ends_long : r.refused ≡ false → most_line < length rest → n ≡ before + r.lines + 1 → Stops s bytes before n old new
    ends_long good long number = record {
      lines = lines_view lines;
      rest = rest;
      cut = cut;
      none = none;
      why = inr (sym judged ∙ good, long, number ∙ ap (λ (k : ℕ). before + k + 1) counted);
      text = whole;
    }

    pub leaves : r.refused ≡ false → length rest ≤ most_line → n ≡ before + r.lines → length lines + length rest ≤ length bytes → Leaves s bytes rest before n old new
    leaves good short number fewer =
        let few = few_recorded s lines r is in
        record {
          lines = lines_view lines;
          cut = cut;
          none = none;
          good = sym judged ∙ good;
          short = short;
          number = number ∙ ap (λ (k : ℕ). before + k) counted;
          few = omega (arith, few, fewer, counted);
          text = whole;
        }
