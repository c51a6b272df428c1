-- What frames carry whose documents have whole numbers alone.
use Rattle.std.proofs.Common.{◌≡◌, ◌∙◌, ◌↔◌, ℕ, Bool, true, false, cond, List, [], Result, Ok, Err, refl, sym, ap, subst}
use Rattle.flag_defs.specs.Document.{DocumentMeans, printed}
use Rattle.flag_defs.specs.Floats.{MeansWithFloats, are_unmarked, marked}
use Rattle.flag_defs.specs.Spelled.{flags_spelled, printed_with_floats}
use Rattle.flag_defs.specs.declared.fault.DefFault.{DefFault}
use Rattle.spelled_numbers.specs.Law.{FloatsChangeNothing, WholeFlagsHaveNoFloats}
use Rattle.spelled_numbers.specs.Marks.{marks_of_text}
use Rattle.sync_frames.specs.Framed.{IsFrameOf}
use Rattle.sync_frames.specs.Frames.{IsDocumentOf, frame_of}
use Rattle.sync_frames.specs.Snapshots.{Numbered}
use Rattle.product_laws.specs.Frames.{FramesStay, IsPlainDocumentOf, PlainFlagsAreFramed, RefusalsStay}
use Rattle.product_laws.specs.FloatWhole.{IsWholeText}
use Rattle.product_laws.proofs.Marked.{marked_by_none, text_unmarked}
use Rattle.product_laws.proofs.FloatRead.{meanings_stay}

module _ (trees : FloatsChangeNothing) (none : WholeFlagsHaveNoFloats) where
  plain_of : (s : Numbered) (d : List ℕ) → IsWholeText d → IsDocumentOf s d → IsPlainDocumentOf s d
  plain_of s d whole h =
      record {
        fits = h.fits;
        small = h.small;
        means = meanings_stay trees true false d (Ok s.flags) whole h.means.0;
        plain = sym h.means.1 ∙ marked_by_none (marks_of_text d) (text_unmarked none d whole) s.flags;
      }

  of_plain : (s : Numbered) (d : List ℕ) → IsWholeText d → IsPlainDocumentOf s d → IsDocumentOf s d
  of_plain s d whole h =
      record {
        fits = h.fits;
        small = h.small;
        means = (meanings_stay trees false true d (Ok s.flags) whole h.means, marked_by_none (marks_of_text d) (text_unmarked none d whole) s.flags ∙ sym h.plain);
      }

  pub frames_stay : FramesStay
  frames_stay s d whole = (plain_of s d whole, of_plain s d whole)

pub refusals_stay : FloatsChangeNothing → RefusalsStay
refusals_stay trees d fault whole = (meanings_stay trees true false d (Err fault) whole, meanings_stay trees false true d (Err fault) whole)

pub plain_flags_are_framed : PlainFlagsAreFramed
plain_flags_are_framed s bytes h f = f.whole ∙ ap (frame_of s.number) (printed_plain h)
  where
    printed_plain : are_unmarked s.floats ≡ true → printed_with_floats s.flags s.floats ≡ printed s.flags
    printed_plain h = ap (λ (b : Bool). cond b (printed s.flags) (flags_spelled s.flags s.floats)) h
