-- The tally of answers, by the slices of them that were printed and counted.
use Rattle.std.proofs.Common.{◌≡◌, ◌∙◌, ℕ, List, Bool, Option, length, map, subst, sym}
use Rattle.std.proofs.lemmas.List.{length-map}
use Rattle.book_core.specs.Book.{Contents}
use Rattle.flag_resolve.specs.Resolved.{Resolved}
use Rattle.flagops_drive.specs.Lines.{drive_text}
use Rattle.flagops_drive.specs.Tally.{IsEndings, IsTallyOf, inputs_before}
use Rattle.flagops_drive.specs.declared.tally.Tally.{Tally}

module _ {R : Type 0} (view : R → Resolved) (spell : List Resolved → List Bool) (items printed counted : List R) (before : Option Contents) (json : Bool) (text : List ℕ) (tally : Tally) (calls full long : ℕ) where
  pub tallied : printed ≡ items → counted ≡ items → text ≡ drive_text json (spell (map view printed)) (map view printed) tally.inputs calls tally.reached full long → tally.asks ≡ length items
      → IsEndings (map view counted) tally.endings → tally.had ≡ inputs_before before → IsTallyOf (map view items) (spell (map view items)) before json text tally
  unfolding IsTallyOf
  tallied print count is asks endings had = (
    calls,
    full,
    long,
    subst (λ (xs : List R). text ≡ drive_text json (spell (map view xs)) (map view xs) tally.inputs calls tally.reached full long) print is,
    asks ∙ sym (length-map items view),
    subst (λ (xs : List R). IsEndings (map view xs) tally.endings) count endings,
    had,
  )
