-- What desks are shown of what was published last.
use Rattle.std.proofs.Common.{◌≡◌, Bool, true, false, ℕ, List, [], ◌∷◌, ◌++◌, Option, Some, None, Ok, String, Global, append-nil, append_assoc, length, refl, string_bytes, subst, sym}
use Rattle.std.specs.Prelude.{IfSome}
use Rattle.control_desk.specs.Sources.{IsDocumentOf, Source}
use Rattle.file_diagnostics.specs.Broken.{TellsBroken}
use Rattle.flag_defs.specs.Flags.{flags_view}
use Rattle.flag_defs.specs.Floats.{MeansWithFloats, floats_view}
use Rattle.flag_defs.specs.Spelled.{printed_with_floats}
use Rattle.flag_defs.specs.declared.flags.Flags.{Flags}
use Rattle.snap_share.specs.Known.{last_of}
use Rattle.snap_share.proofs.Numbers.{last_of_snoc}
use Rattle.flagops_service.specs.Shown.{ArePrepared, AreRemarks, AreShown, IsKnownOf, document_text, shown_of}
use Rattle.flagops_service.specs.declared.document_texts.DocumentTexts.{DocumentTexts}

module _ (desks : Bool) (texts : List (List ℕ)) (flags : Flags) (published : List Flags) where
  -- a document that means the flags is one of those that were published last
  pub is_document : (o : Option DocumentTexts) → ArePrepared desks texts flags o → last_of published ≡ Some flags → IfSome o (λ t. IsDocumentOf published (string_bytes t.document))
  is_document None are last = tt
  is_document (Some t) are last = by desks are
    where
      by : (b : Bool) → ArePrepared b texts flags (Some t) → IsDocumentOf published (string_bytes t.document)
      by true h = (flags, last, h.1)
      by false h = absurd h

  -- it is shown
  pub are_shown : (o : Option DocumentTexts) → ArePrepared desks texts flags o → (shown : Option Source) → shown ≡ shown_of published o → AreShown desks texts flags published shown
  are_shown o are shown is = subst (AreShown desks texts flags published) (sym is) (by desks o are)
    where
      by : (b : Bool) (o : Option DocumentTexts) → ArePrepared b texts flags o → AreShown b texts flags published (shown_of published o)
      by true None h = absurd h
      by true (Some t) h = (record { document_is = h.0.document_is; remarks_are = h.0.remarks_are }, refl)
      by false None h = tt
      by false (Some t) h = tt

-- ---- what is to be shown

module _ (desks : Bool) (texts : List (List ℕ)) (flags : Flags) where
  -- nothing, where there are no desks
  pub none_prepared : desks ≡ false → ArePrepared desks texts flags None
  none_prepared is = subst (λ (b : Bool). ArePrepared b texts flags None) (sym is) tt

  pub some_prepared : desks ≡ true → (document remarks : String Global) → IsKnownOf texts flags (string_bytes document) (string_bytes remarks) → MeansWithFloats (string_bytes document) (Ok (flags_view flags))
      → ArePrepared desks texts flags (Some (record { document = document; remarks = remarks }))
  some_prepared is document remarks known means = subst (λ (b : Bool). ArePrepared b texts flags (Some (record { document = document; remarks = remarks }))) (sym is) (known, means)

-- the text of several documents, or of none
pub text_of_others : (texts : List (List ℕ)) (flags : Flags) → (length texts ≡ 1 → ⊥) → document_text texts flags ≡ printed_with_floats (flags_view flags) (floats_view flags)
text_of_others [] flags other = refl
text_of_others (text ∷ []) flags other = absurd (other refl)
text_of_others (text ∷ next ∷ texts) flags other = refl

-- ---- what was published last

-- the flags behind others are the last
pub last_behind : (front published : List Flags) (flags : Flags) → published ≡ front ++ flags ∷ [] → last_of published ≡ Some flags
last_behind front published flags is = subst (λ (fs : List Flags). last_of fs ≡ Some flags) (sym is) (last_of_snoc front flags)

-- ---- remarks

-- the lines of one more document
pub one_more : (all texts : List (List ℕ)) (text remarks lines : List ℕ) → ((more : List ℕ) → AreRemarks (text ∷ texts) more → AreRemarks all (remarks ++ more)) → TellsBroken true text lines
    → (more : List ℕ) → AreRemarks texts more → AreRemarks all ((remarks ++ lines) ++ more)
one_more all texts text remarks lines so_far told more rest =
    subst (AreRemarks all) (sym (append_assoc remarks lines more)) (so_far (lines ++ more) (lines, more, refl, told, rest))

-- those of all
pub all_told : (all texts : List (List ℕ)) (remarks : List ℕ) → ((more : List ℕ) → AreRemarks texts more → AreRemarks all (remarks ++ more)) → texts ≡ [] → AreRemarks all remarks
all_told all texts remarks so_far none =
    subst (AreRemarks all) (append-nil remarks) (so_far [] (subst (λ (ts : List (List ℕ)). AreRemarks ts []) (sym none) refl))
