-- What `serve` shows of documents whose numbers are all whole.
use Rattle.std.proofs.Common.{◌≡◌, inl, inr, ℕ, zero, suc, ◌+◌, ◌-◌, Bool, true, false, List, [], ◌∷◌, length, Option, Some, Result, Ok, Err, subst}
use Rattle.std.specs.Prelude.{slice_get}
use Rattle.flagops_shell.specs.Files.{Holding}
use Rattle.flagops_streams.specs.Documents.{count_of}
use Rattle.flagops_streams.specs.Loading.{IsRefusedOf}
use Rattle.flagops_streams.specs.Report.{RefusesBeside, Reports}
use Rattle.flagops_streams.specs.Told.{MayForewarnAt, MayForewarnEach, TellsServing}
use Rattle.flagops_streams.specs.Words.{Serving}
use Rattle.flagops_streams.specs.declared.refusal.Refusal.{Refusal}
use Rattle.flagops_streams.specs.declared.refusal.Refusal.TheVariants.{WantOfMemory}
use Rattle.product_laws.specs.Documents.{MeaningsStay}
use Rattle.product_laws.specs.FloatWhole.{IsWholeText}
use Rattle.product_laws.specs.Filters.{ShownStay}
use Rattle.product_laws.specs.Whole.{AreWholeAt}
use Rattle.product_laws.proofs.Served.{AreWhole, all_loaded}

-- ---- documents that are refused

text_at : (texts : List (List ℕ)) (i : ℕ) (text : List ℕ) → AreWhole texts → slice_get texts i ≡ Some text → IsWholeText text
text_at [] i text whole h = cc
text_at (t ∷ texts) zero text whole h = let same : t ≡ text = cc in subst (λ (x : List ℕ). IsWholeText x) same whole.0
text_at (t ∷ texts) (suc i) text whole h = text_at texts i text whole.1 h

module _ (meanings : MeaningsStay) (other : Bool) (at : Holding) (s : Serving) (whole : AreWholeAt at s.documents) where
  refused_so : (place : ℕ) → IsRefusedOf at s place → IsRefusedOf at (record s { floats = other }) place
  refused_so place h =
      let texts = all_loaded at s.documents (record { sources = []; texts = [] }) h.0 whole tt h.1 in
      (h.0, h.1, (h.2.0, h.2.1, h.2.2, meanings s.floats other h.2.0 (Err h.2.1) (text_at h.0.texts (place - 1) h.2.0 texts h.2.2) h.2.3))

-- ---- lines that depend on them

module _ (paths : List (List ℕ)) (Is Other : ℕ → Type 0) (more : (place : ℕ) → Is place → Other place) (is_mute : Bool) where
  forewarned_at : (place : ℕ) (old new : Option (List ℕ)) → MayForewarnAt paths Is place old new is_mute → MayForewarnAt paths Other place old new is_mute
  forewarned_at place old new (inl h) = inl h
  forewarned_at place old new (inr h) = inr (h.0, h.1, more place h.2, h.3)

  forewarned : (n : ℕ) (old new : Option (List ℕ)) → MayForewarnEach paths Is n old new is_mute → MayForewarnEach paths Other n old new is_mute
  forewarned zero old new h = h
  forewarned (suc n) old new h = (h.0, forewarned n old h.0 h.1, forewarned_at (n + 2) h.0 new h.2)

  serving_told : (documents port subscribers : ℕ) (are_served : Bool) (old new : Option (List ℕ))
      → TellsServing paths Is documents port subscribers are_served old new is_mute → TellsServing paths Other documents port subscribers are_served old new is_mute
  serving_told documents port subscribers are_served old new h = (h.0, forewarned (documents - 1) old h.0 h.1, h.2)

module _ (paths : List (List ℕ)) (Tells Others : Bool → Option (List ℕ) → Option (List ℕ) → Bool → Type 0)
    (more : (are_served : Bool) (old new : Option (List ℕ)) (is_mute : Bool) → Tells are_served old new is_mute → Others are_served old new is_mute) (old new : Option (List ℕ)) (broken : Bool) (err after : Option (List ℕ)) (is_mute : Bool) (status : ℕ) where
  beside : (refusal : Refusal) → RefusesBeside paths (Tells false) refusal old new broken err after is_mute status → RefusesBeside paths (Others false) refusal old new broken err after is_mute status
  beside refusal h = (h.0, (h.1.0, more false err h.1.0 is_mute h.1.1, h.1.2))

  reported : (r : Result ℕ Refusal) → Reports paths Tells r old new broken err after is_mute status → Reports paths Others r old new broken err after is_mute status
  reported (Ok n) (inl h) = inl (h.0, more true err after is_mute h.1)
  reported (Ok n) (inr h) = inr (beside WantOfMemory h)
  reported (Err refusal) h = beside refusal h

pub shown_stay : MeaningsStay → ShownStay
shown_stay meanings other old new status at s answer whole h =
    let t : Serving = record s { floats = other } in
    let told : (are_served : Bool) (before after : Option (List ℕ)) (is_mute : Bool) → TellsServing s.documents (IsRefusedOf at s) (length s.documents) s.port s.subscribers are_served before after is_mute
    → TellsServing s.documents (IsRefusedOf at t) (length s.documents) s.port s.subscribers are_served before after is_mute
    = λ are_served before after is_mute. serving_told s.documents (IsRefusedOf at s) (IsRefusedOf at t) (refused_so meanings other at s whole) is_mute (length s.documents) s.port s.subscribers are_served before after in
    reported s.documents (TellsServing s.documents (IsRefusedOf at s) (length s.documents) s.port s.subscribers) (TellsServing s.documents (IsRefusedOf at t) (length s.documents) s.port s.subscribers) told
    old.printed new.printed new.is_broken old.reported new.reported new.is_mute status (count_of answer) h
