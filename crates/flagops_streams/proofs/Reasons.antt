-- What is told of a refusal.
use Rattle.std.proofs.Common.{◌≡◌, ◌∙◌, ◌-◌, ◌⊎◌, ℕ, Bool, Bor, List, ◌∷◌, Option, Some, None, Result, Ok, Err, IfOk, IfErr, ap, inl, inr, map, option_map, refl, slice_get, subst, sym, length, arith, string_bytes}
use Rattle.std.proofs.lemmas.Option.{slice_get-map, slice_get_past, slice_get_read}
use Rattle.std.specs.Option.{option_copied}
use Rattle.std.specs.Prelude.{◌<◌, MatchOption, String}
use Rattle.std.specs.Slice.{IsItemAt}
use Rattle.std.specs.declared.alloc.Global.{Global}
use Rattle.flag_defs.specs.declared.fault.DefFault.{DefFault}
use Rattle.flagops_streams.specs.Told.{Says, TellsOfFile, TellsOrShort, TellsReason, TellsReasonAt, TellsText}
use Rattle.flagops_streams.specs.Why.{IsAboutDocument, IsAboutFile, IsOneOf, IsWhy, document_line, memory_line, refused_document, why_lines}
use Rattle.flagops_streams.specs.declared.refusal.Refusal.{Refusal}
use Rattle.flagops_streams.specs.declared.refusal.Refusal.TheVariants.{Add, Unreadable, Unloaded, Set, Merged, Share, Publish, Unbound, NoConnection, NoThread, Unreachable, Unserved, WantOfMemory}

-- what a slice lends at a place, from 1
pub lent_at : {X : Type 0} (now : X → List ℕ) (paths : List X) (i place : ℕ) (r : Option (Bor X)) (found : Option X)
    → i ≡ place - 1 → IsItemAt paths i r → found ≡ option_copied r → option_map now found ≡ slice_get (map now paths) (place - 1)
lent_at now paths i place None found is item copied =
    ap (option_map now) copied ∙ sym (ap (slice_get (map now paths)) (sym is) ∙ slice_get-map now paths i ∙ ap (option_map now) (slice_get_past paths i item.3))
lent_at now paths i place (Some x) found is item copied =
    ap (option_map now) copied ∙ sym (ap (slice_get (map now paths)) (sym is) ∙ slice_get-map now paths i ∙ ap (option_map now) (slice_get_read paths (length paths) i x.now refl item.3.0 item.1))

-- lines of a refusal say why where no document is refused
why_by : (paths : List (List ℕ)) (refusal : Refusal) (lines : List ℕ) (d : Option (ℕ × DefFault)) → None ≡ d → lines ≡ why_lines refusal
    → MatchOption d ((lines ≡ why_lines refusal) ⊎ IsAboutFile paths refusal lines) (λ d. MatchOption (slice_get paths (d.0 - 1)) (lines ≡ why_lines refusal) (λ path. IsAboutDocument path d.1 lines))
why_by paths refusal lines None none is = inl is
why_by paths refusal lines (Some d) none is = absurd (cc (none))

pub why_else : {E : Type 0} (r : Result (String Global) E) (paths : List (List ℕ)) (refusal : Refusal) → None ≡ refused_document refusal
    → IfOk r (λ s. string_bytes s ≡ why_lines refusal) → IfOk r (λ s. IsWhy paths refusal (string_bytes s))
why_else (Ok s) paths refusal none is = why_by paths refusal (string_bytes s) (refused_document refusal) none is
why_else (Err e) paths refusal none is = tt

module _ {E : Type 0} (r : Result (String Global) E) (paths : List (List ℕ)) (refusal : Refusal) (place : ℕ) (fault : DefFault) (refused : Some (place, fault) ≡ refused_document refusal) where
  by_place : (lines : List ℕ) → MatchOption (slice_get paths (place - 1)) (lines ≡ why_lines refusal) (λ path. IsAboutDocument path fault lines) → IsWhy paths refusal lines
  by_place lines told =
      subst (λ (d : Option (ℕ × DefFault)). MatchOption d ((lines ≡ why_lines refusal) ⊎ IsAboutFile paths refusal lines) (λ d. MatchOption (slice_get paths (d.0 - 1)) (lines ≡ why_lines refusal) (λ path. IsAboutDocument path d.1 lines)))
      refused told

  -- and where the path of the document is not known
  pub why_nowhere : None ≡ slice_get paths (place - 1) → IfOk r (λ s. string_bytes s ≡ why_lines refusal) → IfOk r (λ s. IsWhy paths refusal (string_bytes s))
  why_nowhere none told = by r told
    where
      by : (r : Result (String Global) E) → IfOk r (λ s. string_bytes s ≡ why_lines refusal) → IfOk r (λ s. IsWhy paths refusal (string_bytes s))
      by (Ok s) is = by_place (string_bytes s) (subst (λ (o : Option (List ℕ)). MatchOption o (string_bytes s ≡ why_lines refusal) (λ path. IsAboutDocument path fault (string_bytes s))) none is)
      by (Err e) is = tt

  -- where it is known, lines about the document do
  pub why_there : (path : List ℕ) → Some path ≡ slice_get paths (place - 1) → IfOk r (λ s. IsAboutDocument path fault (string_bytes s)) → IfOk r (λ s. IsWhy paths refusal (string_bytes s))
  why_there path there told = by r told
    where
      by : (r : Result (String Global) E) → IfOk r (λ s. IsAboutDocument path fault (string_bytes s)) → IfOk r (λ s. IsWhy paths refusal (string_bytes s))
      by (Ok s) about = by_place (string_bytes s) (subst (λ (o : Option (List ℕ)). MatchOption o (string_bytes s ≡ why_lines refusal) (λ path. IsAboutDocument path fault (string_bytes s))) there about)
      by (Err e) about = tt

-- lines were told, or the sentence in their place
pub lines_told : {E : Type 0} (Is : List ℕ → Type 0) (lines : Result (String Global) E) (old new : Option (List ℕ)) (is_mute : Bool)
    → IfOk lines (λ s. Is (string_bytes s)) → IfOk lines (λ s. Says old new is_mute (string_bytes s)) → IfErr lines (λ _. Says old new is_mute memory_line) → TellsOrShort Is old new is_mute
lines_told Is (Ok s) old new is_mute are said sentence = (string_bytes s, inl are, said)
lines_told Is (Err e) old new is_mute are said sentence = (memory_line, inr refl, sentence)

-- why there was a refusal was told, where no document is refused
pub reason_at : (paths : List (List ℕ)) (refusal : Refusal) (old new : Option (List ℕ)) (is_mute : Bool) → None ≡ refused_document refusal → TellsReason refusal old new is_mute → TellsReasonAt paths refusal old new is_mute
reason_at paths refusal old new is_mute none (text, inl why, said) = (text, inl (why_by paths refusal text (refused_document refusal) none why), said)
reason_at paths refusal old new is_mute none (text, inr short, said) = (text, inr short, said)

-- lines about a file say why it could not be read
pub file_told : (paths : List (List ℕ)) (path : List ℕ) (old new : Option (List ℕ)) (is_mute : Bool) → IsOneOf paths path → TellsOfFile path old new is_mute → TellsReasonAt paths Unreadable old new is_mute
file_told paths path old new is_mute one (text, inl names, said) = (text, inl (inr (path, one, names)), said)
file_told paths path old new is_mute one (text, inr short, said) = (text, inr short, said)

-- ---- what is told is not empty

some_bytes : (x : ℕ) (xs : List ℕ) → 0 < length (x ∷ xs)
some_bytes x xs = omega arith

some_at : (zs : List ℕ) (x : ℕ) (xs : List ℕ) → zs ≡ x ∷ xs → 0 < length zs
some_at zs x xs is = subst (λ (bs : List ℕ). 0 < length bs) (sym is) (some_bytes x xs)

why_some : (refusal : Refusal) → 0 < length (why_lines refusal)
unfolding document_line
why_some (Add e) = some_at (why_lines (Add e)) _ _ refl
why_some Unreadable = some_at (why_lines Unreadable) _ _ refl
why_some Unloaded = some_at (why_lines Unloaded) _ _ refl
why_some (Set e place) = some_at (why_lines (Set e place)) _ _ refl
why_some (Merged e) = some_at (why_lines (Merged e)) _ _ refl
why_some (Share e) = some_at (why_lines (Share e)) _ _ refl
why_some (Publish e) = some_at (why_lines (Publish e)) _ _ refl
why_some Unbound = some_at (why_lines Unbound) _ _ refl
why_some NoConnection = some_at (why_lines NoConnection) _ _ refl
why_some NoThread = some_at (why_lines NoThread) _ _ refl
why_some Unreachable = some_at (why_lines Unreachable) _ _ refl
why_some (Unserved missed) = some_at (why_lines (Unserved missed)) _ _ refl
why_some WantOfMemory = some_at (why_lines WantOfMemory) _ _ refl

pub some_told : (refusal : Refusal) (old new : Option (List ℕ)) (is_mute : Bool) → TellsReason refusal old new is_mute → TellsText old new is_mute
some_told refusal old new is_mute (text, inl is, said) = (text, subst (λ (bs : List ℕ). 0 < length bs) (sym is) (why_some refusal), said)
some_told refusal old new is_mute (text, inr is, said) = (text, subst (λ (bs : List ℕ). 0 < length bs) (sym is) (some_at memory_line _ _ refl), said)
