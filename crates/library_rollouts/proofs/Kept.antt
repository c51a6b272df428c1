-- What a right answer makes of a document.
use Rattle.std.proofs.Common.{◌≡◌, ◌≢◌, ℕ, Bool, true, false, List, Result, Ok, Err, refl, sym, ap, subst}
use Rattle.std.specs.Prelude.{length, nat_lt, option_and_then}
use Rattle.std.specs.Map.{lookup}
use Rattle.std.specs.Str.{IsUtf8, bytes_eq}
use Rattle.std.proofs.lemmas.Bool.{ltb-false}
use Rattle.bucket_core.specs.Rule.{Entries}
use Rattle.flag_defs.specs.Document.{Definitions, DocumentMeans, max_bytes}
use Rattle.flag_defs.specs.Flag.{targeting_in}
use Rattle.flag_text.proofs.Readings.{doc_of-none}
use Rattle.flag_text.specs.Reading.{doc_of}
use Rattle.flag_text.specs.Shape.{Shape}
use Rattle.flag_text.specs.declared.fault.TextFault.{TextFault}
use Rattle.flag_text.specs.declared.fault.TextFault.TheVariants.{NotJson, TooLarge}
use Rattle.kept_document.specs.Kept.{IsRefused, KeptAt, in_tree, place_in}
use Rattle.kept_document.specs.declared.fault.KeepFault.{KeepFault}
use Rattle.kept_document.specs.declared.fault.KeepFault.TheVariants.{Differs}
use Rattle.plan_text.specs.Answer.{Answer, emit, none_exists}
use Rattle.price_core.specs.Request.{Asked, asked_of}
use Rattle.price_core.specs.declared.fault.PriceFault.{PriceFault}
use Rattle.rollout.specs.Applied.{applied}
use Rattle.rollout.specs.Lawful.{and_then, by_price, place_of}
use Rattle.rollout.specs.CheckedTally.{IsTallyOutcome, IsTallyShown, tally_problem_at, tally_problem_of}
use Rattle.rollout.specs.Verified.{refining_for}
use Rattle.rollout.specs.declared.fault.RolloutFault.{RolloutFault}
use Rattle.rollout.specs.declared.fault.RolloutFault.TheVariants as rollout_fault
use Rattle.rollout.specs.declared.refining.Refining.{Refining}
use Rattle.rollout.specs.declared.verify_fault.VerifyFault.{VerifyFault}
use Rattle.note_tallies.specs.Tally.{PageTally}
use Rattle.transport_core.specs.Certificate.{DualPrices}
use Rattle.transport_core.specs.declared.certificate.CutKind.{CutKind}
use Rattle.library_rollouts.specs.Apply.{IsEditedTo, IsKeptAt, IsKeptOn, IsKeptWith}
use Rattle.library_rollouts.specs.Refusal.{of_keep, of_rollout, of_verdict}
use Rattle.library_rollouts.specs.Writing.{Makes}
use Rattle.library_rollouts.specs.declared.refusal.RolloutRefusal.{RolloutRefusal}
use Rattle.library_rollouts.specs.declared.refusal.RolloutRefusal.TheVariants.{NoRule}
use Rattle.library_rollouts.proofs.Planned.{told_wrong}
use Rattle.library_rollouts.proofs.InTurn.{keep_roomy, refused, rollout_roomy, verdict_roomy}

-- ---- bytes that are no text are no document

no_document : (bytes : List ℕ) → (IsUtf8 bytes → ⊥) → (b : Bool) → nat_lt max_bytes (length bytes) ≡ b → (e : TextFault) × (doc_of bytes max_bytes ≡ Err e)
no_document bytes other true e = (TooLarge, rw e refl)
no_document bytes other false e = (NotJson, doc_of-none bytes max_bytes (ltb-false max_bytes (length bytes) e) (λ u. absurd (other u)))

pub not_text : (bytes : List ℕ) (flags : Definitions) (key : List ℕ) (site : ℕ) (rule : Entries) (wanted : Definitions) → (IsUtf8 bytes → ⊥) → IsRefused false bytes (place_in false bytes flags key site) rule wanted Differs
not_text bytes flags key site rule wanted other =
    let none = no_document bytes other (nat_lt max_bytes (length bytes)) refl in
    subst (λ (r : Result Shape TextFault). IsRefused false bytes (in_tree r key (option_and_then targeting_in (lookup (bytes_eq key) flags)) site) rule wanted Differs) (sym none.1) (λ s. s, λ text kept. absurd kept)

-- ---- the changed flags, and the text that means them

module _ (document : List ℕ) (flags : Definitions) (key : List ℕ) (site : ℕ) (rule : Entries) where
  abbrev changed : Result Definitions RolloutFault
  changed = applied flags key site rule

  pub edited : (wanted : Definitions) (text : List ℕ) → changed ≡ Ok wanted → KeptAt document (place_in false document flags key site) rule text → DocumentMeans text (Ok wanted) → IsKeptAt document flags key site rule (Ok (text, tt))
  edited wanted text is kept means =
      subst (λ (x : Result Definitions RolloutFault). IsEditedTo document (place_in false document flags key site) rule x (Ok (text, tt))) (sym is) (kept, means)

  module _ {A : Type 0} (seen : A → List ℕ × Unit {0}) where
    pub unchanged : (f : RolloutFault) (r : Result A RolloutRefusal) → r ≡ Err (of_rollout f) → (f ≢ rollout_fault.WantOfMemory → changed ≡ Err f) → Makes seen (IsKeptAt document flags key site rule) r
    unchanged f r is means =
        refused seen (IsKeptAt document flags key site rule) (of_rollout f) r is (rollout_roomy f)
        (λ other. subst (λ (x : Result Definitions RolloutFault). IsEditedTo document (place_in false document flags key site) rule x (Err (of_rollout f))) (sym (means (λ want. other (ap of_rollout want)))) refl)

    pub unedited : (wanted : Definitions) (f : KeepFault) (r : Result A RolloutRefusal) → r ≡ Err (of_keep f) → changed ≡ Ok wanted → IsRefused false document (place_in false document flags key site) rule wanted f → Makes seen (IsKeptAt document flags key site rule) r
    unedited wanted f r is was why =
        refused seen (IsKeptAt document flags key site rule) (of_keep f) r is (keep_roomy f)
        (λ other. subst (λ (x : Result Definitions RolloutFault). IsEditedTo document (place_in false document flags key site) rule x (Err (of_keep f))) (sym was) (f, why, refl))

-- ---- an answer

module _ (document request : List ℕ) (flags : Definitions) (tally : PageTally) (answer : Answer) where
  -- a right answer is to a request that is read
  unread : (refining : Refining) (e : PriceFault) (a : Result Asked PriceFault)
      → IsTallyOutcome (and_then (by_price a) (λ asked. and_then (place_of flags asked.flag asked.site) (λ place. tally_problem_at refining tally asked place))) answer (Ok tt) → a ≡ Err e → ⊥
  unread refining e (Ok asked) right is = cc
  unread refining e (Err f) right is = right

  pub none_unread : (e : PriceFault) → IsTallyOutcome (tally_problem_of (refining_for answer) flags request tally) answer (Ok tt) → asked_of request ≡ Err e → ⊥
  none_unread e right is = unread (refining_for answer) e (asked_of request) right is

  module _ (told : IsTallyOutcome (tally_problem_of (refining_for answer) flags request tally) answer (Ok tt)) (shown : IsTallyShown (tally_problem_of (refining_for answer) flags request tally) answer) where
    by_right : (r : Result (List ℕ × Unit {0}) RolloutRefusal) → IsKeptWith document request flags answer r → IsKeptOn document request flags tally answer r
    by_right r kept = (Ok tt, record { told = told; shown = shown }, kept)

    module _ {A : Type 0} (seen : A → List ℕ × Unit {0}) where
      at_asked : (rule : Entries) (c : DualPrices) (asked : Asked) (r : Result A RolloutRefusal) → answer ≡ emit rule c → asked_of request ≡ Ok asked → Makes seen (IsKeptAt document flags asked.flag asked.site rule) r → Makes seen (IsKeptOn document request flags tally answer) r
      at_asked rule c asked (Ok a) is reads made = by_right (Ok (seen a)) (subst (λ (x : Answer). IsKeptWith document request flags x (Ok (seen a))) (sym is) (asked, reads, made))
      at_asked rule c asked (Err e) is reads made = (made.0, λ other. by_right (Err e) (subst (λ (x : Answer). IsKeptWith document request flags x (Err e)) (sym is) (asked, reads, made.1 other)))

      pub with_rule : (rule : Entries) (c : DualPrices) (asked : Asked) (key : List ℕ) (site : ℕ) (r : Result A RolloutRefusal) → answer ≡ emit rule c → asked_of request ≡ Ok asked → key ≡ asked.flag → site ≡ asked.site
          → Makes seen (IsKeptAt document flags key site rule) r → Makes seen (IsKeptOn document request flags tally answer) r
      with_rule rule c asked key site r is reads same_key same_site made =
          at_asked rule c asked r is reads
          (subst (λ (n : ℕ). Makes seen (IsKeptAt document flags asked.flag n rule) r) same_site (subst (λ (k : List ℕ). Makes seen (IsKeptAt document flags k site rule) r) same_key made))

      pub without_rule : (kind : CutKind) (names : List (List ℕ)) → answer ≡ none_exists kind names → Makes seen (IsKeptOn document request flags tally answer) (Err NoRule)
      without_rule kind names is = (λ e. cc, λ other. by_right (Err NoRule) (subst (λ (x : Answer). IsKeptWith document request flags x (Err NoRule)) (sym is) refl))

  module _ {A : Type 0} (seen : A → List ℕ × Unit {0}) where
    pub by_wrong : (f : VerifyFault) (r : Result A RolloutRefusal) → r ≡ Err (of_verdict f) → IsTallyOutcome (tally_problem_of (refining_for answer) flags request tally) answer (Err f) → Makes seen (IsKeptOn document request flags tally answer) r
    by_wrong f r is told = refused seen (IsKeptOn document request flags tally answer) (of_verdict f) r is (verdict_roomy f) (λ other. (Err f, told_wrong flags request tally answer f told, refl))
