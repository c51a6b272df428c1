-- The document with a rule at the site of a request.
use Rattle.std.proofs.Common.{◌≡◌, ◌≢◌, ◌∙◌, ℕ, List, Result, Ok, Err, true, sym, ap, subst}
use Rattle.bucket_core.specs.Rule.{Entries}
use Rattle.flag_defs.specs.Document.{Definitions}
use Rattle.kept_document.specs.Kept.{place_in}
use Rattle.price_core.specs.Request.{Asked}
use Rattle.rollout.specs.Applied.{applied}
use Rattle.rollout.specs.declared.fault.RolloutFault.{RolloutFault}
use Rattle.rollout.specs.declared.fault.RolloutFault.TheVariants as rollout_fault
use Rattle.control_answers.specs.Kept.{IsEdited, IsEditedTo, IsKeptAt}
use Rattle.control_answers.specs.Refusal.{of_rollout}
use Rattle.control_answers.specs.Snapshot.{Snapshot}
use Rattle.control_answers.specs.Turns.{Gives}
use Rattle.control_answers.specs.declared.refusal.ControlRefusal.{ControlRefusal}
use Rattle.control_answers.specs.declared.refusal.ControlRefusal.TheVariants.{WantOfMemory}

module _ (s : Snapshot) (asked : Asked) (rule : Entries) (key : List ℕ) (site : ℕ) (same_key : key ≡ asked.flag) (same_site : site ≡ asked.site) where
  abbrev IsThere : List ℕ → ℕ → Result (List ℕ) ControlRefusal → Type 0
  IsThere k n r = IsEditedTo s.document (place_in true s.document s.flags k n) rule (applied s.flags k n rule) r

  pub kept_at : {A : Type 0} (seen : A → List ℕ) (wanted : Definitions) (r : Result A ControlRefusal) → applied s.flags key site rule ≡ Ok wanted → Gives seen (IsEdited s.document (place_in true s.document s.flags key site) rule wanted) r → Gives seen (IsKeptAt s asked rule) r
  kept_at {A} seen wanted r is made =
      let there = subst (λ (a : Result Definitions RolloutFault). Gives seen (IsEditedTo s.document (place_in true s.document s.flags key site) rule a) r) (sym is) made in
      subst (λ (n : ℕ). Gives seen (IsThere asked.flag n) r) same_site (subst (λ (k : List ℕ). Gives seen (IsThere k site) r) same_key there)

  pub unapplied : (f : RolloutFault) (e : ControlRefusal) → e ≡ of_rollout f → (f ≢ rollout_fault.WantOfMemory → applied s.flags key site rule ≡ Err f) → e ≢ WantOfMemory → IsKeptAt s asked rule (Err e)
  unapplied f e is refuses other =
      let none = refuses (λ want. other (is ∙ ap of_rollout want)) in
      let there = subst (λ (a : Result Definitions RolloutFault). IsEditedTo s.document (place_in true s.document s.flags key site) rule a (Err e)) (sym none) (ap Err is) in
      subst (λ (n : ℕ). IsThere asked.flag n (Err e)) same_site (subst (λ (k : List ℕ). IsThere k site (Err e)) same_key there)
