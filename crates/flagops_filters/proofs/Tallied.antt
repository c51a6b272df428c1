-- What `tally` came to, of a site and a stream.
use Rattle.std.proofs.Common.{◌≡◌, ◌≢◌, ℕ, Bool, List, Option, None, Some, Result, Ok, Err, unwrap_or, ap, ◌∙◌, subst, sym, inl, inr}
use Rattle.std.specs.Prelude.{IfOk, IfSome}
use Rattle.flag_defs.specs.Document.{Definitions}
use Rattle.flagops_shell.specs.Diagnostic.{Says}
use Rattle.flagops_shell.specs.Report.{Report}
use Rattle.flagops_shell.specs.declared.outcome.Outcome.{Outcome}
use Rattle.flagops_shell.specs.declared.refused.Remark.{Remark}
use Rattle.flagops_shell.specs.declared.refused.Remark.TheVariants.{Lines, Short}
use Rattle.note_tallies.specs.Lines.{finished, untallied}
use Rattle.note_streams.specs.Rest.{is_empty, is_torn}
use Rattle.note_streams.specs.Tallied.{TalliesStream}
use Rattle.note_streams.specs.declared.stop.TallyStop.{TallyStop}
use Rattle.note_streams.specs.declared.stop.TallyStop.TheVariants.{Filter, Unreadable, TooLong}
use Rattle.note_streams.specs.declared.tallying.StreamTally.{StreamTally}
use Rattle.rollout.specs.declared.fault.RolloutFault.{RolloutFault}
use Rattle.rollout.specs.declared.fault.RolloutFault.TheVariants as rollout
use Rattle.note_tallies.specs.Tally.{PageTally}
use Rattle.note_tallies.specs.declared.filter_fault.FilterFault.{FilterFault}
use Rattle.note_tallies.specs.declared.filter_fault.FilterFault.TheVariants.{WantOfMemory}
use Rattle.note_tallies.specs.File.{tally_text}
use Rattle.flagops_filters.specs.Beside.{Reads, IsBesideTally, has_none, is_beside, tally_beside, tally_lines}
use Rattle.flagops_filters.specs.Place.{PrintsTally}
use Rattle.flagops_filters.specs.Refusal.{is_want}
use Rattle.flagops_filters.specs.Report.{GivesOne, Told}
use Rattle.flagops_filters.specs.Tally.{IsTallyAt, IsTallyIn, IsTallyOver, Target, target_of}
use Rattle.flagops_filters.specs.Words.{Tallying}
use Rattle.flagops_filters.specs.declared.refusal.FilterRefusal.TheVariants.{Flag, Tally}
use Rattle.flagops_filters.proofs.Ending.{not_both}

-- ---- a stream

module _ (target : Target) (is_cut : Bool) where
  abbrev Came : List ℕ → Result StreamTally TallyStop → Type 0
  Came bytes r = TalliesStream (untallied target.page target.total) bytes is_cut r

  printed_at : (bytes : List ℕ) (t : StreamTally) (r : Result Outcome Told) → Came bytes (Ok t) → PrintsTally t r → GivesOne r (IsTallyOver target bytes is_cut)
  printed_at bytes t (Ok o) tallies prints =
      let made : PageTally → Bool → Bool → Report = λ p empty torn. record { text = tally_text p; status = 0; is_told = is_beside empty (has_none p) torn } in
      let last = finished tallies.0 in
      let same = ap (λ (p : PageTally). made p t.empty t.torn) tallies.2 ∙ ap (λ (torn : Bool). made last t.empty torn) tallies.3 ∙ ap (λ (empty : Bool). made last empty (is_torn bytes)) tallies.4 in
      inl (tallies.0, tallies.1, ap Ok (prints ∙ same))
  printed_at bytes t (Err told) tallies prints = λ no_want. absurd (not_both (is_want told.refusal) prints no_want)

  pub printed : (given : Option (List ℕ)) (t : StreamTally) (r : Result Outcome Told) → IfSome given (λ bytes. Came bytes (Ok t)) → PrintsTally t r → IfSome given (λ bytes. GivesOne r (IsTallyOver target bytes is_cut))
  printed None t r tallies prints = tt
  printed (Some bytes) t r tallies prints = printed_at bytes t r tallies prints

  -- a remark that reads so is one beside the text of this tally
  of_tally : (bytes text : List ℕ) (p : PageTally) (m : Option Remark) → text ≡ tally_text p → IfSome m (Says (Reads (tally_beside bytes p))) → IfSome m (Says (IsBesideTally bytes text))
  of_tally bytes text p None is says = tt
  of_tally bytes text p (Some Short) is says = tt
  of_tally bytes text p (Some (Lines lines)) is says = (p, is, says)

  -- what is told is of these bytes
  pub told_beside : (given : Option (List ℕ)) (t : StreamTally) (r : Result Outcome Told) → IfSome given (λ bytes. Came bytes (Ok t)) → PrintsTally t r
      → IfOk r (λ o. IfSome o.remark (Says (Reads (tally_lines t.empty (has_none t.tally) t.torn)))) → IfOk r (λ o. IfSome given (λ bytes. IfSome o.remark (Says (IsBesideTally bytes o.text.items))))
  told_beside given t (Err e) tallies prints says = tt
  told_beside None t (Ok o) tallies prints says = tt
  told_beside (Some bytes) t (Ok o) tallies prints says =
      of_tally bytes o.text.items t.tally o.remark (ap (λ (r : Report). r.text) prints)
      (subst (λ (torn : Bool). IfSome o.remark (Says (Reads (tally_lines (is_empty bytes) (has_none t.tally) torn)))) tallies.3
      (subst (λ (empty : Bool). IfSome o.remark (Says (Reads (tally_lines empty (has_none t.tally) t.torn)))) tallies.4 says))

  stopped_at : (bytes : List ℕ) (stop : TallyStop) (told : Told) → Came bytes (Err stop) → told.refusal ≡ Tally stop → GivesOne (Err told) (IsTallyOver target bytes is_cut)
  stopped_at bytes (Filter fault) told tallies is = λ no_want.
      let other : fault ≢ WantOfMemory = λ want. not_both (is_want told.refusal) (ap is_want is ∙ ap (λ (f : FilterFault). is_want (Tally (Filter f))) want) no_want in
      inr (inl (fault, other, tallies other, ap Err is))
  stopped_at bytes Unreadable told tallies is = λ no_want. inr (inr (inl (tallies, ap Err is)))
  stopped_at bytes TooLong told tallies is = λ no_want. inr (inr (inr (tallies, ap Err is)))

  pub stopped : (given : Option (List ℕ)) (stop : TallyStop) (told : Told) → IfSome given (λ bytes. Came bytes (Err stop)) → told.refusal ≡ Tally stop → IfSome given (λ bytes. GivesOne (Err told) (IsTallyOver target bytes is_cut))
  stopped None stop told tallies is = tt
  stopped (Some bytes) stop told tallies is = stopped_at bytes stop told tallies is

-- ---- a site

module _ (flags : Definitions) (a : Tallying) (is_cut : Bool) (m : ℕ) (factor : m ≡ unwrap_or a.refine 1) where
  by_factor : (r : Result Target RolloutFault) → target_of flags a.key a.site m ≡ r → target_of flags a.key a.site (unwrap_or a.refine 1) ≡ r
  by_factor r is = subst (λ (n : ℕ). target_of flags a.key a.site n ≡ r) factor is

  pub at_target : (target : Target) (given : Option (List ℕ)) (r : Result Outcome Told) → target_of flags a.key a.site m ≡ Ok target → IfSome given (λ bytes. GivesOne r (IsTallyOver target bytes is_cut))
      → IfSome given (λ bytes. GivesOne r (IsTallyIn (Ok flags) a bytes is_cut))
  at_target target given r is over =
      subst (λ (x : Result Target RolloutFault). IfSome given (λ bytes. GivesOne r (IsTallyAt x bytes is_cut))) (sym (by_factor (Ok target) is)) over

  refused_at : (bytes : List ℕ) (fault : RolloutFault) (told : Told) → (fault ≢ rollout.WantOfMemory → target_of flags a.key a.site m ≡ Err fault) → told.refusal ≡ Flag fault → GivesOne (Err told) (IsTallyIn (Ok flags) a bytes is_cut)
  refused_at bytes fault told wanted is = λ no_want.
      let other : fault ≢ rollout.WantOfMemory = λ want. not_both (is_want told.refusal) (ap is_want is ∙ ap (λ (f : RolloutFault). is_want (Flag f)) want) no_want in
      subst (λ (x : Result Target RolloutFault). IsTallyAt x bytes is_cut (Err told.refusal)) (sym (by_factor (Err fault) (wanted other))) (ap Err is)

  pub no_target : (given : Option (List ℕ)) (fault : RolloutFault) (told : Told) → (fault ≢ rollout.WantOfMemory → target_of flags a.key a.site m ≡ Err fault) → told.refusal ≡ Flag fault
      → IfSome given (λ bytes. GivesOne (Err told) (IsTallyIn (Ok flags) a bytes is_cut))
  no_target None fault told wanted is = tt
  no_target (Some bytes) fault told wanted is = refused_at bytes fault told wanted is
