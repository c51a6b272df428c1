-- What is told, one text after the other.
use Rattle.std.proofs.Common.{◌≡◌, ◌+◌, ◌-◌, ◌≤◌, ◌∙◌, ℕ, zero, suc, List, [], ◌∷◌, Bool, true, false, not, ◌||◌, is_ok, nat_eq, Option, Some, None, Result, Ok, Err, IfOk, IfErr, inl, inr, refl, slice_get, sym, subst, length, replicate, arith}
use Rattle.std.proofs.lemmas.Bool.{true≢false}
use Rattle.std.proofs.lemmas.Bool.Decides.{nat_tests}
use Rattle.std.proofs.lemmas.List.{length-replicate, take_all}
use Rattle.std.specs.Bool.{OnTrue}
use Rattle.std.specs.Io.KnownBytes.{Appends}
use Rattle.flag_text.specs.Outlet.{AppendsPart}
use Rattle.file_diagnostics.specs.Named.{Names}
use Rattle.flag_defs.specs.Floats.{MeansAs}
use Rattle.flag_defs.specs.declared.fault.DefFault.{DefFault}
use Rattle.flagops_streams.specs.Documents.{IsRefusedAt}
use Rattle.flagops_streams.specs.Report.{RefusesBeside, Reports, Serves}
use Rattle.flagops_streams.specs.Told.{MayForewarn, MayForewarnAt, MayForewarnEach, MayTell, MayTellEach, Says, TellsArrivals, TellsDepartures, TellsEnds, TellsGone, TellsLate, TellsOfSubscribers, TellsServing, came_line, forewarning, gone_line, late_line, listening_line}
use Rattle.flagops_streams.specs.declared.disconnected.Disconnected.{Disconnected}
use Rattle.flagops_streams.specs.declared.refusal.Refusal.{Refusal}
use Rattle.flagops_streams.specs.declared.refusal.Refusal.TheVariants.{WantOfMemory}

-- a text that was written whole, whatever becomes of the outlet
whole_said : (old new : Option (List ℕ)) (is_mute : Bool) (text : List ℕ) → Appends old new text → Says old new is_mute text
whole_said old new false text all = all
whole_said old new true text all = (length text, omega arith, subst (Appends old new) (sym (take_all (length text) text (omega arith))) all)

-- a front of it, where the outlet has failed
front_said : (old new : Option (List ℕ)) (is_mute : Bool) (text : List ℕ) → is_mute ≡ true → AppendsPart old new text → Says old new is_mute text
front_said old new false text is part = absurd (true≢false (sym is))
front_said old new true text is part = part

-- a text, whether it was written whole or not, where the outlet has failed exactly if it had before or this was not whole
pub said : (old new : Option (List ℕ)) (was_mute is_mute whole : Bool) (text : List ℕ) → OnTrue whole (Appends old new text) → AppendsPart old new text → is_mute ≡ (was_mute || not whole) → Says old new is_mute text
said old new was_mute is_mute true text all part is = whole_said old new is_mute text all
said old new true is_mute false text all part is = front_said old new is_mute text is part
said old new false is_mute false text all part is = front_said old new is_mute text is part

-- what was told stays told when the outlet fails later
pub still_said : (old new : Option (List ℕ)) (before after : Bool) (text : List ℕ) → (after ≡ false → before ≡ false) → Says old new before text → Says old new after text
still_said old new false after text stays said = whole_said old new after text said
still_said old new true false text stays said = absurd (true≢false (stays refl))
still_said old new true true text stays said = said

-- a line that could be made was told once, else nothing was
pub made_told : {X E : Type 0} (bytes : X → List ℕ) (line : Result X E) (text : List ℕ) (old new : Option (List ℕ)) (is_mute : Bool)
    → IfOk line (λ s. bytes s ≡ text) → IfOk line (λ s. Says old new is_mute (bytes s)) → IfErr line (λ _. new ≡ old) → MayTell text old new is_mute
made_told bytes (Ok s) text old new is_mute exact said none = inr (subst (Says old new is_mute) exact said)
made_told bytes (Err e) text old new is_mute exact said none = inl none

-- what may be told beside a status 1
pub told_late : (wait status : ℕ) (old new : Option (List ℕ)) (is_mute : Bool) → status ≡ 1 → MayTell (late_line wait) old new is_mute → TellsLate wait status old new is_mute
told_late wait status old new is_mute one (inl same) = inl same
told_late wait status old new is_mute one (inr said) = inr (one, said)

-- ---- texts that are told once

module _ (before after : Bool) (stays : after ≡ false → before ≡ false) where
  still_may : (text : List ℕ) (old new : Option (List ℕ)) → MayTell text old new before → MayTell text old new after
  still_may text old new (inl same) = inl same
  still_may text old new (inr said) = inr (still_said old new before after text stays said)

  still_in_turn : (text : ℕ → List ℕ) (n : ℕ) (old new : Option (List ℕ)) → MayTellEach text n old new before → MayTellEach text n old new after
  still_in_turn text zero old new same = same
  still_in_turn text (suc n) old new (between, told, last) = (between, still_in_turn text n old between told, still_may (text (suc n)) between new last)

  still_gone : (end : Option Disconnected) (old new : Option (List ℕ)) → TellsGone end old new before → TellsGone end old new after
  still_gone None old new same = same
  still_gone (Some gone) old new (number, told) = (number, still_may (gone_line number gone.frames gone.end) old new told)

  still_ends : (ends : List (Option Disconnected)) (old new : Option (List ℕ)) → TellsEnds ends old new before → TellsEnds ends old new after
  still_ends [] old new same = same
  still_ends (end ∷ ends) old new (between, told, last) = (between, still_ends ends old between told, still_gone end between new last)

  -- one more that has gone
  pub ends_more : (end : Option Disconnected) (ends : List (Option Disconnected)) (old mid new : Option (List ℕ)) → TellsEnds ends old mid before → TellsGone end mid new after → TellsEnds (end ∷ ends) old new after
  ends_more end ends old mid new told last = (mid, still_ends ends old mid told, last)

  -- one more that has come
  pub arrivals_more : (port subscribers n m : ℕ) (old mid new : Option (List ℕ)) → m ≡ n + 1
      → TellsArrivals port subscribers n old mid before → MayTell (came_line m subscribers) mid new after → TellsArrivals port subscribers m old new after
  arrivals_more port subscribers n m old mid new is (between, first, told) last =
      let line : ℕ → List ℕ = λ (number : ℕ). came_line number subscribers in
      let next : suc n ≡ m = omega (arith, is) in
      let more : MayTellEach line (suc n) between new after = (mid, still_in_turn line n between mid told, subst (λ (k : ℕ). MayTell (line k) mid new after) (sym next) last) in
      (between, still_may (listening_line port subscribers) old between first, subst (λ (k : ℕ). MayTellEach line k between new after) next more)

  -- one more document behind the first
  still_warned : (paths : List (List ℕ)) (IsRefused : ℕ → Type 0) (place : ℕ) (old new : Option (List ℕ)) → MayForewarnAt paths IsRefused place old new before → MayForewarnAt paths IsRefused place old new after
  still_warned paths IsRefused place old new (inl same) = inl same
  still_warned paths IsRefused place old new (inr (path, at, refused, inl same)) = inr (path, at, refused, inl same)
  still_warned paths IsRefused place old new (inr (path, at, refused, inr (why, names, said))) =
      inr (path, at, refused, inr (why, names, still_said old new before after (forewarning place why) stays said))

  pub still_each : (paths : List (List ℕ)) (IsRefused : ℕ → Type 0) (n : ℕ) (old new : Option (List ℕ)) → MayForewarnEach paths IsRefused n old new before → MayForewarnEach paths IsRefused n old new after
  still_each paths IsRefused zero old new same = same
  still_each paths IsRefused (suc n) old new (between, warned, last) = (between, still_each paths IsRefused n old between warned, still_warned paths IsRefused (n + 2) between new last)

  pub warned_more : (paths : List (List ℕ)) (IsRefused : ℕ → Type 0) (n place : ℕ) (old mid new : Option (List ℕ)) → place ≡ n + 2
      → MayForewarnEach paths IsRefused n old mid before → MayForewarnAt paths IsRefused place mid new after → MayForewarnEach paths IsRefused (n + 1) old new after
  warned_more paths IsRefused n place old mid new is warned last =
      let next : suc n ≡ n + 1 = omega arith in
      subst (λ (k : ℕ). MayForewarnEach paths IsRefused k old new after) next
      (mid, still_each paths IsRefused n old mid warned, subst (λ (k : ℕ). MayForewarnAt paths IsRefused k mid new after) is last)

  pub still_arrivals : (port subscribers came : ℕ) (old new : Option (List ℕ)) → TellsArrivals port subscribers came old new before → TellsArrivals port subscribers came old new after
  still_arrivals port subscribers came old new (between, first, told) =
      (between, still_may (listening_line port subscribers) old between first, still_in_turn (λ number. came_line number subscribers) came between new told)

  pub still_served : (paths : List (List ℕ)) (IsRefused : ℕ → Type 0) (documents port subscribers : ℕ) (b : Bool) (old new : Option (List ℕ))
      → TellsServing paths IsRefused documents port subscribers b old new before → TellsServing paths IsRefused documents port subscribers b old new after
  still_served paths IsRefused documents port subscribers b old new (warned_to, warned, (came, absent, all, (came_to, arrived, (ends, count, served, gone)))) = (
    warned_to,
    still_each paths IsRefused (documents - 1) old warned_to warned,
    (came, absent, all, (came_to, still_arrivals port subscribers came warned_to came_to arrived, (ends, count, served, still_ends ends came_to new gone))),
  )

-- nobody has come yet
pub no_arrivals : (port subscribers : ℕ) (old new : Option (List ℕ)) (is_mute : Bool) → MayTell (listening_line port subscribers) old new is_mute → TellsArrivals port subscribers 0 old new is_mute
no_arrivals port subscribers old new is_mute first = (new, first, refl)

-- ---- lines of `serve`

-- why a document will be refused, where there was memory for it
pub forewarned_by : (path why : List ℕ) (place : ℕ) (old new : Option (List ℕ)) (is_mute : Bool) → Names path why → MayTell (forewarning place why) old new is_mute → MayForewarn path place old new is_mute
forewarned_by path why place old new is_mute names (inl same) = inl same
forewarned_by path why place old new is_mute names (inr said) = inr (why, names, said)

-- the document of some bytes is at a place
pub refused_at : (paths : List (List ℕ)) (floats : Bool) (texts : List (List ℕ)) (text : List ℕ) (place : ℕ) (old new : Option (List ℕ)) (is_mute : Bool) → slice_get texts (place - 1) ≡ Some text
    → MayForewarnAt paths (λ _. (fault : DefFault) × MeansAs floats text (Err fault)) place old new is_mute → MayForewarnAt paths (IsRefusedAt floats texts) place old new is_mute
refused_at paths floats texts text place old new is_mute there (inl same) = inl same
refused_at paths floats texts text place old new is_mute there (inr (path, at, (fault, means), told)) = inr (path, at, (text, fault, there, means), told)

-- documents that are refused in one sense are so in another
warned_as : (paths : List (List ℕ)) (Is As : ℕ → Type 0) → ((place : ℕ) → Is place → As place) → (n : ℕ) (old new : Option (List ℕ)) (is_mute : Bool) → MayForewarnEach paths Is n old new is_mute → MayForewarnEach paths As n old new is_mute
warned_as paths Is As more zero old new is_mute same = same
warned_as paths Is As more (suc n) old new is_mute (between, warned, inl same) = (between, warned_as paths Is As more n old between is_mute warned, inl same)
warned_as paths Is As more (suc n) old new is_mute (between, warned, inr (path, at, refused, told)) =
    (between, warned_as paths Is As more n old between is_mute warned, inr (path, at, more (n + 2) refused, told))

pub served_as : (paths : List (List ℕ)) (Is As : ℕ → Type 0) → ((place : ℕ) → Is place → As place) → (documents port subscribers : ℕ) (b : Bool) (old new : Option (List ℕ)) (is_mute : Bool)
    → TellsServing paths Is documents port subscribers b old new is_mute → TellsServing paths As documents port subscribers b old new is_mute
served_as paths Is As more documents port subscribers b old new is_mute (between, warned, told) = (between, warned_as paths Is As more (documents - 1) old between is_mute warned, told)

-- nothing is told of documents, nor of subscribers of whom nothing is known
none_warned : (paths : List (List ℕ)) (IsRefused : ℕ → Type 0) (n : ℕ) (old : Option (List ℕ)) (is_mute : Bool) → MayForewarnEach paths IsRefused n old old is_mute
none_warned paths IsRefused zero old is_mute = refl
none_warned paths IsRefused (suc n) old is_mute = (old, none_warned paths IsRefused n old is_mute, inl refl)

unknown_ends : (n : ℕ) (old : Option (List ℕ)) (is_mute : Bool) → TellsEnds (replicate n None) old old is_mute
unknown_ends zero old is_mute = refl
unknown_ends (suc n) old is_mute = (old, unknown_ends n old is_mute, refl)

pub none_gone : (are_served : Bool) (came absent : ℕ) (old new : Option (List ℕ)) (is_mute : Bool) → are_served ≡ false → new ≡ old → TellsDepartures are_served came absent old new is_mute
none_gone are_served came absent old new is_mute refused same =
    (replicate came None, length-replicate came None, λ served. absurd (true≢false (sym served ∙ refused)), subst (λ (o : Option (List ℕ)). TellsEnds (replicate came None) old o is_mute) (sym same) (unknown_ends came old is_mute))

-- some came, and nothing more is told
pub some_came : (port subscribers came : ℕ) (are_served : Bool) (old new : Option (List ℕ)) (is_mute : Bool) → are_served ≡ false → came ≤ subscribers
    → TellsArrivals port subscribers came old new is_mute → TellsOfSubscribers port subscribers are_served old new is_mute
some_came port subscribers came are_served old new is_mute refused few arrived =
    (came, subscribers - came, omega (arith, few), (new, arrived, none_gone are_served came (subscribers - came) new new is_mute refused refl))

-- nobody came
pub nobody_came : (port subscribers : ℕ) (are_served : Bool) (old new : Option (List ℕ)) (is_mute : Bool) → are_served ≡ false → new ≡ old → TellsOfSubscribers port subscribers are_served old new is_mute
nobody_came port subscribers are_served old new is_mute refused same =
    some_came port subscribers 0 are_served old new is_mute refused (omega arith) (no_arrivals port subscribers old new is_mute (inl same))

-- nothing was told at all
pub nothing_served : (paths : List (List ℕ)) (IsRefused : ℕ → Type 0) (documents port subscribers : ℕ) (old : Option (List ℕ)) (is_mute : Bool) → TellsServing paths IsRefused documents port subscribers false old old is_mute
nothing_served paths IsRefused documents port subscribers old is_mute = (old, none_warned paths IsRefused (documents - 1) old is_mute, nobody_came port subscribers false old old is_mute refl refl)

-- what is told where all were served may be told where some were not
pub serving_as : (paths : List (List ℕ)) (IsRefused : ℕ → Type 0) (documents port subscribers : ℕ) (old new : Option (List ℕ)) (is_mute : Bool)
    → TellsServing paths IsRefused documents port subscribers true old new is_mute → TellsServing paths IsRefused documents port subscribers false old new is_mute
serving_as paths IsRefused documents port subscribers old new is_mute (warned_to, warned, (came, absent, all, (came_to, arrived, (ends, count, served, gone)))) =
    (warned_to, warned, (came, absent, all, (came_to, arrived, (ends, count, λ never. absurd (true≢false (sym never)), gone))))

-- where all were served, none was missed, and nobody was absent
pub none_missed : (unserved absent counted : ℕ) → unserved ≡ counted → nat_eq (unserved + absent) 0 ≡ true → counted + absent ≡ 0
none_missed unserved absent counted is none = grind (arith, nat_tests)

-- ---- a report behind what was told before

module _ (paths : List (List ℕ)) (Tells : Bool → Option (List ℕ) → Option (List ℕ) → Bool → Type 0)
    (still : (b : Bool) (old new : Option (List ℕ)) (before after : Bool) → (after ≡ false → before ≡ false) → Tells b old new before → Tells b old new after)
    (weaker : (old new : Option (List ℕ)) (is_mute : Bool) → Tells true old new is_mute → Tells false old new is_mute)
    (old new : Option (List ℕ)) (broken : Bool) (err mid err_after : Option (List ℕ)) (before is_mute : Bool) (stays : is_mute ≡ false → before ≡ false) (status : ℕ) where
  refused_behind : (refusal : Refusal) → Tells false err mid before → RefusesBeside paths (λ o n _. n ≡ o) refusal old new broken mid err_after is_mute status → RefusesBeside paths (Tells false) refusal old new broken err err_after is_mute status
  refused_behind refusal told (by, (between, same, text)) =
      (by, (between, subst (λ (o : Option (List ℕ)). Tells false err o is_mute) (sym same) (still false err mid before is_mute stays told), text))

  pub reported_behind : (answer : Result ℕ Refusal) → Tells (is_ok answer) err mid before → Reports paths (λ _ o n _. n ≡ o) answer old new broken mid err_after is_mute status → Reports paths Tells answer old new broken err err_after is_mute status
  reported_behind (Ok n) told (inl (line, same)) = inl (line, subst (λ (o : Option (List ℕ)). Tells true err o is_mute) (sym same) (still true err mid before is_mute stays told))
  reported_behind (Ok n) told (inr want) = inr (refused_behind WantOfMemory (weaker err mid before told) want)
  reported_behind (Err refusal) told refuses = refused_behind refusal told refuses

-- ---- a report of what is told in another sense

module _ (paths : List (List ℕ)) (Tells As : Bool → Option (List ℕ) → Option (List ℕ) → Bool → Type 0) (more : (b : Bool) (old new : Option (List ℕ)) (is_mute : Bool) → Tells b old new is_mute → As b old new is_mute)
    (old new : Option (List ℕ)) (broken : Bool) (err err_after : Option (List ℕ)) (is_mute : Bool) (status : ℕ) where
  refused_as : (refusal : Refusal) → RefusesBeside paths (Tells false) refusal old new broken err err_after is_mute status → RefusesBeside paths (As false) refusal old new broken err err_after is_mute status
  refused_as refusal (by, (between, told, why)) = (by, (between, more false err between is_mute told, why))

  pub reports_as : (answer : Result ℕ Refusal) → Reports paths Tells answer old new broken err err_after is_mute status → Reports paths As answer old new broken err err_after is_mute status
  reports_as (Ok n) (inl (line, told)) = inl (line, more true err err_after is_mute told)
  reports_as (Ok n) (inr want) = inr (refused_as WantOfMemory want)
  reports_as (Err refusal) refuses = refused_as refusal refuses

  pub serves_as : (n : ℕ) → Serves paths Tells n old new broken err err_after is_mute status → Serves paths As n old new broken err err_after is_mute status
  serves_as n (inl (line, told)) = inl (line, more true err err_after is_mute told)
  serves_as n (inr (refusal, refuses)) = inr (refusal, refused_as refusal refuses)
