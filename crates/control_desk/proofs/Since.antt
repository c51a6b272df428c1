-- What is answered since a moment is answered since an earlier one.
use Rattle.std.proofs.Common.{◌⊎◌, ◌≤◌, ℕ, List, Option, Some, None, arith, inl, inr}
use Rattle.control_flags.specs.declared.place.ControlPlace.{ControlPlace}
use Rattle.flagops_shell.specs.Files.{Holding}
use Rattle.http_server.specs.declared.response.Response.{Response}
use Rattle.snap_share.specs.Known.{Seat}
use Rattle.control_desk.specs.Asked.{CallAsked}
use Rattle.control_desk.specs.Desk.{Hindered, IsPutOff, Page, RespondsRecorded}
use Rattle.control_desk.specs.Files.{Naming}
use Rattle.control_desk.specs.Obstacles.{AreGone, Grows, IsKept, IsTaken, IsUnknown, Met}
use Rattle.control_desk.specs.Rules.{Rules}
use Rattle.control_desk.proofs.Seats.{aside}

-- ---- what was met

module _ (first mid last : Met) (grows : Grows first mid) where
  pub taken_since : IsTaken mid last → IsTaken first last
  taken_since (inl each) = inl (omega (arith, grows.taken, each))
  taken_since (inr (taken, awaited)) = inr (omega (arith, grows.taken, taken), omega (arith, grows.awaited, awaited))

  pub unknown_since : IsUnknown mid last → IsUnknown first last
  unknown_since (inl each) = inl (omega (arith, grows.unset, each))
  unknown_since (inr outdated) = inr (omega (arith, grows.outdated, outdated))

  pub gone_since : AreGone mid last → AreGone first last
  gone_since gone = omega (arith, grows.gone, gone)

  kept_since : IsKept mid last → IsKept first last
  kept_since (inl taken) = inl (taken_since taken)
  kept_since (inr unknown) = inr (unknown_since unknown)

-- what was met later, by what was met before
module _ (first mid last : Met) (grows : Grows mid last) where
  pub unknown_until : IsUnknown first mid → IsUnknown first last
  unknown_until (inl each) = inl (omega (arith, grows.unset, each))
  unknown_until (inr outdated) = inr (omega (arith, grows.outdated, outdated))

-- nothing is forgotten from one to the next
pub grows_on : (first mid last : Met) → Grows first mid → Grows mid last → Grows first last
grows_on first mid last a b = record {
  taken = omega (arith, a.taken, b.taken);
  awaited = omega (arith, a.awaited, b.awaited);
  unset = omega (arith, a.unset, b.unset);
  outdated = omega (arith, a.outdated, b.outdated);
  gone = omega (arith, a.gone, b.gone);
}

-- ---- what is answered

module _ (naming : Option Naming) (before after : Option Holding) (had mid has : Hindered) (rules : Rules) (page : Page) (seat seat' : Seat) (asked : CallAsked) (response : Response)
    (faults : had.faults ≤ mid.faults) (grows : Grows had.met mid.met) where
  pub put_off_since : IsPutOff naming before after mid has rules page seat seat' asked response → IsPutOff naming before after had has rules page seat seat' asked response
  put_off_since (inl (kept, busy), same) = (inl (kept_since had.met mid.met has.met grows kept, busy), same)
  put_off_since (inr (inl failed, told), same) = (inr (inl (omega (arith, faults, failed)), told), same)
  put_off_since (inr (inr gone, told), same) = (inr (inr (gone_since had.met mid.met has.met grows gone), told), same)

  recorded_since : (place : ControlPlace) (folder : Option (List ℕ)) → RespondsRecorded naming before after mid has rules page seat seat' asked response place folder
      → RespondsRecorded naming before after had has rules page seat seat' asked response place folder
  recorded_since place None h = h
  recorded_since place (Some folder) (files, passed, are, (s, read, (document, means, on))) =
      (files, passed, are, (s, read, (document, means, aside naming naming before after mid has had has rules page seat seat' seat seat' asked response faults (omega arith) place folder s document files passed on)))

  pub since : (place : ControlPlace) (folder : Option (List ℕ))
      → IsPutOff naming before after mid has rules page seat seat' asked response ⊎ RespondsRecorded naming before after mid has rules page seat seat' asked response place folder
      → IsPutOff naming before after had has rules page seat seat' asked response ⊎ RespondsRecorded naming before after had has rules page seat seat' asked response place folder
  since place folder (inl off) = inl (put_off_since off)
  since place folder (inr recorded) = inr (recorded_since place folder recorded)
