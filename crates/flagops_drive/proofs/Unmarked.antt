-- Asks of flags of which none has floats.
use Rattle.std.proofs.Common.{◌≡◌, ◌∙◌, ◌&&◌, ℕ, Bool, true, false, List, [], ◌∷◌, map, Option, Some, None, is_some, Result, Ok, Err, refl, sym, ap, ap₂}
use Rattle.book_core.specs.Book.{Contents}
use Rattle.flag_defs.specs.Document.{Definitions}
use Rattle.flag_defs.specs.Floats.{Marks, are_unmarked}
use Rattle.flag_defs.specs.declared.kind.Kind.{Kind}
use Rattle.flag_resolve.proofs.Unmarked.{no_floats}
use Rattle.flag_resolve.specs.Floats.{floats_in, kind_asked}
use Rattle.flag_resolve.specs.Resolution.{resolved_by}
use Rattle.flagops_drive.specs.Asks.{Ask}
use Rattle.flagops_drive.specs.Driven.{DriveOutput, IsDriveOf, IsDriveOutput, IsOverfull, IsReached, IsRefused, Reached}
use Rattle.flagops_drive.specs.Floats.{answered, answered_spelled, asked_as}
use Rattle.flagops_drive.specs.declared.fault.DriveRefusal.{DriveRefusal}
use Rattle.flagops_drive.specs.declared.fault.DriveRefusal.TheVariants.{Drive, BadAsks, PageFull}

-- the ask for another kind
for_kind : Ask → Kind → Ask
for_kind a k = record { key = a.key; want = k; default = a.default; context = a.context; moment = a.moment }

pub asks_stay : (flags : Definitions) (marks : Marks) (a : Ask) → are_unmarked marks ≡ true → asked_as (flags, marks) a ≡ a
unfolding for_kind
asks_stay flags marks a h = ap (λ (o : Option Kind). for_kind a (kind_asked o a.want)) (no_floats a.key flags marks h)

none_both : (a b : Bool) → b ≡ false → (a && b) ≡ false
none_both true b e = e
none_both false b e = refl

pub answers_stay : (flags : Definitions) (marks : Marks) (a : Ask) → are_unmarked marks ≡ true → answered (flags, marks) a ≡ resolved_by (Some flags) a.want a.default a.context a.key a.moment
answers_stay flags marks a h = ap (λ (o : Option Kind). resolved_by (Some flags) (kind_asked o a.want) a.default a.context a.key a.moment) (no_floats a.key flags marks h)

pub nothing_spelled : (flags : Definitions) (marks : Marks) (a : Ask) → are_unmarked marks ≡ true → answered_spelled (flags, marks) a ≡ false
nothing_spelled flags marks a h = none_both (is_some (answered (flags, marks) a).variant) (is_some (floats_in (Some (flags, marks)) a.key)) (ap (λ (o : Option Kind). is_some o) (no_floats a.key flags marks h))

same_map : {X Y : Type 0} (f g : X → Y) → ((x : X) → f x ≡ g x) → (xs : List X) → map f xs ≡ map g xs
same_map f g h [] = refl
same_map f g h (x ∷ xs) = ap₂ (λ y ys. y ∷ ys) (h x) (same_map f g h xs)

module _ (flags : Definitions) (marks others : Marks) (one : are_unmarked marks ≡ true) (other : are_unmarked others ≡ true) where
  reached_so : (asks : List Ask) (r : Reached) → IsReached (flags, marks) asks r → IsReached (flags, others) asks r
  reached_so asks r h = record {
    answers = h.answers ∙ same_map (answered (flags, marks)) (answered (flags, others)) (λ a. answers_stay flags marks a one ∙ sym (answers_stay flags others a other)) asks;
    spelled = h.spelled ∙ same_map (answered_spelled (flags, marks)) (answered_spelled (flags, others)) (λ a. nothing_spelled flags marks a one ∙ sym (nothing_spelled flags others a other)) asks;
    given = h.given;
    same = h.same ∙ same_map (asked_as (flags, marks)) (asked_as (flags, others)) (λ a. asks_stay flags marks a one ∙ sym (asks_stay flags others a other)) asks;
    noted = h.noted;
    long = h.long;
  }

  output_so : (asks : List Ask) (before : Option Contents) (json : Bool) (d : DriveOutput) → IsDriveOutput (flags, marks) asks before json d → IsDriveOutput (flags, others) asks before json d
  output_so asks before json d h = record { reached = h.reached; is_reached = reached_so asks h.reached h.is_reached; output = h.output }

  overfull_so : (asks : List Ask) (before : Option Contents) → IsOverfull (flags, marks) asks before → IsOverfull (flags, others) asks before
  overfull_so asks before h = record { reached = h.reached; is_reached = reached_so asks h.reached h.is_reached; full = h.full }

  refused_so : (asks : List Ask) (workers : ℕ) (before : Option Contents) (e : DriveRefusal) → IsRefused (flags, marks) asks workers before e → IsRefused (flags, others) asks workers before e
  refused_so asks workers before (Drive e) h = h
  refused_so asks workers before PageFull h = (h.0, overfull_so asks before h.1)
  refused_so asks workers before BadAsks h = h

  pub driven_so : (asks : Option (List Ask)) (workers : ℕ) (before : Option Contents) (json : Bool) (r : Result DriveOutput DriveRefusal)
      → IsDriveOf (flags, marks) asks workers before json r → IsDriveOf (flags, others) asks workers before json r
  driven_so None workers before json r h = h
  driven_so (Some asks) workers before json (Ok d) h = (h.0, output_so asks before json d h.1)
  driven_so (Some asks) workers before json (Err e) h = refused_so asks workers before e h
