-- What is written with a status.
use Rattle.std.proofs.Common.{◌≡◌, List, [], ℕ, Option, Some, None, Bool, true, false, not, ◌∙◌, append-nil, refl, subst, sym}
use Rattle.std.proofs.lemmas.Bool.{true≢false}
use Rattle.std.specs.Bool.{OnTrue}
use Rattle.std.specs.Io.KnownBytes.{Appends}
use Rattle.flag_text.specs.Outlet.{AppendsPart}
use Rattle.flagops_streams.specs.Report.{Writes}

-- nothing was written
pub none_written : (old new : Option (List ℕ)) → new ≡ old → Appends old new []
none_written None new e = tt
none_written (Some xs) None e = absurd (cc (e))
none_written (Some xs) (Some ys) e = cc (e) ∙ sym (append-nil xs)

-- a text that was written whole, with the status for that
pub good : (old new : Option (List ℕ)) (broken : Bool) (status wanted : ℕ) (text : List ℕ) → Appends old new text → true ≡ not broken → status ≡ wanted → Writes old new broken status text wanted
good old new false status wanted text all is same = (all, same)
good old new true status wanted text all is same = absurd (true≢false is)

-- one of which a front was written, with status 1
pub bad : (old new : Option (List ℕ)) (broken : Bool) (status wanted : ℕ) (text : List ℕ) → AppendsPart old new text → false ≡ not broken → status ≡ 1 → Writes old new broken status text wanted
bad old new false status wanted text part is one = absurd (true≢false (sym is))
bad old new true status wanted text part is one = (part, one)

-- one with status 1, whether it was written whole or not
pub either : (old new : Option (List ℕ)) (broken : Bool) (text : List ℕ) (whole : Bool) → OnTrue whole (Appends old new text) → AppendsPart old new text → whole ≡ not broken → Writes old new broken 1 text 1
either old new false text whole all part is =
    let P : Bool → Type 0 = λ b. OnTrue b (Appends old new text) in (subst P is all, refl)
either old new true text whole all part is = (part, refl)
