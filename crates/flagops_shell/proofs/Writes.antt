-- What is written in turn is written as one.
use Rattle.std.proofs.Common.{◌≡◌, ◌+◌, ◌≤◌, List, ℕ, ◌++◌, length, take, Option, Some, None, Bool, true, false, not, subst, ap, ◌∙◌, append_assoc, length-append, arith}
use Rattle.std.proofs.lemmas.List.{take-append-le}
use Rattle.std.proofs.Math.Seq.{take-append-add}
use Rattle.std.specs.Bool.{OnTrue}
use Rattle.std.specs.Io.KnownBytes.{Appends}
use Rattle.flag_text.specs.Outlet.{AppendsPart}
use Rattle.flagops_shell.specs.Report.{Reports}

pub whole_after : (old mid new : Option (List ℕ)) (a r : List ℕ) → Appends old mid a → Appends mid new r → Appends old new (a ++ r)
whole_after None mid new a r p q = tt
whole_after (Some xs) None new a r p q = absurd p
whole_after (Some xs) (Some ys) None a r p q = absurd q
whole_after (Some xs) (Some ys) (Some zs) a r p q = q ∙ ap (λ w. w ++ r) p ∙ append_assoc xs a r

-- a front of the first text is one of both
pub part_front : (old mid : Option (List ℕ)) (a r : List ℕ) → AppendsPart old mid a → AppendsPart old mid (a ++ r)
part_front old mid a r p =
    let short : p.0 ≤ length a = p.1 in
    (p.0, omega (arith, length-append a r), rw take-append-le p.2)

-- the first text and a front of the second
pub part_after : (old mid new : Option (List ℕ)) (a r : List ℕ) → Appends old mid a → AppendsPart mid new r → AppendsPart old new (a ++ r)
part_after old mid new a r p q =
    (length a + q.0, omega (arith, length-append a r, q.1), rw take-append-add (whole_after old mid new a (take q.0 r) p q.2))

-- a text with the status of a refusal, written as a report is
pub refusal_reported : (old new : Option (List ℕ)) (broken : Bool) (status : ℕ) (text : List ℕ) (whole : Bool) → OnTrue whole (Appends old new text) → AppendsPart old new text
    → whole ≡ not broken → status ≡ 1 → Reports old new broken status (record { text = text; status = 1; is_told = true })
refusal_reported old new false status text whole all part is one =
    let P : Bool → Type 0 = λ b. OnTrue b (Appends old new text) in (subst P is all, one)
refusal_reported old new true status text whole all part is one = (part, one)
