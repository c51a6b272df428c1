-- A plan file as a line: what it is, and that it reads as the file without its line end.
use Rattle.std.proofs.Common.{◌≡◌, ℕ, ◌<◌, ◌≤◌, Bool, true, false, cond, List, [], ◌∷◌, ◌++◌, length, nat_lt, Result, Ok, Err, refl, sym, ap, ◌∙◌, subst, length-append, arith}
use Rattle.std.proofs.lemmas.Bool.{le-ltb, lt-ltb, ltb-false, ltb-true}
use Rattle.flag_text.specs.Printing.{text_of}
use Rattle.flag_text.specs.Reading.{tree_of}
use Rattle.flag_text.specs.Shape.{Shape}
use Rattle.flag_text.specs.declared.fault.TextFault.{TextFault}
use Rattle.plan_text.specs.Answer.{Answer}
use Rattle.plan_text.specs.PlanFile.{max_plan, planned_written, IsWhole, if_small, plan_file, plan_line, if_tree, answer_of}
use Rattle.plan_text.specs.declared.fault.PlanFileFault.{PlanFileFault}
use Rattle.plan_text.specs.declared.fault.PlanFileFault.TheVariants.{TooLarge}
use Rattle.plan_text.proofs.LineEnds.{line_again}

-- ---- what is small enough

if_small-fits : (bytes : List ℕ) → length bytes ≤ max_plan → if_small bytes ≡ Ok bytes
if_small-fits bytes h = rw (le-ltb max_plan (length bytes) h) refl

if_small-large : (bytes : List ℕ) → max_plan < length bytes → if_small bytes ≡ Err TooLarge
if_small-large bytes h = rw (lt-ltb max_plan (length bytes) h) refl

record IsSmall (bytes v : List ℕ) : Type 0 where
  same : bytes ≡ v
  fits : length bytes ≤ max_plan

small_of : (bytes v : List ℕ) → if_small bytes ≡ Ok v → IsSmall bytes v
small_of bytes v h = go (nat_lt max_plan (length bytes)) refl h
  where
    go : (b : Bool) → nat_lt max_plan (length bytes) ≡ b → (let r : Result (List ℕ) PlanFileFault = cond b (Err TooLarge) (Ok bytes) in r) ≡ Ok v → IsSmall bytes v
    go true is k = absurd (cc)
    go false is k = record { same = cc; fits = ltb-false max_plan (length bytes) is }

record IsLarge (bytes : List ℕ) (e : PlanFileFault) : Type 0 where
  fault : e ≡ TooLarge
  above : max_plan < length bytes

large_of : (bytes : List ℕ) (e : PlanFileFault) → if_small bytes ≡ Err e → IsLarge bytes e
large_of bytes e h = go (nat_lt max_plan (length bytes)) refl h
  where
    go : (b : Bool) → nat_lt max_plan (length bytes) ≡ b → (let r : Result (List ℕ) PlanFileFault = cond b (Err TooLarge) (Ok bytes) in r) ≡ Err e → IsLarge bytes e
    go true is k = record { fault = cc; above = ltb-true max_plan (length bytes) is }
    go false is k = absurd (cc)

-- ---- the line of an answer

module _ (a : Answer) where
  abbrev text : List ℕ
  text = text_of (planned_written a)

  pub line_refused : (e : PlanFileFault) → plan_file a ≡ Err e → plan_line a ≡ Err e
  line_refused e h =
      let large = large_of text e h in
      if_small-large (text ++ 10 ∷ []) (omega (arith, large.above, length-append text (10 ∷ []))) ∙ ap Err (sym large.fault)

  module _ (file : List ℕ) (made : plan_file a ≡ Ok file) where
    pub line_full : length file ≡ max_plan → plan_line a ≡ Err TooLarge
    line_full full =
        let small = small_of text file made in
        if_small-large (text ++ 10 ∷ []) (omega (arith, ap length small.same, full, length-append text (10 ∷ [])))

    pub line_room : (length file ≡ max_plan → ⊥) → length text < max_plan
    line_room not =
        let small = small_of text file made in
        omega (arith, small.fits, ap length small.same, not)

    pub line_made : (length file ≡ max_plan → ⊥) → plan_line a ≡ Ok (file ++ 10 ∷ [])
    line_made not =
        let small = small_of text file made in
        if_small-fits (text ++ 10 ∷ []) (omega (arith, line_room not, length-append text (10 ∷ []))) ∙ ap (λ (s : List ℕ). Ok (s ++ 10 ∷ [])) small.same

    pub line_reads : IsWhole a → (length file ≡ max_plan → ⊥) → answer_of file ≡ Ok a → answer_of (file ++ 10 ∷ []) ≡ Ok a
    line_reads whole not reads = subst (λ (s : List ℕ). answer_of (s ++ 10 ∷ []) ≡ Ok a) small.same (go (tree_of text max_plan) refl (subst (λ (s : List ℕ). answer_of s ≡ Ok a) (sym small.same) reads))
      where
        small : IsSmall text file
        small = small_of text file made

        go : (r : Result Shape TextFault) → tree_of text max_plan ≡ r → if_tree r ≡ Ok a → answer_of (text ++ 10 ∷ []) ≡ Ok a
        go (Ok t) is h = ap if_tree (line_again (planned_written a) t max_plan whole (line_room not) is) ∙ h
        go (Err e) is h = absurd (cc)
