use Rattle.std.proofs.Common.{◌≡◌, ◌∙◌, ◌||◌, ◌<◌, ◌≤◌, ◌+◌, ◌-◌, ℕ, Bool, false, List, ◌∷◌, ap, arith, codes, drop, get_or, length, length-drop, nat_eq, sym, take}
use Rattle.std.specs.List.{starts_with}
use Rattle.std.proofs.lemmas.List.{at_drop_more, take_all}
use Rattle.control_desk.specs.Names.{has_log}
use Rattle.control_desk.proofs.names.has_log.Goals as goal

-- where it does not begin here, it stands in what is left
later : (name : List ℕ) (i : ℕ) → i < length name → false ≡ starts_with nat_eq (take (length name - i) (drop i name)) (codes ".log") → has_log (drop (i + 1) name) ≡ has_log (drop i name)
later name i h is =
    let short : length (drop i name) ≤ length name - i = omega (arith, length-drop i name) in
    let all : take (length name - i) (drop i name) ≡ drop i name = take_all (length name - i) (drop i name) short in
    let begins : false ≡ starts_with nat_eq (drop i name) (codes ".log") = is ∙ ap (λ (bs : List ℕ). starts_with nat_eq bs (codes ".log")) all in
    let next : starts_with nat_eq (get_or name i 0 ∷ drop (i + 1) name) (codes ".log") ≡ false = sym (begins ∙ at_drop_more (λ (bs : List ℕ). starts_with nat_eq bs (codes ".log")) name i 0 h) in
    sym (at_drop_more has_log name i 0 h ∙ ap (λ (b : Bool). b || has_log (drop (i + 1) name)) next)

pub loop-place-preserved : goal.loop-place-preserved
loop-place-preserved c = later c.args.name.now c.loop-place.place c.loop-place-test.true c.if-starts_with.ensures.value ∙ c.loop-place.invariant
