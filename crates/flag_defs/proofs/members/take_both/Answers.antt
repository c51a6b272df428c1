use Rattle.std.proofs.Common.{◌≡◌, ℕ, List, ◌++◌, [], ◌∷◌, string_bytes, sym, ap, ◌∙◌}
use Rattle.std.specs.Str.{bytes_eq}
use Rattle.flag_text.proofs.Views.{Named}
use Rattle.flag_defs.proofs.Parted.{taken, passed, apart}
use Rattle.flag_defs.proofs.members.take_both.Goals.{then-eq, else-eq+then-eq-2, else-eq+else-eq-2}
use Rattle.flag_defs.proofs.members.take_both.Goals as goal

pub loop-name-preserved : goal.loop-name-preserved
loop-name-preserved c =
    let one = c.args.first.now in
    let other = c.args.second.now in
    let all = c.loop-name.members.items in
    let ms = c.pop.new.self.items in
    let m : Named = (c.in-Some.name, c.in-Some.member) in
    let name = string_bytes m.0 in
    let parts : all ≡ ms ++ m ∷ [] = c.in-Some.ensures.items in
    let first = ap (λ (k : List ℕ). bytes_eq k one) (sym c.as_str.ensures.value) ∙ sym c.eq.ensures in
    let l = c.loop-name in
    let next = c.if-eq in
    elim c.if-eq.branch [
      | then-eq w ↦ (
          let named = first ∙ w.if-eq.true in (
            taken one all ms m l.one next.one parts w.one-is named ∙ l.invariant.0,
            passed other all ms m l.other next.other parts w.other-is (apart name one other c.requires named) ∙ l.invariant.1,
          )
          )
      | else-eq+then-eq-2 w ↦ (
          let second = ap (λ (k : List ℕ). bytes_eq k other) (sym w.as_str-else-eq.ensures.value) ∙ sym w.eq-else-eq.ensures in (
            passed one all ms m l.one next.one parts w.one-is (first ∙ w.if-eq.false) ∙ l.invariant.0,
            taken other all ms m l.other next.other parts w.other-is (second ∙ w.if-eq-2.true) ∙ l.invariant.1,
          )
          )
      | else-eq+else-eq-2 w ↦ (
          let second = ap (λ (k : List ℕ). bytes_eq k other) (sym w.as_str-else-eq.ensures.value) ∙ sym w.eq-else-eq.ensures in (
            passed one all ms m l.one next.one parts w.one-is (first ∙ w.if-eq.false) ∙ l.invariant.0,
            passed other all ms m l.other next.other parts w.other-is (second ∙ w.if-eq-2.false) ∙ l.invariant.1,
          )
          )
    ]
