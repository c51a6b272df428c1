use Rattle.std.proofs.Common.{◌≡◌, ◌<◌, ◌-◌, length, get_or, Less, nat_cmp, sym, ap, ◌∙◌, subst}
use Rattle.std.specs.Bool.{OnTrue}
use Rattle.std.specs.Cmp.Lexicographic.{slice_cmp}
use Rattle.std.specs.List.{All}
use Rattle.std.specs.Ordering.{is_lt}
use Rattle.flag_text.proofs.Halving.{name_of}
use Rattle.flag_text.proofs.Placed.{past_if}
use Rattle.flag_text.proofs.members.is_past.Goals as goal

pub returns-in-Some : goal.returns-in-Some
returns-in-Some c =
    let ms = c.args.members.now.items in
    let k = c.args.name.now in
    let last = c.in-Some.field-0.now in
    let item = c.in-Some.ensures.item in
    let test : c.lt.result ≡ is_lt (slice_cmp nat_cmp (name_of last) k) = c.lt.ensures ∙ ap (λ name. is_lt (slice_cmp nat_cmp name k)) c.as_str.ensures.value in
    subst (λ b. OnTrue b (All (λ m. slice_cmp nat_cmp (name_of m) k ≡ Less) ms)) (sym test)
    (past_if ms k last c.requires.rising
    (subst (λ xs. 0 < length xs) c.deref.ensures.value item.3.0)
    (subst (λ xs. last ≡ get_or xs (length xs - 1) last) c.deref.ensures.value item.1))
