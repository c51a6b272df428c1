use Rattle.std.proofs.Common.{◌≡◌, ◌<◌, ◌≤◌, length, get_or, true, Less, Equal, Greater, nat_cmp, sym, ap, ◌∙◌, subst, rules}
use Rattle.std.specs.List.{All, AllWithin}
use Rattle.std.specs.Cmp.Lexicographic.{slice_cmp}
use Rattle.std.proofs.lemmas.Fn.{always_returns_same}
use Rattle.flag_text.specs.Shape.{names_rise}
use Rattle.flag_text.specs.View.{members_view}
use Rattle.flag_text.proofs.Halving.{name_of, searchable}
use Rattle.flag_text.proofs.Placed.{put-past, put-between, put-instead}
use Rattle.flag_text.proofs.members.insert.Goals as goal

pub returns-then-is_past : goal.returns-then-is_past
returns-then-is_past c =
    let k = c.args.name.bytes.items in
    let all : All (λ m. slice_cmp nat_cmp (name_of m) k ≡ Less) c.args.members.now.items =
    subst (λ name. All (λ m. slice_cmp nat_cmp (name_of m) name ≡ Less) c.args.members.now.items) c.as_str.ensures.value
    c.if-is_past.ensures in
    ap members_view c.in_ok-push.ensures.items ∙ sym (put-past c.args.members.now.items (c.args.name, c.args.member) all)

pub returns-in-Ok : goal.returns-in-Ok
returns-in-Ok c =
    let at = c.in-Ok.ensures.position (λ m. slice_cmp nat_cmp (name_of m) c.args.name.bytes.items) (always_returns_same _ _ _ (λ a r q k. search rules)) in
    let ms = c.args.members.now.items in
    let k = c.args.name.bytes.items in
    let n = c.index_mut.result.now in
    let inside : c.in-Ok.i < length ms = subst (λ xs. c.in-Ok.i < length xs) c.deref.ensures.value c.in-Ok.ensures.bound in
    let alike : slice_cmp nat_cmp (name_of (get_or ms c.in-Ok.i n)) k ≡ Equal = subst (λ xs. slice_cmp nat_cmp (name_of (get_or xs c.in-Ok.i n)) k ≡ Equal) c.deref.ensures.value (at n) in
    sym (put-instead ms k c.args.member c.in-Ok.i n c.requires.rising inside c.index_mut.ensures.value (ap (λ m. slice_cmp nat_cmp (name_of m) k) c.index_mut.ensures.value ∙ alike))

pub returns-in_ok-insert-in-Err : goal.returns-in_ok-insert-in-Err
returns-in_ok-insert-in-Err c =
    let rise = subst (λ ms. names_rise (members_view ms) ≡ true) (sym c.deref.ensures.value) c.requires.rising in
    let parts = c.in-Err.ensures.position (λ m. slice_cmp nat_cmp (name_of m) c.args.name.bytes.items) (always_returns_same _ _ _ (λ a r q k. search rules)) (searchable c.deref.result.now c.args.name.bytes.items rise) in
    let ms = c.args.members.now.items in
    let k = c.args.name.bytes.items in
    let i = c.in-Err.i in
    let inside : i ≤ length ms = subst (λ xs. i ≤ length xs) c.deref.ensures.value c.in-Err.ensures.bound in
    let low : AllWithin (λ m. slice_cmp nat_cmp (name_of m) k ≡ Less) ms 0 i = subst (λ xs. AllWithin (λ m. slice_cmp nat_cmp (name_of m) k ≡ Less) xs 0 i) c.deref.ensures.value parts.0 in
    let high : AllWithin (λ m. slice_cmp nat_cmp (name_of m) k ≡ Greater) ms i (length ms) = subst (λ xs. AllWithin (λ m. slice_cmp nat_cmp (name_of m) k ≡ Greater) xs i (length xs)) c.deref.ensures.value parts.1 in
    ap members_view c.in_ok-insert-in-Err.ensures.items ∙ sym (put-between ms (c.args.name, c.args.member) i inside low high)
