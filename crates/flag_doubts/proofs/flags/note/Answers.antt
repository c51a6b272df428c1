use Rattle.std.proofs.Common.{◌≡◌, ◌||◌, ◌&&◌, Bool, true, false, cond, Option, Some, None, is_some, string_bytes, refl, sym, ap, ◌∙◌}
use Rattle.std.proofs.lemmas.Map.Text.{btree_map_updates_text}
use Rattle.std.specs.BTreeMap.{get_by_text}
use Rattle.std.specs.Str.{bytes_eq}
use Rattle.flag_doubts.proofs.flags.note.Goals as goal

put : {A : Type 0} (b : Bool) (a : A) (o : Option A) → is_some (cond b (Some a) o) ≡ (is_some o || (b && true))
put true a None = refl
put true a (Some x) = refl
put false a None = refl
put false a (Some x) = refl

pub returns-in_ok-insert : goal.returns-in_ok-insert
returns-in_ok-insert c = λ k.
    let before = get_by_text c.args.places.now k in
    ap (λ o. is_some o)
    (btree_map_updates_text (string_bytes c.in_ok-from_str.field-0) c.args.places.now c.insert.new.self (Some c.in-Some.place) c.in_ok-insert.ensures.updates k
    ∙ ap (λ b. cond (bytes_eq b k) (Some c.in-Some.place) before) c.in_ok-from_str.ensures.ok)
    ∙ put (bytes_eq c.args.key.now k) c.in-Some.place before ∙ ap (λ o. is_some before || (bytes_eq c.args.key.now k && is_some o)) (sym c.in-Some.is)
