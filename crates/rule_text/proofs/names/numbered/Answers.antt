use Rattle.std.proofs.Common.{◌++◌, ◌∷◌, [], drop, length, ap, sym, arith, ◌∙◌}
use Rattle.std.proofs.lemmas.List.{append_assoc, length-append, length-take}
use Rattle.bucket_core.specs.Rule.{all_named, names_view}
use Rattle.rule_text.specs.Lent.{lent_view}
use Rattle.rule_text.proofs.names.numbered.Goals as goal

pub loop-name-preserved : goal.loop-name-preserved
loop-name-preserved c =
    let l = c.loop-name in
    let before = all_named (names_view l.names.items) l.places.items in
    let after = lent_view c.next.new.self.rest.items in
    let placed = c.in_ok-place.ensures.placed l.places.items c.in-Some.weight l.invariant.named in
    let behind = drop (length c.place_of.new.slots) l.slots.items in
    rw (c.in_ok-push.ensures.items) (record {
      slots = omega (arith, length-take l.slots.len (c.place_of.new.slots ++ behind), length-append c.place_of.new.slots behind, c.in_ok-place.ensures.slots, ap length c.as_mut_slice.ensures.value, l.slots.ok.0, l.invariant.slots);
      named = placed.0;
      same = ap (λ es. es ++ after) placed.1
          ∙ (append_assoc before ((c.in-Some.name.now, c.in-Some.weight) ∷ []) after
          ∙ (ap (λ es. before ++ es) (sym (ap lent_view c.in-Some.ensures.steps.0)) ∙ l.invariant.same));
    })
