use Rattle.std.proofs.Common.{◌≡◌, ◌++◌, ◌∷◌, [], length, string_bytes, ap, sym, arith, ◌∙◌}
use Rattle.std.proofs.lemmas.List.{append_assoc, map_push, length-map}
use Rattle.bucket_core.specs.Rule.{all_named, entries_view, names_view}
use Rattle.bucket_core.proofs.Named.{named-push}
use Rattle.bucket_core.proofs.names.numbered.Goals as goal

pub loop-name-preserved : goal.loop-name-preserved
loop-name-preserved c =
    let l = c.loop-name in
    let names = names_view l.names.items in
    let name = string_bytes c.in-Some.name in
    let before = all_named names l.places.items in
    let after = entries_view c.next.new.self.rest.items in
    let more : names_view c.push-in-loop-name.new.self.items ≡ names ++ name ∷ [] = ap names_view c.in_ok-push-2.ensures.items ∙ map_push string_bytes l.names.items c.in-Some.name in
    let size : c.len-in-loop-name.result ≡ length names = omega (arith, c.len-in-loop-name.ensures, l.names.ok.0, length-map l.names.items string_bytes) in
    let pushed = named-push names name c.in-Some.weight l.places.items l.invariant.named in
    rw (more, c.in_ok-push.ensures.items, size) (record {
      named = pushed.0;
      same = ap (λ es. es ++ after) pushed.1
          ∙ (append_assoc before ((name, c.in-Some.weight) ∷ []) after
          ∙ (ap (λ es. before ++ es) (sym (ap entries_view c.in-Some.ensures.steps.0)) ∙ l.invariant.same));
    })
