use Rattle.std.proofs.Common.{◌≡◌, [], ◌∷◌, ◌++◌, List, ℕ, Some, length, ap, sym, ◌∙◌, subst, arith}
use Rattle.std.proofs.lemmas.List.{length_push}
use Rattle.std.specs.List.{slice_get}
use Rattle.bucket_core.specs.Rule.{names_view}
use Rattle.price_core.specs.Numbering.{AreFirstNumbers}
use Rattle.price_core.proofs.Numbered.{firsts_more, name_at}
use Rattle.price_core.proofs.numbering.Numbering.add_names.Goals as goal

pub loop-name-preserved : goal.loop-name-preserved
loop-name-preserved c =
    let l = c.loop-name in
    let names = names_view c.args.names.now in
    let n = c.in_ok-add.field-0 in
    let items : c.push.new.self.items ≡ l.numbers.items ++ n ∷ [] = c.in_ok-push.ensures.items in
    let here : slice_get names (length l.numbers.items) ≡ Some c.as_str.result.now =
    ap (slice_get names) l.invariant.as_many ∙ (name_at c.args.names.now l.name-index _ (omega arith) c.name-item.is ∙ ap (λ (s : List ℕ). Some s) (sym c.as_str.ensures.value)) in
    record {
      keeps = λ name k h. c.in_ok-add.ensures.keeps name k (l.invariant.keeps name k h);
      as_many = omega (arith, ap length items, length_push l.numbers.items n, l.invariant.as_many);
      firsts = subst (AreFirstNumbers c.add.new.self names) (sym items) (firsts_more l.self c.add.new.self names l.numbers.items c.as_str.result.now n c.in_ok-add.ensures.keeps l.invariant.firsts here c.in_ok-add.ensures.numbered);
    }
