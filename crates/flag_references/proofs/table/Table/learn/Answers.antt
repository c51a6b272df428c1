use Rattle.std.proofs.Common.{◌≡◌, ◌<◌, get_or, length, Some, sym, ap, ◌∙◌, subst}
use Rattle.std.proofs.lemmas.List.{length-set}
use Rattle.flag_text.specs.View.{view, members_view}
use Rattle.flag_references.specs.Measure.{known, measured}
use Rattle.flag_references.specs.Table.{IsHead, Learned}
use Rattle.flag_references.proofs.Heads.{any_default, AreHeads-set}
use Rattle.flag_references.proofs.Tables.{Knows-set}
use Rattle.flag_references.proofs.table.Table.learn.Goals as goal

pub head-head-requires-clause-found : goal.head-head-requires-clause-found
head-head-requires-clause-found c = λ d.
    let t = c.args.self.now in
    let ms = c.self.inside.members.now in
    let within : c.args.i < length ms = subst (λ (x : Learned). c.args.i < length x.members) (sym c.self.view_is) c.requires in
    ap (λ (x : Learned). measured (known (members_view t.members) t.measures) (view (get_or x.members c.args.i d).1)) (sym c.self.view_is)
    ∙ (ap (λ y. measured (known (members_view t.members) t.measures) (view y.1)) (any_default ms c.args.i d c.index-self-i.result within) ∙ sym c.in-Some.ensures)

pub invariant_of-self : goal.invariant_of-self
invariant_of-self c =
    let ms = c.self.inside.members.now in
    let es = c.self.inside.measures.items in
    let heads = c.self.inside.heads.items in
    let is = c.self.invariant in
    let i = c.args.i in
    let m = c.index-self-i.result in
    let within : i < length ms = subst (λ (x : Learned). i < length x.members) (sym c.self.view_is) c.requires in
    let found : measured (known (members_view ms) es) (view (get_or ms i m).1) ≡ Some c.in-Some.measure =
    subst (λ (x : Learned). measured (known (members_view x.members) x.measures) (view (get_or ms i m).1) ≡ Some c.in-Some.measure) (sym c.self.view_is) (sym c.in-Some.ensures) in
    let head : IsHead ms i c.head-head.result = subst (λ (x : Learned). IsHead x.members i c.head-head.result) (sym c.self.view_is) c.head-head.ensures in record {
      rising = is.rising;
      each = length-set es i (Some c.in-Some.measure) ∙ is.each;
      knows = Knows-set ms es is.knows i m c.in-Some.measure within found;
      ends = AreHeads-set ms es heads i c.head-head.result c.in-Some.measure is.ends is.each within head;
    }
