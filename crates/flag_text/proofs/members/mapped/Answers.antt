use Rattle.std.proofs.Common.{sym, ap, ◌∙◌}
use Rattle.std.proofs.lemmas.List.{map-id}
use Rattle.std.proofs.lemmas.Iterator.Adapters.{YieldsList-from_vec}
use Rattle.std.proofs.lemmas.Iterator.Consumers.{YieldsList-end}
use Rattle.flag_text.specs.Grammar.{put}
use Rattle.flag_text.specs.Shape.{no_members}
use Rattle.flag_text.specs.View.{view, members_view}
use Rattle.flag_text.proofs.Entered.{members_view-insert_entry}
use Rattle.flag_text.proofs.Halving.{name_of}
use Rattle.flag_text.proofs.Placed.{entered, entered-more, entered-rising}
use Rattle.flag_text.proofs.Views.{Named}
use Rattle.flag_text.proofs.members.mapped.Goals as goal

pub loop-name-preserved : goal.loop-name-preserved
loop-name-preserved c =
    let m : Named = (c.in-Some.name, c.in-Some.member) in
    ap members_view c.in_ok-insert.ensures.entries ∙ members_view-insert_entry c.loop-name.map.entries c.in-Some.name c.in-Some.member
    ∙ ap (put (name_of m) (view c.in-Some.member)) c.loop-name.invariant ∙ sym (entered-more c.loop-name.yielded m no_members)

pub returns : goal.returns
returns c =
    let given = c.into_iter-name-iterator.ensures.into_iter_gives in
    let taken = YieldsList-end (YieldsList-from_vec {s = c.into_iter-name-iterator.result} c.args.members.items given.0 (cc)) c.loop-name.yielded c.loop-name.name-iterator c.loop-name.yielded_by c.next.result c.next.new.self c.in-None.is c.next.ensures.steps in
    c.loop-name.invariant ∙ ap (λ ms. entered (members_view ms) no_members) (sym (map-id c.loop-name.yielded) ∙ taken.0) ∙ entered-rising c.args.members.items c.requires.rising
