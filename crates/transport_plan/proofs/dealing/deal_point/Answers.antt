-- One of the name is taken from what the group has left.
use Rattle.std.proofs.Common.{◌≡◌, ◌<◌, ◌+◌, ◌-◌, ◌*◌, ℕ, take, drop, get_or, ◌∙◌, arith}
use Rattle.std.proofs.lemmas.List.{length-take, get_or-take, get_or-drop}
use Rattle.transport_plan.proofs.Dealt.{deals_name}
use Rattle.transport_plan.proofs.dealing.deal_point.Goals as goal

pub returns : goal.returns
returns c =
    let g = c.args.group in
    let names = c.args.names in
    let next = c.next-next.result in
    let left = c.args.left.now in
    let width : ℕ = g * names + names - g * names in
    let within : next < names = omega (arith, c.next-next.ensures.within, length-take width (drop (g * names) left)) in
    let read : get_or (take width (drop (g * names) left)) next 0 ≡ get_or left (g * names + next) 0 =
    get_or-take width (drop (g * names) left) next 0 (omega (arith, within)) ∙ get_or-drop (g * names) left next 0 in
    deals_name names g next c.args.point left c.args.points.now within c.requires.inside (omega (arith, c.next-next.ensures.there, read))
