use Rattle.std.proofs.Common.{◌-◌, length, drop, sym, ◌∙◌, arith, length-drop}
use Rattle.std.proofs.lemmas.List.{take_all}
use Rattle.page_tally.proofs.Plainly.{plain_behind, plain_first}
use Rattle.page_tally.proofs.plain.plain_line.Goals as goal

pub returns-clause-line : goal.returns-clause-line
returns-clause-line c =
    let inner = c.in_ok-inner.inner.now in
    let end = c.plain_end-end.result in
    let n = length inner - end in
    let all = take_all n (drop end inner) (omega (arith, length-drop end inner)) in
    plain_first c.args.bytes.now inner c.in_ok-rest.rest.now end c.in_ok-inner.ensures c.plain_end-end.ensures.run (sym all ∙ c.in_ok-rest.ensures)

pub returns-clause-behind : goal.returns-clause-behind
returns-clause-behind c =
    let inner = c.in_ok-inner.inner.now in
    let end = c.plain_end-end.result in
    let n = length inner - end in
    let all = take_all n (drop end inner) (omega (arith, length-drop end inner)) in
    plain_behind c.args.bytes.now inner c.in_ok-rest.rest.now end c.in_ok-inner.ensures c.plain_end-end.ensures.inside (sym all ∙ c.in_ok-rest.ensures)
