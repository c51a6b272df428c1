use borrow.Author.Rules.{rules}
use denote.Param.{param}
use denote.Param.Send.{IsSend, sendable}
use Rattle.std_alloc.specs.contracts.vec.Vec as Vec
use Rattle.std_alloc.proofs.SendSync.{crosses}
use Rattle.std.proofs.lemmas.Result.{IfOk-at_ok}
use Rattle.std.specs.Fork.Halves.{GivesFor}
use Rattle.book_share.proofs.Halving.{accepts_halves, jobs_halves}
use Rattle.book_share.proofs.jobs.+jobs.Goals as goal

pub join-a-requires : goal.join-a-requires
join-a-requires g t c κs =
    let cut = c.in_ok-high.ensures in
    let both = accepts_halves g.F.Fn c.args.f.now _ _ _ _ cut.items cut.tail c.requires in
    let low = both.0 in let high = both.1 in
    let jobs : IsSend (Vec.the_row (param 1 g.row.J) (param 3 g.row.A) g.A.Allocator) = search (sendable, crosses) in
    (search sendable depth 20, (search (sendable, crosses) depth 20, (search rules, search rules)))

pub returns : goal.returns
returns g t c =
    let f = c.args.f.now in let cut = c.in_ok-high.ensures in
    jobs_halves g.F.Fn f _ _ _ _ _ _ _ cut.items cut.tail c.in_ok-append.ensures.items
    (IfOk-at_ok (λ v. GivesFor g.F.Fn f _ v.items) c.in_ok-all.was c.join-a.ensures.first)
    (IfOk-at_ok (λ v. GivesFor g.F.Fn f _ v.items) c.in_ok-rest.was c.join-a.ensures.second)
