use Rattle.std.proofs.Common.{ap, ◌∙◌, arith}
use Rattle.bucket_core.specs.Rule.{ends_from}
use Rattle.bucket_core.proofs.Ends.{ends_cover, end_read, end_of-le}
use Rattle.bucket_core.proofs.rule.Rule.end_of.Goals as goal

pub index-requires : goal.index-requires
index-requires c =
    let are = c.self.invariant.ends ∙ ap (ends_from 0) c.self.view_is in
    omega (arith, ends_cover c.args.self.now c.self.inside.ends.items c.args.i are c.requires, c.self.inside.ends.ok.0)

pub returns-clause-value : goal.returns-clause-value
returns-clause-value c =
    let are = c.self.invariant.ends ∙ ap (ends_from 0) c.self.view_is in
    end_read c.args.self.now c.self.inside.ends.items c.args.i are c.requires c.index.result.now c.index.ensures

pub returns-clause-bound : goal.returns-clause-bound
returns-clause-bound c =
    let are = c.self.invariant.ends ∙ ap (ends_from 0) c.self.view_is in
    let is = end_read c.args.self.now c.self.inside.ends.items c.args.i are c.requires c.index.result.now c.index.ensures in
    omega (arith, is, end_of-le c.args.self.now c.args.i c.requires)
