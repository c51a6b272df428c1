use mathlib.Core.Path.{refl}
use borrow.Author.Rules.{rules}
use Rattle.std.proofs.lemmas.Fn.{says}
use Rattle.book_share.proofs.Halving.{accepts_last, job_only}
use Rattle.book_share.proofs.jobs.at_most_one.Goals as goal

pub f-requires : goal.f-requires
f-requires g c = accepts_last g.F.Fn c.args.f.now _ c.pop.new.self.items c.in-Some.job c.in-Some.ensures.items c.requires.accepts

pub returns : goal.returns
returns g c =
    job_only g.F.Fn c.args.f.now _ c.pop.new.self.items c.in-Some.job _ _ c.f.result (search rules) c.in-Some.ensures.items
    c.new-done.ensures.items c.in_ok-push.ensures.items (says g.F.Fn c.f.ensures refl)
