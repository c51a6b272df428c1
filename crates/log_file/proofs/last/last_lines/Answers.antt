use Rattle.std.proofs.Common.{ℕ, List, IfSome, rules, sym, subst}
use Rattle.log_file.specs.Last.{AreLastLines}
use Rattle.log_file.proofs.LastLines.{last_read}
use Rattle.log_file.proofs.last.last_lines.Goals as goal

pub returns-clause-last : goal.returns-clause-last
returns-clause-last g c =
    let bytes = g.F.LogFile.bytes c.args.file.now in
    let shown = c.in_ok-last.last.items in
    let n = c.whole_lines-whole.result in
    subst (λ (l : List ℕ). IfSome bytes (λ bs. AreLastLines c.args.most bs l)) (sym c.truncate.ensures.items)
    (last_read c.args.most c.args.len c.in_ok-start.start n bytes shown c.requires.length c.requires.whole c.in_ok-start.ensures.start c.in_ok-last.ensures.count c.in_ok-last.ensures.shown (search rules))
