use Rattle.std.proofs.Common.{◌≡◌, ◌+◌, ◌-◌, ◌≤◌, ◌++◌, ◌∷◌, [], List, ℕ, length, replicate, take, subst, sym, ap, ◌∙◌, arith, rules}
use Rattle.std.proofs.lemmas.List.{nil_from_length, length-replicate}
use Rattle.note_tallies.specs.Counts.{AreCounted}
use Rattle.note_tallies.specs.Reading.{AreSmall}
use Rattle.note_tallies.proofs.Counting.{next_counts, next_reach, resized, end_text, small_append, small_zeros}
use Rattle.note_tallies.proofs.counts.read_counts.Goals as goal

pub lines-preserved : goal.lines-preserved
lines-preserved c =
    let counts = c.lines.counts.items in
    let e = c.in-Some.count in
    let new = c.add_count.new.counts.items in
    let high : length counts ≤ e.point = search rules in
    let next = c.in-Some.ensures in
    let is : new ≡ counts ++ replicate (e.point - length counts) 0 ++ e.inputs ∷ [] = c.in_ok-add_count.ensures in
    record {
      counted = next_counts c.args.bytes.now c.lines.rest.now c.in-Some.more.now counts new c.args.total c.lines.line e c.lines.invariant.counted next.0 next.1 high is;
      reach = next_reach (counts ++ replicate (e.point - length counts) 0) new e.inputs next.0.some is;
    }

pub returns-clause-text : goal.returns-clause-text
returns-clause-text c =
    let counts = c.lines.counts.items in
    let none : c.lines.rest.now ≡ [] = nil_from_length c.lines.rest.now (search rules) in
    let are : AreCounted c.args.bytes.now c.args.total counts [] c.lines.line = subst (λ (r : List ℕ). AreCounted c.args.bytes.now c.args.total counts r c.lines.line) none c.lines.invariant.counted in
    let new = c.resize.new.self.items in
    let is : new ≡ take c.args.total counts ++ replicate (c.args.total - length counts) 0 = search rules in
    end_text c.args.bytes.now counts new c.args.total c.lines.line are (resized counts new c.args.total (length counts) are.whole (λ i. length counts) is)

pub returns-clause-small : goal.returns-clause-small
returns-clause-small c =
    let counts = c.lines.counts.items in
    let are = c.lines.invariant.counted in
    let new = c.resize.new.self.items in
    let is : new ≡ take c.args.total counts ++ replicate (c.args.total - length counts) 0 = search rules in
    subst AreSmall (sym (resized counts new c.args.total (length counts) are.whole (λ i. length counts) is)) (small_append counts (replicate (c.args.total - length counts) 0) are.small (small_zeros (c.args.total - length counts)))
