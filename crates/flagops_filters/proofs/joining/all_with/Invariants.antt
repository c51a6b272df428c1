use Rattle.std.proofs.Common.{◌≡◌, drop, map}
use Rattle.flagops_filters.proofs.Joins.{Known}
use Rattle.flagops_filters.proofs.joining.all_with.Given as goal

-- what the paths left come to with the tally so far, all come to with the first one, which it is before the first path; the files are only read
abbrev pub invariant-loop-path : goal.invariant-loop-path
invariant-loop-path g l = record {
  leads : Known (g.F.FileSet.holding l.fn.files) l.fn.one (map (λ p. p.now) l.paths) l.all (map (λ p. p.now) (drop l.path-index l.paths));
  first : l.path-index ≡ 0 → l.all ≡ l.fn.one;
  failed : g.F.FileSet.has_failed l.files ≡ g.F.FileSet.has_failed l.fn.files;
  kept : g.F.FileSet.holding l.files ≡ g.F.FileSet.holding l.fn.files;
}
