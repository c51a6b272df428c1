use Rattle.std.proofs.Common.{◌≡◌, drop, map, take, IfSome}
use Rattle.flagops_books.proofs.Following.{Ahead, Goes}
use Rattle.flagops_books.proofs.uniting.united.Given as goal

-- what the paths left come to with the notes so far, all come to; the files are only read
abbrev pub invariant-loop-path : goal.invariant-loop-path
invariant-loop-path g l = record {
  goes : IfSome (g.F.FileSet.holding l.fn.files) (λ at. Goes at l.passing (map (λ p. p.now) l.paths) (map (λ p. p.now) (drop l.path-index l.paths)) l.all);
  ahead : IfSome (g.F.FileSet.holding l.fn.files) (λ at. Ahead at l.passing (map (λ p. p.now) l.paths) (map (λ p. p.now) (take l.path-index l.paths)) (map (λ p. p.now) (drop l.path-index l.paths)) l.all);
  failed : g.F.FileSet.has_failed l.files ≡ g.F.FileSet.has_failed l.fn.files;
  kept : g.F.FileSet.holding l.files ≡ g.F.FileSet.holding l.fn.files;
}
