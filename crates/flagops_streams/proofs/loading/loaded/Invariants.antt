use Rattle.std.proofs.Common.{◌≡◌, drop, map, IfSome}
use Rattle.flagops_streams.specs.Documents.{documents_in}
use Rattle.flagops_streams.specs.Loading.{documents_view, loaded_at, loaded_from, refused_at, refused_from}
use Rattle.flagops_streams.proofs.loading.loaded.Given as goal

-- The paths left give what all of them give, and the first of them that is refused is that of all. A document for each path so far, of which each could be read, and files that are
-- only read.
abbrev pub invariant-loop-named : goal.invariant-loop-named
invariant-loop-named g l =
    IfSome (g.F.FileSet.holding l.fn.files) (λ at. loaded_from at (documents_view l.documents) (map (λ path. path.now) (drop l.named-index l.paths)) ≡ loaded_at at (map (λ path. path.now) l.paths))
    × (documents_in l.documents ≡ l.named-index) × (g.F.FileSet.has_failed l.files ≡ g.F.FileSet.has_failed l.fn.files) × (g.F.FileSet.holding l.files ≡ g.F.FileSet.holding l.fn.files)
    × IfSome (g.F.FileSet.holding l.fn.files) (λ at. refused_from at (documents_view l.documents) (map (λ path. path.now) (drop l.named-index l.paths)) ≡ refused_at at (map (λ path. path.now) l.paths))
