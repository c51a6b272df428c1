use Rattle.std.proofs.Common.{◌≡◌, drop, map}
use Rattle.flagops_service.specs.Rereading.{Kept, ReadsFrom, kept_of}
use Rattle.flagops_service.proofs.watched.Watched.read_again.Given as goal

-- what reading the documents that are left leads to, reading all of them does
abbrev pub invariant-loop-place : goal.invariant-loop-place
invariant-loop-place g l =
    ((new : Kept) → ReadsFrom (g.F.FileSet.holding l.fn.files) l.fn.self.broken (map (λ path. path.now) (drop l.place l.paths)) l.place (kept_of l.self) new
    → ReadsFrom (g.F.FileSet.holding l.fn.files) l.fn.self.broken (map (λ path. path.now) l.paths) 0 (kept_of l.fn.self) new)
    × (g.F.FileSet.holding l.files ≡ g.F.FileSet.holding l.fn.files)
    × (l.self.broken ≡ l.fn.self.broken)
    × (l.self.paths ≡ l.fn.self.paths)
