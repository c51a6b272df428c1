use Rattle.std.proofs.Common.{◌∙◌, Option, get_or, subst, sym}
use Rattle.std.proofs.lemmas.List.{get_or_default}
use Rattle.flagops_shell.specs.Files.{Holding}
use Rattle.flagops_service.specs.Rereading.{ReadsOne, kept_of}
use Rattle.flagops_service.specs.declared.asked.OnBroken.{OnBroken}
use Rattle.flagops_service.proofs.Reread.{no_path, one_read}
use Rattle.flagops_service.proofs.watched.Watched.read_again.Goals as goal

-- one document more was read
pub loop-place-preserved : goal.loop-place-preserved
loop-place-preserved g c =
    let l = c.loop-place in
    let paths = c.args.self.now.paths.now in
    let holding = g.F.FileSet.holding c.args.files.now in
    let mode = c.args.self.now.broken in
    let read = c.read_one-taken in
    let path = get_or paths l.place no_path in
    let is = sym (get_or_default paths l.place no_path path c.loop-place-test.true) in
    let here = subst (λ (m : OnBroken). ReadsOne (g.F.FileSet.holding l.files) m path.now l.place (kept_of l.self) (kept_of read.new.self) read.result) l.invariant.2 read.ensures.reads in
    let reads = subst (λ (h : Option Holding). ReadsOne h mode path.now l.place (kept_of l.self) (kept_of read.new.self) read.result) l.invariant.1 here in (
      λ new rest. l.invariant.0 new (one_read holding mode (λ p. p.now) paths l.place path c.loop-place-test.true is (kept_of l.self) (kept_of read.new.self) new read.result reads rest),
      read.ensures.kept ∙ l.invariant.1,
      read.ensures.mode ∙ l.invariant.2,
      read.ensures.paths ∙ l.invariant.3,
    )
