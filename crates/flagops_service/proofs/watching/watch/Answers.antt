use Rattle.std.proofs.Common.{◌∙◌, ℕ, Bor, List, [], ◌∷◌, ◌++◌, Option, ap, inl, is_some, map, refl, subst, sym}
use Rattle.control_desk.specs.Sources.{Source}
use Rattle.flag_defs.specs.declared.flags.Flags.{Flags}
use Rattle.source_merge.specs.View.{sources_view}
use Rattle.flagops_streams.specs.Documents.{texts_of}
use Rattle.flagops_service.specs.Merging.{Publishes}
use Rattle.flagops_service.specs.Rereading.{kept_of, state_of}
use Rattle.flagops_service.proofs.Alone.{reads_alone}
use Rattle.flagops_service.proofs.Reread.{one_turn, reads_as}
use Rattle.flagops_service.proofs.watching.watch.Goals.{then-waits, else-waits}
use Rattle.flagops_service.proofs.watching.watch.Goals as goal

-- no turn was made yet
pub loop-turn-init : goal.loop-turn-init
loop-turn-init g c = (([], refl), refl, refl, refl, c.requires.read)

-- one turn more
pub loop-turn-preserved : goal.loop-turn-preserved
loop-turn-preserved g c =
    let l = c.loop-turn in
    let old = c.args.watched.now in
    let holding = g.F.FileSet.holding c.args.files.now in
    let paths = map (λ (p : Bor (List ℕ)). p.now) old.paths.now in
    let read = c.read_again-waits in
    let now = read.new.self in
    let last = c.if-waits.publisher in
    let shown = c.if-waits.shown in
    let desks = is_some c.args.answering.now.admin in
    let published : Publishes (sources_view now.sources) (texts_of now.accepted.items) desks l.publisher last l.shown shown =
    elim c.if-waits.branch [
      | then-waits w ↦
          subst (λ (all : List Flags). Publishes (sources_view now.sources) (texts_of now.accepted.items) desks l.publisher all l.shown shown) (sym w.publisher-is)
          (subst (λ (s : Option Source). Publishes (sources_view now.sources) (texts_of now.accepted.items) desks l.publisher w.publish-waits.new.publisher l.shown s) (sym w.shown-is) w.publish-waits.ensures)
      | else-waits w ↦ inl (w.publisher-is, w.shown-is)
    ] in
    let held = c.show_sizes.ensures ∙ l.invariant.1 in
    let reads = reads_as (g.F.FileSet.holding c.show_sizes.new.files) holding l.watched.broken old.broken (map (λ (p : Bor (List ℕ)). p.now) l.watched.paths.now) paths (kept_of l.watched) (kept_of now) held l.invariant.2 (ap (λ ps. map (λ (p : Bor (List ℕ)). p.now) ps.now) l.invariant.3) read.ensures.reads in
    let so_far = l.invariant.0 in (
      (
        so_far.0 ++ state_of now last shown ∷ [],
        one_turn holding old.broken paths desks so_far.0 (state_of old c.args.publisher.now c.args.shown.now) (state_of l.watched l.publisher l.shown) (state_of now last shown) so_far.1 (inl reads, published),
      ),
      c.renew.ensures.kept ∙ read.ensures.kept ∙ held,
      read.ensures.mode ∙ l.invariant.2,
      read.ensures.paths ∙ l.invariant.3,
      reads_alone holding old.broken paths 0 (kept_of l.watched) (kept_of now) reads l.invariant.4,
    )

-- where one document is watched, its source is the only one
pub publish-waits-requires : goal.publish-waits-requires
publish-waits-requires g c =
    let l = c.loop-turn in
    let read = c.read_again-waits in
    let held = c.show_sizes.ensures ∙ l.invariant.1 in
    reads_alone (g.F.FileSet.holding c.show_sizes.new.files) l.watched.broken (map (λ (p : Bor (List ℕ)). p.now) l.watched.paths.now) 0 (kept_of l.watched) (kept_of read.new.self) read.ensures.reads l.invariant.4
