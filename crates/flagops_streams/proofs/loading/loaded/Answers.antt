use Rattle.std.proofs.Common.{arith, ◌≡◌, ◌+◌, ◌∙◌, Err, Ok, ap, drop, false, map, sym}
use Rattle.std.proofs.lemmas.List.{drop_all}
use Rattle.flagops_streams.specs.Refusal.{is_want}
use Rattle.flagops_streams.specs.Loading.{documents_view, loaded_at, loaded_from, refused_at, refused_from}
use Rattle.flagops_streams.proofs.DocumentsLoaded.{both_known, first_left, one_of, refused_first, refused_next, where_known}
use Rattle.flagops_streams.proofs.loading.loaded.Goals as goal

pub returns-in-Err-clause-exact : goal.returns-in-Err-clause-exact
returns-in-Err-clause-exact g c =
    let l = c.loop-named in
    let paths = c.args.paths.now in
    let d = documents_view l.documents in
    let refusal = c.in-Err.refusal in
    both_known (g.F.FileSet.holding c.args.files.now) (g.F.FileSet.holding l.files)
    (λ at. loaded_from at d (map (λ p. p.now) (drop l.named-index paths)) ≡ loaded_at at (map (λ p. p.now) paths))
    (λ at. is_want refusal ≡ false → loaded_at at (map (λ p. p.now) paths) ≡ Err refusal)
    l.invariant.3 l.invariant.0 c.in-Err.ensures.exact
    (λ at so_far next other.
    refused_next at d _ (map (λ p. p.now) (drop l.named-index paths)) (map (λ p. p.now) (drop (l.named-index + 1) paths)) (loaded_at at (map (λ p. p.now) paths)) refusal so_far (next other)
    (first_left (λ p. p.now) paths l.named-index _ (omega arith)))

pub returns-in-Err-clause-names : goal.returns-in-Err-clause-names
returns-in-Err-clause-names g c = λ wanted.
    let l = c.loop-named in
    let paths = c.args.paths.now in
    let d = documents_view l.documents in
    let refusal = c.in-Err.refusal in
    both_known (g.F.FileSet.holding c.args.files.now) (g.F.FileSet.holding l.files)
    (λ at. refused_from at d (map (λ p. p.now) (drop l.named-index paths)) ≡ refused_at at (map (λ p. p.now) paths)) _
    l.invariant.3 l.invariant.4 c.in-Err.ensures.exact
    (λ at so_far next.
    refused_first at d _ (map (λ p. p.now) (drop l.named-index paths)) (map (λ p. p.now) (drop (l.named-index + 1) paths)) (refused_at at (map (λ p. p.now) paths)) refusal so_far (next wanted)
    (first_left (λ p. p.now) paths l.named-index _ (omega arith)))

pub returns-clause-exact : goal.returns-clause-exact
returns-clause-exact g c =
    let l = c.loop-named in
    let paths = c.args.paths.now in
    let d = documents_view l.documents in
    where_known (g.F.FileSet.holding c.args.files.now)
    (λ at. loaded_from at d (map (λ p. p.now) (drop l.named-index paths)) ≡ loaded_at at (map (λ p. p.now) paths)) (λ at. loaded_at at (map (λ p. p.now) paths) ≡ Ok d)
    (λ at so_far. sym so_far ∙ ap (λ ps. loaded_from at d (map (λ p. p.now) ps)) (drop_all l.named-index paths c.loop-named-test.false))
    l.invariant.0

pub returns-in-Err-clause-one : goal.returns-in-Err-clause-one
returns-in-Err-clause-one g c = one_of (λ p. p.now) c.args.paths.now c.loop-named.named-index _ (omega arith)
