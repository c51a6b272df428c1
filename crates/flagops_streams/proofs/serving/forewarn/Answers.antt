use Rattle.std.proofs.Common.{◌≡◌, ◌∙◌, ◌+◌, ◌-◌, ◌<◌, ℕ, List, Vec, Global, Some, ap, arith, get_or, length, map, option_map, refl, slice_get, sym}
use Rattle.std.proofs.lemmas.Option.{slice_get-get_or, slice_get-map}
use Rattle.flagops_streams.specs.Documents.{IsRefusedAt, texts_of}
use Rattle.flagops_streams.proofs.Told.{refused_at, warned_more}
use Rattle.flagops_streams.proofs.serving.forewarn.Goals as goal

-- the bytes of a document behind the first are those at its place, from 1
bytes_at : (texts : List (Vec ℕ Global)) (i : ℕ) (text : Vec ℕ Global) (bytes : List ℕ) → i + 1 < length texts → text ≡ get_or texts (i + 1) text → bytes ≡ text.items → slice_get (texts_of texts) (i + 2 - 1) ≡ Some bytes
bytes_at texts i text bytes inside is same =
    let place : i + 2 - 1 ≡ i + 1 = omega arith in
    let items = λ (t : Vec ℕ Global). t.items in
    ap (slice_get (texts_of texts)) place ∙ slice_get-map items texts (i + 1)
    ∙ ap (option_map items) (slice_get-get_or texts (i + 1) text inside ∙ ap Some (sym is)) ∙ ap Some (sym same)

pub loop-behind-preserved : goal.loop-behind-preserved
loop-behind-preserved g c =
    let so_far = c.loop-behind.invariant in
    let more = c.forewarn_of.ensures in
    let behind = c.loop-behind.behind in
    let paths = map (λ p. p.now) c.args.paths.now in
    let Is = IsRefusedAt c.args.floats (texts_of c.args.texts.now) in
    let inside : behind + 1 < length c.args.texts.now = omega (arith, c.loop-behind-test.true, c.saturating_sub-behind-end.ensures) in
    let there = bytes_at c.args.texts.now behind c.index-texts-behind.result c.as_slice.result.now inside c.index-texts-behind.is c.as_slice.ensures.value in
    let told = refused_at paths c.args.floats (texts_of c.args.texts.now) c.as_slice.result.now (behind + 2) _ _ _ there more.told in
    (warned_more _ _ more.stays paths Is behind (behind + 2) _ _ _ refl so_far.0 told, λ works. so_far.1 (more.stays works))
