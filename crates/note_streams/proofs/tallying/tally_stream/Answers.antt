use Rattle.std.proofs.Common.{◌≡◌, ◌+◌, ◌-◌, ◌∙◌, ℕ, nat_eq, List, [], length, Result, Err, ap, length-append, drop, ◌++◌, sym, subst, arith, rules}
use Rattle.std.proofs.lemmas.List.{length-take-le}
use Rattle.std.proofs.lemmas.Result.{err_from_is_err_and}
use Rattle.byte_streams.specs.Fill.{Grows}
use Rattle.note_tallies.specs.Lines.{untallied}
use Rattle.note_tallies.specs.Filter.{Filtered}
use Rattle.note_streams.specs.Batch.{LeavesLines, TalliesBatch}
use Rattle.note_streams.specs.Stop.{tallied_fill}
use Rattle.note_streams.specs.declared.tallying.StreamTally.{StreamTally}
use Rattle.note_streams.specs.declared.stop.TallyStop.{TallyStop}
use Rattle.note_streams.proofs.StreamCounting.{Known, begun}
use Rattle.note_streams.proofs.Ends.{Comes, ended, failed, next_batch, too_long, unfilled, wanted}
use Rattle.note_streams.proofs.tallying.tally_stream.Goals as goal

pub batches-init : goal.batches-init
batches-init g c =
    let start = untallied c.args.page c.args.total in
    let known = g.I.Inlet.bytes c.args.input.now in
    let f = c.in_ok-filter.filter in
    let empty : c.new-held.result.items ≡ [] = search rules in
    let none : f.lines ≡ 0 = ap (λ (x : Filtered). x.lines) c.in_ok-filter.ensures in
    record {
      unbroken = c.requires.unbroken;
      room = search rules;
      short = omega (arith, ap length empty);
      few = omega (arith, ap length empty, none);
      goes = subst (λ (t : List ℕ). Known start t 0 f known known) (sym empty) (begun start f known c.in_ok-filter.ensures);
    }

pub batches-preserved : goal.batches-preserved
batches-preserved g c =
    let start = untallied c.args.page c.args.total in
    let known = g.I.Inlet.bytes c.args.input.now in
    let now = g.I.Inlet.bytes c.batches.input in
    let next = g.I.Inlet.bytes c.fill.new.input in
    let before = c.batches.held.items in
    let after = c.fill.new.batch.items in
    let rest = c.in_ok-rest.rest.now in
    let old = c.batches.filter in
    let new = c.tally_batch.new.filter in
    let own : c.in_ok-held.held.items ≡ rest = search rules in
    let grows : Grows now next before after = c.in_ok-ended.ensures.grows in
    let same : c.as_slice.result.now ≡ after = search rules in
    let leaves = subst (λ (t : List ℕ). LeavesLines t rest old new) same c.in_ok-rest.ensures in
    let more : length after ≡ length before + length grows.added = ap length grows.batch ∙ length-append before grows.added in
    let p = c.fill.new.piece in
    let items = c.batches.piece.items in
    let full : length p ≡ 1048576 = c.fill.ensures.room ∙ ap length c.as_mut_slice.ensures.value ∙ c.batches.invariant.room in
    let both = length-append p (drop (length p) items) in
    let cut = length-take-le c.batches.piece.len (p ++ drop (length p) items) (omega (arith, full, both, c.batches.piece.ok.0, c.batches.invariant.room)) in
    let size : c.batches.taken + (length after - length before) ≡ c.batches.taken + (c.len.result - c.len-had.result) = search rules in
    record {
      unbroken = c.in_ok-ended.ensures.unbroken;
      room = omega (arith, cut, c.batches.piece.ok.0, c.batches.invariant.room);
      short = omega (arith, ap length own, leaves.short);
      few = omega (arith, ap length own, leaves.few, c.batches.invariant.few, more);
      goes = subst (λ (n : ℕ). Known start c.in_ok-held.held.items n new known next) size (subst (λ (t : List ℕ). Known start t (c.batches.taken + (length after - length before)) new known next) (sym own)
          (next_batch start (g.I.Inlet.is_broken c.fill.new.input) known before after rest c.batches.taken old new now next grows leaves c.batches.invariant.goes));
    }

pub returns-in_err-piece : goal.returns-in_err-piece
returns-in_err-piece g c =
    let p = err_from_is_err_and c.from_residual.result c.from_residual.ensures.1 in
    rw (p.1, p.2) (wanted (untallied c.args.page c.args.total) (g.I.Inlet.is_broken c.args.input.now) (g.I.Inlet.bytes c.args.input.now))

pub returns-in_err-filter : goal.returns-in_err-filter
returns-in_err-filter g c =
    let p = err_from_is_err_and c.from_residual-in_err-filter.result c.from_residual-in_err-filter.ensures.1 in
    rw (p.1, p.2) (wanted (untallied c.args.page c.args.total) (g.I.Inlet.is_broken c.args.input.now) (g.I.Inlet.bytes c.args.input.now))

pub returns-in_err-ended : goal.returns-in_err-ended
returns-in_err-ended g c =
    let start = untallied c.args.page c.args.total in
    let known = g.I.Inlet.bytes c.args.input.now in
    let cut = g.I.Inlet.is_broken c.fill.new.input in
    let fault = c.in_err-ended.field-0.0 in
    let p = err_from_is_err_and c.from_residual-in_err-ended.result c.from_residual-in_err-ended.ensures.1 in
    let is : c.from_residual-in_err-ended.result ≡ Err (tallied_fill fault) = p.1 ∙ ap Err p.2 in
    subst (λ (r : Result StreamTally TallyStop). Comes start cut known r) (sym is) (unfilled start cut known fault c.in_err-ended.ensures.broken)

pub returns-in_err-rest : goal.returns-in_err-rest
returns-in_err-rest g c =
    let start = untallied c.args.page c.args.total in
    let known = g.I.Inlet.bytes c.args.input.now in
    let cut = g.I.Inlet.is_broken c.fill.new.input in
    let now = g.I.Inlet.bytes c.batches.input in
    let next = g.I.Inlet.bytes c.fill.new.input in
    let before = c.batches.held.items in
    let after = c.fill.new.batch.items in
    let e = c.in_err-rest.field-0.0 in
    let same : c.as_slice.result.now ≡ after = search rules in
    let batch = subst (λ (t : List ℕ). TalliesBatch t c.batches.filter c.tally_batch.new.filter (Err e)) same c.in_err-rest.ensures in
    let grows : Grows now next before after = c.in_ok-ended.ensures.grows in
    let p = err_from_is_err_and c.from_residual-in_err-rest.result c.from_residual-in_err-rest.ensures.1 in
    let is : c.from_residual-in_err-rest.result ≡ Err e = p.1 ∙ ap Err p.2 in
    subst (λ (r : Result StreamTally TallyStop). Comes start cut known r) (sym is) (failed start cut known before after c.batches.taken c.batches.filter c.tally_batch.new.filter now next e grows batch c.batches.invariant.goes)

pub returns-then-ended : goal.returns-then-ended
returns-then-ended g c =
    let start = untallied c.args.page c.args.total in
    let known = g.I.Inlet.bytes c.args.input.now in
    let cut = g.I.Inlet.is_broken c.fill.new.input in
    let now = g.I.Inlet.bytes c.batches.input in
    let next = g.I.Inlet.bytes c.fill.new.input in
    let before = c.batches.held.items in
    let after = c.fill.new.batch.items in
    let rest = c.in_ok-rest.rest.now in
    let old = c.batches.filter in
    let new = c.tally_batch.new.filter in
    let grows : Grows now next before after = c.in_ok-ended.ensures.grows in
    let same : c.as_slice.result.now ≡ after = search rules in
    let leaves = subst (λ (t : List ℕ). LeavesLines t rest old new) same c.in_ok-rest.ensures in
    let goes = next_batch start cut known before after rest c.batches.taken old new now next grows leaves c.batches.invariant.goes in
    let taken : c.batches.taken + (length after - length before) ≡ c.batches.taken + (c.len.result - c.len-had.result) = search rules in
    ended start cut known rest (c.batches.taken + (length after - length before)) new next c.stream_tally.result leaves.none leaves.short (c.in_ok-ended.ensures.ended c.if-ended.true) (c.stream_tally.ensures.tally ∙ c.finish.ensures) c.stream_tally.ensures.torn
    (c.stream_tally.ensures.empty ∙ ap (λ (n : ℕ). nat_eq n 0) (sym taken)) goes

pub returns-in_err-held : goal.returns-in_err-held
returns-in_err-held g c =
    let start = untallied c.args.page c.args.total in
    let known = g.I.Inlet.bytes c.args.input.now in
    let cut = g.I.Inlet.is_broken c.fill.new.input in
    let p = err_from_is_err_and c.from_residual-in_err-held.result c.from_residual-in_err-held.ensures.1 in
    rw (p.1, p.2) (wanted start cut known)

pub returns : goal.returns
returns g c =
    too_long (untallied c.args.page c.args.total) (g.I.Inlet.is_broken c.batches.input) (g.I.Inlet.bytes c.args.input.now) c.batches.held.items c.batches.taken c.batches.filter (g.I.Inlet.bytes c.batches.input) (omega arith) c.batches.invariant.goes

pub batches-smaller : goal.batches-smaller
batches-smaller g c =
    let full = c.in_ok-ended.ensures.full c.if-ended.false in
    omega (arith, full, c.batches.invariant.short)
