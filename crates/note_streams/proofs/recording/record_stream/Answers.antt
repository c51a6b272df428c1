use Rattle.std.proofs.Common.{◌≡◌, ◌+◌, ◌-◌, ◌∙◌, ℕ, nat_eq, IfSome, List, [], length, Result, Err, ap, length-append, drop, ◌++◌, sym, subst, arith, rules}
use Rattle.std.proofs.lemmas.List.{length-take-le}
use Rattle.std.proofs.lemmas.Result.{err_from_is_err_and}
use Rattle.byte_streams.specs.Fill.{Grows}
use Rattle.note_streams.specs.Outcomes.{contexts}
use Rattle.note_streams.specs.Scene.{scene_of}
use Rattle.note_streams.specs.View.{outcomes_view}
use Rattle.note_streams.specs.declared.outcomes.Outcomes as code
use Rattle.note_streams.specs.Batch.{CountsBatch, Leaves, RecordsBatch}
use Rattle.note_streams.specs.Recorded.{recorded_of}
use Rattle.note_streams.specs.Stop.{is_output_fault, of_fill}
use Rattle.note_streams.specs.declared.recording.Counted.{Counted}
use Rattle.note_streams.specs.declared.stop.RecordStop.{RecordStop}
use Rattle.note_streams.specs.declared.stop.RecordStop.TheVariants.{WantOfMemory}
use Rattle.note_streams.proofs.Batches.{Known, begun}
use Rattle.note_streams.proofs.Counts.{KnownCounts, ended_counts, first_counts, next_batch_counts}
use Rattle.note_streams.proofs.Exits.{Comes, ended, failed, next_batch, no_output_fault, told, too_long, unfilled, wanted, wanted_first}
use Rattle.note_streams.proofs.recording.record_stream.Goals as goal

pub batches-init : goal.batches-init
batches-init g c =
    let s = scene_of c.args.recorder.now in
    let start = g.I.Inlet.bytes c.args.input.now in
    let old = g.O.Outlet.bytes c.args.out.now in
    let empty : c.new-held.result.items ≡ [] = search rules in
    record {
      unbroken = c.requires.unbroken;
      whole = c.requires.whole;
      room = search rules;
      short = omega (arith, ap length empty);
      few = omega (arith, ap length empty);
      fewer = omega (arith, ap contexts c.none.ensures);
      counts = subst (λ (t : List ℕ). KnownCounts s t (outcomes_view c.none.result) start start) (sym empty) (first_counts s (outcomes_view c.none.result) start c.none.ensures);
      stands = subst (λ (t : List ℕ). Known s t 0 0 start start old old) (sym empty) (begun s start old);
    }

pub batches-preserved : goal.batches-preserved
batches-preserved g c =
    let s = scene_of c.args.recorder.now in
    let start = g.I.Inlet.bytes c.args.input.now in
    let old = g.O.Outlet.bytes c.args.out.now in
    let i = c.batches.invariant in
    let before = c.batches.held.items in
    let after = c.fill.new.batch.items in
    let rest = c.in_ok-rest.rest.now in
    let kept = c.in_ok-held.held.items in
    let own : kept ≡ rest = search rules in
    let grows : Grows (g.I.Inlet.bytes c.batches.input) (g.I.Inlet.bytes c.fill.new.input) before after = c.in_ok-ended.ensures.grows in
    let same : c.as_slice.result.now ≡ after = search rules in
    let leaves = subst (λ (t : List ℕ). Leaves s t rest c.batches.totals.lines c.record_batch.new.totals.lines (g.O.Outlet.bytes c.batches.out) (g.O.Outlet.bytes c.record_batch.new.out)) same c.in_ok-rest.ensures.exact in
    let counted = outcomes_view c.batches.totals.outcomes in
    let now_counted = outcomes_view c.record_batch.new.totals.outcomes in
    let counts = subst (λ (t : List ℕ). CountsBatch s t rest counted now_counted) same c.in_ok-rest.ensures.counted in
    let more : length after ≡ length before + length grows.added = ap length grows.batch ∙ length-append before grows.added in
    let p = c.fill.new.piece in
    let items = c.batches.piece.items in
    let full : length p ≡ 1048576 = c.fill.ensures.room ∙ ap length c.as_mut_slice.ensures.value ∙ c.batches.invariant.room in
    let both = length-append p (drop (length p) items) in
    let cut = length-take-le c.batches.piece.len (p ++ drop (length p) items) (omega (arith, full, both, c.batches.piece.ok.0, c.batches.invariant.room)) in
    let size : c.batches.taken + (length after - length before) ≡ c.batches.taken + (c.len.result - c.len-had.result) = search rules in
    let next = g.I.Inlet.bytes c.fill.new.input in
    let lines = c.record_batch.new.totals.lines in
    let new = g.O.Outlet.bytes c.record_batch.new.out in
    record {
      unbroken = c.in_ok-ended.ensures.unbroken;
      whole = c.in_ok-rest.ensures.broken;
      room = omega (arith, cut, c.batches.piece.ok.0, c.batches.invariant.room);
      short = omega (arith, ap length own, leaves.short);
      few = omega (arith, ap length own, leaves.few, leaves.number, i.few, more);
      fewer = c.in_ok-rest.ensures.fewer;
      counts = subst (λ (t : List ℕ). KnownCounts s t now_counted start next) (sym own) (next_batch_counts s before after rest counted now_counted start (g.I.Inlet.bytes c.batches.input) next grows counts i.counts);
      stands = subst (λ (n : ℕ). Known s kept lines n start next old new) size (subst (λ (t : List ℕ). Known s t c.record_batch.new.totals.lines (c.batches.taken + (length after - length before)) start (g.I.Inlet.bytes c.fill.new.input) old (g.O.Outlet.bytes c.record_batch.new.out)) (sym own)
          (next_batch s (g.I.Inlet.is_broken c.fill.new.input) start old before after rest c.batches.totals.lines c.record_batch.new.totals.lines c.batches.taken (g.I.Inlet.bytes c.batches.input) (g.I.Inlet.bytes c.fill.new.input) (g.O.Outlet.bytes c.batches.out) (g.O.Outlet.bytes c.record_batch.new.out) grows leaves i.stands));
    }

pub returns-in_err-piece-clause-exact : goal.returns-in_err-piece-clause-exact
returns-in_err-piece-clause-exact g c =
    let start = g.I.Inlet.bytes c.args.input.now in
    let old = g.O.Outlet.bytes c.args.out.now in
    let p = err_from_is_err_and c.from_residual.result c.from_residual.ensures.1 in
    rw (p.1, p.2) (wanted_first (scene_of c.args.recorder.now) (g.I.Inlet.is_broken c.args.input.now) start old)

pub returns-in_err-ended-clause-exact : goal.returns-in_err-ended-clause-exact
returns-in_err-ended-clause-exact g c =
    let s = scene_of c.args.recorder.now in
    let start = g.I.Inlet.bytes c.args.input.now in
    let old = g.O.Outlet.bytes c.args.out.now in
    let new = g.O.Outlet.bytes c.batches.out in
    let cut = g.I.Inlet.is_broken c.fill.new.input in
    let fault = c.in_err-ended.field-0.0 in
    let p = err_from_is_err_and c.from_residual-in_err-ended.result c.from_residual-in_err-ended.ensures.1 in
    let is : c.from_residual-in_err-ended.result ≡ Err (of_fill fault) = p.1 ∙ ap Err p.2 in
    subst (λ (r : Result Counted RecordStop). Comes s cut start old new r) (sym is)
    (unfilled s cut start old c.batches.held.items c.batches.totals.lines c.batches.taken (g.I.Inlet.bytes c.batches.input) new fault c.in_err-ended.ensures.broken c.batches.invariant.stands)

pub returns-in_err-rest-clause-exact : goal.returns-in_err-rest-clause-exact
returns-in_err-rest-clause-exact g c =
    let s = scene_of c.args.recorder.now in
    let start = g.I.Inlet.bytes c.args.input.now in
    let old = g.O.Outlet.bytes c.args.out.now in
    let mid = g.O.Outlet.bytes c.batches.out in
    let new = g.O.Outlet.bytes c.record_batch.new.out in
    let cut = g.I.Inlet.is_broken c.fill.new.input in
    let before = c.batches.held.items in
    let after = c.fill.new.batch.items in
    let e = c.in_err-rest.field-0.0 in
    let same : c.as_slice.result.now ≡ after = search rules in
    let batch = subst (λ (t : List ℕ). RecordsBatch s t c.batches.totals.lines c.record_batch.new.totals.lines mid new (Err e)) same c.in_err-rest.ensures.exact in
    let grows : Grows (g.I.Inlet.bytes c.batches.input) (g.I.Inlet.bytes c.fill.new.input) before after = c.in_ok-ended.ensures.grows in
    let p = err_from_is_err_and c.from_residual-in_err-rest.result c.from_residual-in_err-rest.ensures.1 in
    let is : c.from_residual-in_err-rest.result ≡ Err e = p.1 ∙ ap Err p.2 in
    subst (λ (r : Result Counted RecordStop). Comes s cut start old new r) (sym is)
    (failed s cut start old before after c.batches.totals.lines c.record_batch.new.totals.lines c.batches.taken (g.I.Inlet.bytes c.batches.input) (g.I.Inlet.bytes c.fill.new.input) mid new e grows batch c.batches.invariant.stands)

pub returns-then-ended-clause-exact : goal.returns-then-ended-clause-exact
returns-then-ended-clause-exact g c =
    let s = scene_of c.args.recorder.now in
    let start = g.I.Inlet.bytes c.args.input.now in
    let old = g.O.Outlet.bytes c.args.out.now in
    let mid = g.O.Outlet.bytes c.batches.out in
    let new = g.O.Outlet.bytes c.record_batch.new.out in
    let cut = g.I.Inlet.is_broken c.fill.new.input in
    let now = g.I.Inlet.bytes c.batches.input in
    let next = g.I.Inlet.bytes c.fill.new.input in
    let before = c.batches.held.items in
    let after = c.fill.new.batch.items in
    let rest = c.in_ok-rest.rest.now in
    let lines = c.record_batch.new.totals.lines in
    let size = c.batches.taken + (length after - length before) in
    let grows : Grows now next before after = c.in_ok-ended.ensures.grows in
    let same : c.as_slice.result.now ≡ after = search rules in
    let leaves = subst (λ (t : List ℕ). Leaves s t rest c.batches.totals.lines lines mid new) same c.in_ok-rest.ensures.exact in
    let stands = next_batch s cut start old before after rest c.batches.totals.lines lines c.batches.taken now next mid new grows leaves c.batches.invariant.stands in
    ended s cut start old rest lines size next new leaves.none leaves.short (c.in_ok-ended.ensures.ended c.if-ended.true) stands

pub returns-then-ended-clause-told : goal.returns-then-ended-clause-told
returns-then-ended-clause-told g c =
    let s = scene_of c.args.recorder.now in
    let start = g.I.Inlet.bytes c.args.input.now in
    let old = g.O.Outlet.bytes c.args.out.now in
    let mid = g.O.Outlet.bytes c.batches.out in
    let new = g.O.Outlet.bytes c.record_batch.new.out in
    let cut = g.I.Inlet.is_broken c.fill.new.input in
    let now = g.I.Inlet.bytes c.batches.input in
    let next = g.I.Inlet.bytes c.fill.new.input in
    let before = c.batches.held.items in
    let after = c.fill.new.batch.items in
    let rest = c.in_ok-rest.rest.now in
    let lines = c.record_batch.new.totals.lines in
    let size = c.batches.taken + (length after - length before) in
    let grows : Grows now next before after = c.in_ok-ended.ensures.grows in
    let same : c.as_slice.result.now ≡ after = search rules in
    let leaves = subst (λ (t : List ℕ). Leaves s t rest c.batches.totals.lines lines mid new) same c.in_ok-rest.ensures.exact in
    let stands = next_batch s cut start old before after rest c.batches.totals.lines lines c.batches.taken now next mid new grows leaves c.batches.invariant.stands in
    let taken : size ≡ c.batches.taken + (c.len.result - c.len-had.result) = search rules in
    let counted = outcomes_view c.batches.totals.outcomes in
    let now_counted = outcomes_view c.record_batch.new.totals.outcomes in
    let counts = subst (λ (t : List ℕ). CountsBatch s t rest counted now_counted) same c.in_ok-rest.ensures.counted in
    let at_end = c.in_ok-ended.ensures.ended c.if-ended.true in
    let known = next_batch_counts s before after rest counted now_counted start now next grows counts c.batches.invariant.counts in
    let outcomes = subst (λ (o : code.Outcomes). IfSome start (λ bytes. outcomes_view o ≡ (recorded_of s bytes).outcomes)) (sym c.passed_over.ensures.outcomes) (ended_counts s rest now_counted start next leaves.none leaves.short at_end known) in
    told s cut start old rest lines size next new c.passed_over.result leaves.none at_end c.passed_over.ensures.torn (c.passed_over.ensures.empty ∙ ap (λ (n : ℕ). nat_eq n 0) (sym taken)) outcomes stands

pub returns-in_err-held-clause-exact : goal.returns-in_err-held-clause-exact
returns-in_err-held-clause-exact g c =
    let s = scene_of c.args.recorder.now in
    let start = g.I.Inlet.bytes c.args.input.now in
    let old = g.O.Outlet.bytes c.args.out.now in
    let mid = g.O.Outlet.bytes c.batches.out in
    let new = g.O.Outlet.bytes c.record_batch.new.out in
    let cut = g.I.Inlet.is_broken c.fill.new.input in
    let now = g.I.Inlet.bytes c.batches.input in
    let next = g.I.Inlet.bytes c.fill.new.input in
    let before = c.batches.held.items in
    let after = c.fill.new.batch.items in
    let rest = c.in_ok-rest.rest.now in
    let lines = c.record_batch.new.totals.lines in
    let size = c.batches.taken + (length after - length before) in
    let grows : Grows now next before after = c.in_ok-ended.ensures.grows in
    let same : c.as_slice.result.now ≡ after = search rules in
    let leaves = subst (λ (t : List ℕ). Leaves s t rest c.batches.totals.lines lines mid new) same c.in_ok-rest.ensures.exact in
    let stands = next_batch s cut start old before after rest c.batches.totals.lines lines c.batches.taken now next mid new grows leaves c.batches.invariant.stands in
    let p = err_from_is_err_and c.from_residual-in_err-held.result c.from_residual-in_err-held.ensures.1 in
    let is : c.from_residual-in_err-held.result ≡ Err WantOfMemory = p.1 ∙ ap Err p.2 in
    subst (λ (r : Result Counted RecordStop). Comes s cut start old new r) (sym is) (wanted s cut start old rest lines size next new stands)

pub returns-clause-exact : goal.returns-clause-exact
returns-clause-exact g c =
    let s = scene_of c.args.recorder.now in
    too_long s (g.I.Inlet.is_broken c.batches.input) (g.I.Inlet.bytes c.args.input.now) (g.O.Outlet.bytes c.args.out.now) c.batches.held.items c.batches.totals.lines c.batches.taken (g.I.Inlet.bytes c.batches.input) (g.O.Outlet.bytes c.batches.out)
    (omega arith) c.batches.invariant.stands

pub returns-in_err-ended-clause-broken : goal.returns-in_err-ended-clause-broken
returns-in_err-ended-clause-broken g c =
    let fault = c.in_err-ended.field-0.0 in
    let p = err_from_is_err_and c.from_residual-in_err-ended.result c.from_residual-in_err-ended.ensures.1 in
    let is : c.from_residual-in_err-ended.result ≡ Err (of_fill fault) = p.1 ∙ ap Err p.2 in
    c.batches.invariant.whole ∙ sym (ap is_output_fault is ∙ no_output_fault fault)

pub batches-smaller : goal.batches-smaller
batches-smaller g c =
    let full = c.in_ok-ended.ensures.full c.if-ended.false in
    omega (arith, full, c.batches.invariant.short)
