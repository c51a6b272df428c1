use denote.Ref.{Bor}
use Rattle.std.proofs.Common.{◌≡◌, ◌<◌, ◌+◌, ◌-◌, ℕ, List, length, length-drop, drop, ap, arith}
use Rattle.std.proofs.lemmas.List.{drop_all, length-map}
use Rattle.byte_streams.specs.Lines.{lines_view}
use Rattle.note_streams.proofs.LogCounted.{counted_all, counted_next, counted_none, has_room}
use Rattle.note_streams.proofs.Cut.{first_line_left}
use Rattle.note_streams.proofs.counting.count_lines.Goals as goal

pub loop-line-init : goal.loop-line-init
loop-line-init c = counted_none (lines_view c.args.lines.now) c.new-counts.result.entries c.new-counts.ensures.empty

pub count_line-requires : goal.count_line-requires
count_line-requires c =
    let lines = c.args.lines.now in
    let i = c.loop-line.line-index in
    let rest : length (lines_view (drop i lines)) ≡ length (drop i lines) = length-map (drop i lines) (λ (line : Bor (List ℕ)). line.now) in
    let left : length (drop i lines) ≡ length lines - i = length-drop i lines in
    let all : length (lines_view lines) ≡ length lines = length-map lines (λ (line : Bor (List ℕ)). line.now) in
    let here : i < length lines = c.loop-line-test.true in
    has_room (lines_view lines) (lines_view (drop i lines)) c.loop-line.counts.entries c.loop-line.invariant (omega (arith, rest, left, here)) (omega (arith, all))

pub loop-line-preserved : goal.loop-line-preserved
loop-line-preserved c =
    let lines = c.args.lines.now in
    let i = c.loop-line.line-index in
    counted_next (lines_view lines) (lines_view (drop i lines)) (lines_view (drop (i + 1) lines)) _ (first_line_left lines i _ c.loop-line-test.true) c.loop-line.counts.entries c.count_line.new.counts.entries c.loop-line.invariant c.in_ok-count_line.ensures

pub returns : goal.returns
returns c =
    let lines = c.args.lines.now in
    counted_all (lines_view lines) (lines_view (drop c.loop-line.line-index lines)) c.loop-line.counts.entries (ap lines_view (drop_all c.loop-line.line-index lines c.loop-line-test.false)) c.loop-line.invariant
