use Rattle.std.proofs.Common.{◌≡◌, ℕ, ◌+◌, suc, List, ◌++◌, length, take, drop, subst, sym, ap, ◌∙◌, arith}
use Rattle.std.specs.List.{concat}
use Rattle.library_seat.specs.LinesView.{lines_view}
use Rattle.library_seat.proofs.LinesKept.{IsCopied, line_copied}
use Rattle.library_seat.proofs.kept.KeptLines.copy_to.Goals as goal

pub loop-line-preserved : goal.loop-line-preserved
loop-line-preserved c =
    let vs = c.as_slice-line-items.result.now in let i = c.loop-line.line-index in let v = c.line-item.result in let end = c.loop-line.end in
    let all = concat (lines_view c.args.self.now.lines.keys) in let first = c.args.out.now in let out = c.loop-line.out in let was = c.loop-line.invariant in
    let Copied : ℕ → ℕ → List ℕ → Type 0 = IsCopied vs i end v all first out in
    let done = line_copied vs i end v all first out c.loop-line-test.true c.line-item.is c.requires was.whole was.after was.length_same was.end_within in
    let there : Copied (suc i) (length v.items) c.copy_at.new.out =
    subst (Copied (suc i) (length v.items)) (sym (c.copy_at.ensures ∙ ap (λ (bs : List ℕ). take end out ++ (bs ++ drop (end + length bs) out)) c.as_slice.ensures.value)) done in
    let n : length v.items ≡ c.len-end.result = sym (ap length c.as_slice.ensures.value) ∙ (c.as_slice.ensures.len ∙ sym c.len-end.ensures) in
    let index : suc i ≡ i + 1 = omega arith in
    let counted : Copied (i + 1) c.len-end.result c.copy_at.new.out = subst (λ (j : ℕ). Copied j c.len-end.result c.copy_at.new.out) index (subst (λ (m : ℕ). Copied (suc i) m c.copy_at.new.out) n there) in
    record { whole = counted.0; after = counted.1; length_same = counted.2; end_within = counted.3 }
