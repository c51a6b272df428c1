use Rattle.std.proofs.Common.{◌+◌, ap, ◌∙◌, sym, drop, arith}
use Rattle.std.proofs.lemmas.List.{drop_all}
use Rattle.flag_defs.specs.Flag.{flag_view}
use Rattle.flag_defs.specs.Lent.{lent_view}
use Rattle.flag_defs.proofs.Bytes.{beyond, exceeds, exceeds-printed, lawful_lent, rest_at, within}
use Rattle.flag_defs.proofs.lent.are_heavy.Goals as goal

pub returns-then-left-bytes : goal.returns-then-left-bytes
returns-then-left-bytes c =
    let l = c.loop-key in
    let es = c.args.entries.now in
    let e = c.loop-key-item.result in
    let more = lent_view (drop (l.key-index + 1) es) in
    sym (beyond l.left c.entry_bytes-bytes.result (e.0.now, flag_view e.1.now) more c.entry_bytes-bytes.ensures c.if-left-bytes.true)
    ∙ (ap (exceeds l.left) (sym (rest_at es l.key-index e c.loop-key-test.true c.loop-key-item.is)) ∙ (l.invariant.1 ∙ exceeds-printed (lent_view es) c.requires (lawful_lent es)))

pub loop-key-preserved : goal.loop-key-preserved
loop-key-preserved c =
    let l = c.loop-key in
    let es = c.args.entries.now in
    let e = c.loop-key-item.result in
    let more = lent_view (drop (l.key-index + 1) es) in (
      omega (arith, l.invariant.0),
      sym (within l.left c.entry_bytes-bytes.result (e.0.now, flag_view e.1.now) more l.invariant.0 c.entry_bytes-bytes.ensures c.if-left-bytes.false)
          ∙ (ap (exceeds l.left) (sym (rest_at es l.key-index e c.loop-key-test.true c.loop-key-item.is)) ∙ l.invariant.1),
    )

pub returns : goal.returns
returns c =
    let l = c.loop-key in
    let es = c.args.entries.now in
    sym (ap (λ xs. exceeds l.left (lent_view xs)) (drop_all l.key-index es c.loop-key-test.false)) ∙ (l.invariant.1 ∙ exceeds-printed (lent_view es) c.requires (lawful_lent es))
