use Rattle.std.proofs.Common.{ℕ, List, ◌++◌, ◌-◌, sym, ap, ◌∙◌, append_assoc, append-nil, arith, string_bytes}
use Rattle.std.proofs.lemmas.Str.{IsUtf8-past_char}
use Rattle.picture.specs.Escape.{escaped_char}
use Rattle.picture.proofs.Escapes.{begun_all, begun_last, begun_step}
use Rattle.picture.proofs.escape.push_start.Goals as goal

pub returns-then-left-eq0-clause-all : goal.returns-then-left-eq0-clause-all
returns-then-left-eq0-clause-all c =
    let held = c.loop-c.invariant in
    let last = begun_last c.loop-c.left _ _ c.in-Some.c c.if-left-eq0.true held.0 c.in-Some.ensures.steps.0 in
    let added = held.1.0 in
    c.in_ok-push.ensures.bytes ∙ rw (held.1.1) (append_assoc _ added _ ∙ ap (λ (xs : List ℕ). string_bytes c.args.out.now ++ xs) (rw last at held.1.2))

pub loop-c-preserved : goal.loop-c-preserved
loop-c-preserved c =
    let held = c.loop-c.invariant in
    let parts = c.in-Some.ensures.steps.0 in
    let step = begun_step c.loop-c.left (c.loop-c.left - 1) _ _ c.in-Some.c (omega (arith, c.if-left-eq0.false)) held.0 parts in
    let added = held.1.0 in
    (IsUtf8-past_char _ _ c.in-Some.c held.0 parts, (added ++ escaped_char c.in-Some.c, rw (c.in_ok-push_char.ensures.all, held.1.1) (append_assoc _ added _), append_assoc added _ _ ∙ rw step at held.1.2))

pub returns-clause-all : goal.returns-clause-all
returns-clause-all c =
    let held = c.loop-c.invariant in
    held.1.1 ∙ ap (λ (added : List ℕ). string_bytes c.args.out.now ++ added) (sym (append-nil held.1.0) ∙ rw (begun_all _ _ c.in-None.ensures.steps.0.0) at held.1.2)
