use Rattle.std.proofs.Common.{ℕ, List, ◌++◌, sym, ap, ◌∙◌, append_assoc, append-nil, string_bytes}
use Rattle.std.proofs.lemmas.Str.{IsUtf8-past_char}
use Rattle.picture.specs.Escape.{escaped_char}
use Rattle.picture.proofs.Escapes.{escaped_empty, escaped_step}
use Rattle.picture.proofs.escape.push_escaped.Goals as goal

pub loop-c-preserved : goal.loop-c-preserved
loop-c-preserved c =
    let held = c.loop-c.invariant in
    let parts = c.in-Some.ensures.steps.0 in
    let step = escaped_step _ _ c.in-Some.c held.0 parts in
    let added = held.1.0 in
    (IsUtf8-past_char _ _ c.in-Some.c held.0 parts, (added ++ escaped_char c.in-Some.c, rw (c.in_ok-push_char.ensures.all, held.1.1) (append_assoc _ added _), append_assoc added _ _ ∙ rw step at held.1.2))

pub returns-clause-all : goal.returns-clause-all
returns-clause-all c =
    let held = c.loop-c.invariant in
    held.1.1 ∙ ap (λ (added : List ℕ). string_bytes c.args.out.now ++ added) (sym (append-nil held.1.0) ∙ rw (escaped_empty _ c.in-None.ensures.steps.0.0) at held.1.2)
