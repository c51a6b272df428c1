use Rattle.std.proofs.Common.{ℕ, zero-add, encode_utf8_all, length, chars, IsUtf8, sym, subst, arith, append-nil, ◌≤◌, ◌≡◌, ◌∙◌, map}
use Rattle.std.proofs.lemmas.Grind.{common_steps}
use Rattle.std.proofs.lemmas.List.{nil_from_length}
use Rattle.std.proofs.lemmas.Str.{chars-nil, chars_past_char}
use Rattle.file_diagnostics.proofs.Shown.{passed, cut, kept}
use Rattle.file_diagnostics.proofs.quoting.front.Goals as goal

pub returns-in_err-end-clause-whole : goal.returns-in_err-end-clause-whole
returns-in_err-end-clause-whole c =
    let ran = c.in_err-end.ensures.ran in
    let made = c.char_indices.ensures in
    let front = rw (made.rest, made.offset) at (passed ran.0 _ ran.1.0 (subst IsUtf8 (sym made.rest) c.utf8.text) ran.1.1) in
    let read = rw (nil_from_length _ ran.1.2.0, chars-nil, append-nil) at front.read in
    let few : length (chars c.args.text.now) ≤ 60 = rw read (grind (arith, common_steps, ran.2)) in
    rw c.from_residual.ensures (kept _ few)

pub returns-clause-long : goal.returns-clause-long
returns-clause-long c =
    let ran = c.in_ok-end.ensures.ran in
    let made = c.char_indices.ensures in
    let front = rw (made.rest, made.offset) at (passed ran.0 _ ran.1.0 (subst IsUtf8 (sym made.rest) c.utf8.text) ran.1.1) in
    let more = chars_past_char _ _ _ front.utf8 ran.1.2.1 in
    let long = cut _ _ _ _ _ front.bytes front.read (grind (arith, common_steps, ran.2)) more in
    let end : c.in_ok-end.end ≡ length (encode_utf8_all (map (λ (x : ℕ × ℕ). x.1) ran.0)) = ran.1.2.0 ∙ (front.at ∙ zero-add _) in
    rw (c.in_ok-front.ensures.front, end) long
