use Rattle.std.proofs.Common.{◌≡◌, ◌++◌, List, ℕ, length, take, drop, sym, ap, ◌∙◌, arith, rules}
use Rattle.book_core.specs.Printing.{line_text}
use Rattle.note_tallies.specs.File.{header_shape}
use Rattle.note_tallies.proofs.Told.{header_bytes, front_is, front_of, long_enough}
use Rattle.note_tallies.proofs.file_reading.after_header.Goals as goal

pub returns-then-bytes-header : goal.returns-then-bytes-header
returns-then-bytes-header c = λ rest same.
    let header = c.as_bytes-header.result.now in
    let long = long_enough c.args.bytes.now header rest (header_bytes header c.as_bytes-header.ensures.value) same in
    omega (arith, long, c.if-bytes-header.true)

pub returns-then-is_same : goal.returns-then-is_same
returns-then-is_same c =
    let bytes = c.args.bytes.now in
    let header = c.as_bytes-header.result.now in
    let front : c.split_at.result.0.now ≡ take (length header) bytes = search rules in
    let back : c.split_at.result.1.now ≡ drop (length header) bytes = search rules in
    let same : c.split_at.result.0.now ≡ header = c.is_same.ensures.0 c.if-is_same.true in
    front_is bytes header (header_bytes header c.as_bytes-header.ensures.value) (sym front ∙ same) ∙ ap (λ (t : List ℕ). line_text header_shape ++ t) (sym back)

pub returns-else-is_same : goal.returns-else-is_same
returns-else-is_same c = λ rest same.
    let bytes = c.args.bytes.now in
    let header = c.as_bytes-header.result.now in
    let front : c.split_at.result.0.now ≡ take (length header) bytes = search rules in
    let yes = c.is_same.ensures.1 (front ∙ front_of bytes header rest (header_bytes header c.as_bytes-header.ensures.value) same) in
    let none = c.if-is_same.false in
    cc
