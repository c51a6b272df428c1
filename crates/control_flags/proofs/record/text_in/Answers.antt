use Rattle.std.proofs.Common.{◌≡◌, ℕ, Vec, Global, ap}
use Rattle.percent_encoding.specs.Iter.{decoded_bytes}
use Rattle.percent_encoding.specs.Percent.{percent_decode}
use Rattle.control_flags.proofs.Texts.{decoded, none_made, text_made}
use Rattle.control_flags.proofs.record.text_in.Goals as goal

pub returns-in-Ok : goal.returns-in-Ok
returns-in-Ok c =
    let wanted = percent_decode c.args.spelled.now in
    let bytes = c.append_to.new.out.items in
    let same : bytes ≡ wanted = decoded c.new-bytes.result.items bytes (decoded_bytes c.percent_decode.result) wanted c.new-bytes.ensures.items c.in_ok-append_to.ensures.ok c.percent_decode.ensures.bytes in
    text_made c.in-Ok.text bytes wanted (ap (λ (v : Vec ℕ Global). v.items) c.in-Ok.ensures.ok) same

pub returns : goal.returns
returns c =
    let wanted = percent_decode c.args.spelled.now in
    let bytes = c.append_to.new.out.items in
    let same : bytes ≡ wanted = decoded c.new-bytes.result.items bytes (decoded_bytes c.percent_decode.result) wanted c.new-bytes.ensures.items c.in_ok-append_to.ensures.ok c.percent_decode.ensures.bytes in
    none_made bytes wanted c.in-Err.ensures.succeeds same
