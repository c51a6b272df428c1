-- a key that is too long, behind others that are not
use denote.Ref.{Bor}
use Rattle.std.proofs.Common.{◌≡◌, ◌+◌, ◌<◌, ℕ, List, [], drop, get_or, length, Bool, false, ◌&&◌, sym, ap, ◌∙◌, arith}
use Rattle.std.proofs.lemmas.Bool.{lt-leb}
use Rattle.book_core.specs.Book.{most_bytes}
use Rattle.flagops_commands.specs.Price.{are_short}
use Rattle.transport_core.proofs.Members.{any_default}
use Rattle.transport_core.proofs.Ranges.{from_here}
use Rattle.flagops_commands.proofs.rules.price.are_short.Goals as goal

long_here : (keys : List (Bor (List ℕ))) (i : ℕ) (key : Bor (List ℕ)) → i < length keys → key ≡ get_or keys i key → most_bytes < length key.now → are_short (drop i keys) ≡ false
long_here keys i key below is long =
    ap are_short (from_here keys i key below is) ∙ ap (λ (b : Bool). b && are_short (drop (i + 1) keys)) (lt-leb (length key.now) most_bytes long)

-- what a loop over no key would find
abbrev nothing : Bor (List ℕ)
nothing = record { ref_ptr = (0, 0); now = [] }

pub returns-then-key-gt-INPUT_BYTES : goal.returns-then-key-gt-INPUT_BYTES
returns-then-key-gt-INPUT_BYTES c =
    let keys = c.args.keys.now in
    let i = c.loop-key.key-index in
    let key = get_or keys i nothing in
    sym (c.loop-key.invariant ∙ long_here keys i key (omega arith) (any_default keys i nothing key (omega arith)) (omega arith))
