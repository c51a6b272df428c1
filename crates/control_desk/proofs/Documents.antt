-- A document that was set with what had been published, and the snapshot that a seat read.
use Rattle.std.proofs.Common.{◌≡◌, ◌∙◌, List, length, Some, arith, ap, subst, sym, ℕ, Ok}
use mathlib.Core.List.{IsPrefix}
use Rattle.flag_defs.specs.Flags.{flags_view}
use Rattle.flag_defs.specs.Floats.{MeansWithFloats}
use Rattle.flag_defs.specs.declared.flags.Flags.{Flags}
use Rattle.snap_share.specs.Known.{last_of}
use Rattle.snap_share.proofs.Fronts.{prefix_shorter, prefix_whole}
use Rattle.control_desk.specs.Sources.{IsDocumentOf}

-- two beginnings of one list that are equally long are the same
pub same_beginning : (xs ys zs : List Flags) → IsPrefix xs zs → IsPrefix ys zs → length xs ≡ length ys → xs ≡ ys
same_beginning xs ys zs p q same = prefix_whole xs ys (prefix_shorter xs ys zs p q (omega (arith, same))) (omega (arith, same))

-- a document of as many publications as the seat knew means the flags that it read, which are the last of these
pub means_read : (known published later : List Flags) (read : Flags) (number : ℕ) (document : List ℕ) → last_of known ≡ Some read → number ≡ length known
    → IsPrefix known later → IsPrefix published later → length published ≡ number → IsDocumentOf published document → MeansWithFloats document (Ok (flags_view read))
means_read known published later read number document last counted grows told of (flags, is_last, means) =
    let same : published ≡ known = same_beginning published known later told grows (of ∙ counted) in
    let flags_are : Some flags ≡ Some read = sym is_last ∙ (ap last_of same ∙ last) in
    let one : flags ≡ read = cc in
    subst (λ (f : Flags). MeansWithFloats document (Ok (flags_view f))) one means
