-- A batch that grows by one read after another.
use Rattle.std.proofs.Common.{◌≡◌, ◌≤◌, ◌+◌, ◌-◌, ℕ, List, [], ◌∷◌, ◌++◌, length, take, drop, replicate, Option, Some, None, append_assoc, append-nil, refl, sym, ap, ap₂, ◌∙◌, subst, arith}
use Rattle.std.specs.Io.KnownBytes.{Consumes}
use Rattle.byte_streams.specs.Fill.{Grows}

pub consumes_more : (a b d : Option (List ℕ)) (xs ys : List ℕ) → Consumes a b xs → Consumes b d ys → Consumes a d (xs ++ ys)
consumes_more None b d xs ys one two = tt
consumes_more (Some a) None d xs ys one two = absurd one
consumes_more (Some a) (Some b) None xs ys one two = absurd two
consumes_more (Some a) (Some b) (Some d) xs ys one two = one ∙ ap (λ (t : List ℕ). xs ++ t) two ∙ sym (append_assoc xs ys d)

pub consumes_none : (a : Option (List ℕ)) → Consumes a a []
consumes_none None = tt
consumes_none (Some a) = refl

pub grows_more : (a b d : Option (List ℕ)) (before held after given : List ℕ) → Grows a b before held → Consumes b d given → after ≡ held ++ given → Grows a d before after
grows_more a b d before held after given grows takes is = record {
  added = grows.added ++ given;
  stream = consumes_more a b d grows.added given grows.stream takes;
  batch = is ∙ ap (λ (t : List ℕ). t ++ given) grows.batch ∙ append_assoc before grows.added given;
}

pub grows_none : (a : Option (List ℕ)) (before after : List ℕ) → after ≡ before → Grows a a before after
grows_none a before after same = record { added = []; stream = consumes_none a; batch = same ∙ sym (append-nil before) }
