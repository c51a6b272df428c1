-- What no asks come to.
use Rattle.std.proofs.Common.{◌≡◌, ℕ, ◌<◌, ◌≤◌, List, [], ◌∷◌, length, map, refl, sym, ap, subst, arith}
use Rattle.flag_defs.specs.Document.{Definitions}
use Rattle.flag_resolve.specs.Views.{resolution_view}
use Rattle.flag_resolve.specs.declared.resolution.Resolution.{Resolution}
use Rattle.book_core.specs.Book.{Contents, inputs_on, most_inputs}
use Rattle.book_share.specs.Asked.{long_of, mentions, resolved}
use Rattle.book_share.specs.Driven.{AreNoted}
use Rattle.book_share.specs.Gated.{EachAsk}
use Rattle.book_share.specs.declared.ask.Ask.{Ask}

pub no_answers : (flags : Definitions) (asks : List Ask) (answers : List Resolution) → length asks ≡ 0 → answers ≡ [] → map resolution_view answers ≡ map (resolved flags) asks
no_answers flags [] answers none empty = ap (map resolution_view) empty
no_answers flags (a ∷ asks) answers none empty = absurd (omega (arith, none))

-- a book without inputs has what nothing mentions
empty_noted : AreNoted [] [] 0 0 0
unfolding inputs_on
empty_noted = record {
  contents = λ page few input. refl;
  filled = λ page many. absurd (let none : most_inputs < 0 = many in omega (arith, none));
  held = λ page input is. absurd (cc);
  calls = refl;
  news = refl;
  refusals = refl;
  full = ((λ _ page. let none : 0 ≤ most_inputs = omega arith in none), λ _. refl);
}

pub no_notes : (flags : Definitions) (asks : List Ask) (book : Contents) (calls news full : ℕ) → length asks ≡ 0 → book ≡ [] → (calls ≡ 0) × (news ≡ 0) × (full ≡ 0) → AreNoted (mentions flags asks) book calls news full
no_notes flags [] book calls news full none empty (no_calls, no_news, no_full) =
    subst (λ (b : Contents). AreNoted [] b calls news full) (sym empty)
    (subst (λ n. AreNoted [] [] n news full) (sym no_calls) (subst (λ n. AreNoted [] [] 0 n full) (sym no_news) (subst (λ n. AreNoted [] [] 0 0 n) (sym no_full) empty_noted)))
no_notes flags (a ∷ asks) book calls news full none empty counts = absurd (omega (arith, none))

pub none_long : (flags : Definitions) (asks : List Ask) (long : ℕ) → length asks ≡ 0 → long ≡ 0 → long ≡ long_of flags asks
none_long flags [] long none is = is
none_long flags (a ∷ asks) long none is = absurd (omega (arith, none))

pub of_none : (P : ℕ → Type 0) (asks : ℕ) → asks ≡ 0 → EachAsk P asks
of_none P asks none ask within = absurd (omega (arith, none, within))
