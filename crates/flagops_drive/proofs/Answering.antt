-- What asks come to by flags of which some have floats.
use Rattle.std.proofs.Common.{◌≡◌, List, [], ◌∷◌, map, Some, refl, ap, ap₂}
use Rattle.book_share.specs.Asked.{resolved}
use Rattle.book_share.specs.declared.ask.Ask as program
use Rattle.flag_resolve.specs.Floats.{Marked, is_spelled}
use Rattle.flag_resolve.specs.Resolution.{resolved_by}
use Rattle.flag_resolve.specs.Resolved.{Resolved}
use Rattle.flag_defs.specs.Document.{Definitions}
use Rattle.flagops_drive.specs.Asks.{Ask, ask_view}
use Rattle.flagops_drive.specs.Floats.{answered, answered_spelled, asked_as, spelled_of}

head-same : {X : Type 0} (x y : X) (xs ys : List X) → x ∷ xs ≡ y ∷ ys → x ≡ y
head-same x y xs ys h = cc

tail-same : {X : Type 0} (x y : X) (xs ys : List X) → x ∷ xs ≡ y ∷ ys → xs ≡ ys
tail-same x y xs ys h = cc

-- what an ask resolves to that is asked as it stands
plainly : Definitions → Ask → Resolved
plainly flags a = resolved_by (Some flags) a.want a.default a.context a.key a.moment

one-answered : (flags : Marked) (g : program.Ask) (a : Ask) → ask_view g ≡ asked_as flags a → resolved flags.0 g ≡ answered flags a
unfolding resolved plainly
one-answered flags g a h = ap (plainly flags.0) h

one-spelled : (flags : Marked) (g : program.Ask) (a : Ask) → ask_view g ≡ asked_as flags a → is_spelled (Some flags) g.key.now (resolved flags.0 g) ≡ answered_spelled flags a
one-spelled flags g a h = ap₂ (λ key r. is_spelled (Some flags) key r) (ap (λ (x : Ask). x.key) h) (one-answered flags g a h)

-- asks for the kinds that their flags are asked for resolve to what is answered
pub all-answered : (flags : Marked) (given : List program.Ask) (asks : List Ask) → map ask_view given ≡ map (asked_as flags) asks → map (resolved flags.0) given ≡ map (answered flags) asks
all-answered flags [] [] h = refl
all-answered flags [] (a ∷ asks) h = cc
all-answered flags (g ∷ given) [] h = cc
all-answered flags (g ∷ given) (a ∷ asks) h =
    ap₂ (λ r rs. r ∷ rs) (one-answered flags g a (head-same (ask_view g) (asked_as flags a) (map ask_view given) (map (asked_as flags) asks) h))
    (all-answered flags given asks (tail-same (ask_view g) (asked_as flags a) (map ask_view given) (map (asked_as flags) asks) h))

-- and are printed so
pub all-spelled : (flags : Marked) (given : List program.Ask) (asks : List Ask) → map ask_view given ≡ map (asked_as flags) asks → spelled_of flags given (map (resolved flags.0) given) ≡ map (answered_spelled flags) asks
all-spelled flags [] [] h = refl
all-spelled flags [] (a ∷ asks) h = cc
all-spelled flags (g ∷ given) [] h = cc
all-spelled flags (g ∷ given) (a ∷ asks) h =
    ap₂ (λ b bs. b ∷ bs) (one-spelled flags g a (head-same (ask_view g) (asked_as flags a) (map ask_view given) (map (asked_as flags) asks) h))
    (all-spelled flags given asks (tail-same (ask_view g) (asked_as flags a) (map ask_view given) (map (asked_as flags) asks) h))
