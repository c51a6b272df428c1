-- A run with one event more.
use Rattle.std.proofs.Common.{◌≡◌, ℕ, ◌+◌, ◌<◌, ◌≤◌, length, get_or, List, [], ◌∷◌, ◌++◌, take, refl, sym, ap, ◌∙◌, subst}
use Rattle.std.proofs.lemmas.List.{map-append, take_more, take-map, take_all}
use Rattle.snap_core.specs.Agreement.{Steps, Runs, RunsFirst}
use Rattle.snap_core.specs.Event.{Happening, Reply, event_view, events_view}
use Rattle.snap_core.specs.declared.event.Event.{Event}
use Rattle.snap_core.specs.World.{State, Step, Run}
use Rattle.snap_core.specs.WorldView.{Stored}

run-push : (s t u : State) (es : List Happening) (answers : List Reply) (e : Happening) (a : Reply) → Run s es answers t → Step t e a u → Run s (es ++ e ∷ []) (answers ++ a ∷ []) u
run-push s t u [] [] e a ran step = (u, subst (λ (x : State). Step x e a u) ran step, refl)
run-push s t u [] (b ∷ answers) e a ran step = absurd ran
run-push s t u (f ∷ es) [] e a ran step = absurd ran
run-push s t u (f ∷ es) (b ∷ answers) e a ran step = (ran.0, ran.1, run-push ran.0 t u es answers e a ran.2 step)

pub runs_none : (old : Stored) → Runs old [] [] old
runs_none old s a = (s, refl, a)

pub runs_one_more : (old mid new : Stored) (es : List Happening) (answers : List Reply) (e : Happening) (a : Reply) → Runs old es answers mid → Steps mid e a new → Runs old (es ++ e ∷ []) (answers ++ a ∷ []) new
runs_one_more old mid new es answers e a ran steps s agrees =
    let before = ran s agrees in
    let after = steps before.0 before.2 in
    (after.0, run-push s before.0 after.0 es answers e a before.1 after.1, after.2)

-- the same of the program's events, one by one
pub runs_next : (old mid new : Stored) (events : List Event) (i : ℕ) (e : Event) (answers more : List Reply) (a : Reply) → i < length events → e ≡ get_or events i e → more ≡ answers ++ a ∷ []
    → Runs old (events_view (take i events)) answers mid → Steps mid (event_view e) a new → Runs old (events_view (take (i + 1) events)) more new
runs_next old mid new events i e answers more a inside is pushed ran steps =
    let es : events_view (take (i + 1) events) ≡ events_view (take i events) ++ event_view e ∷ [] =
    ap events_view (take_more events i e inside ∙ ap (λ y. take i events ++ y ∷ []) (sym is)) ∙ map-append event_view (take i events) (e ∷ []) in
    subst (λ (rs : List Reply). Runs old (events_view (take (i + 1) events)) rs new) (sym pushed)
    (subst (λ (xs : List Happening). Runs old xs (answers ++ a ∷ []) new) (sym es) (runs_one_more old mid new (events_view (take i events)) answers (event_view e) a ran steps))

pub runs_first : (old new : Stored) (events : List Event) (i : ℕ) (answers : List Reply) → Runs old (events_view (take i events)) answers new → RunsFirst old (events_view events) i new
runs_first old new events i answers ran = (answers, subst (λ (xs : List Happening). Runs old xs answers new) (sym (take-map event_view i events)) ran)

pub runs_all : (old new : Stored) (events : List Event) (i : ℕ) (answers : List Reply) → length events ≤ i → Runs old (events_view (take i events)) answers new → Runs old (events_view events) answers new
runs_all old new events i answers past ran = subst (λ (xs : List Event). Runs old (events_view xs) answers new) (take_all i events past) ran
