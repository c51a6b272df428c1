-- One turn more of a stream that is written.
use Rattle.std.proofs.Common.{◌≡◌, ℕ, ◌<◌, ◌≤◌, Bool, true, false, if◌then◌else◌, nat_lt, Option, Some, List, [], ◌∷◌, ◌++◌, refl, ap, subst, ◌∙◌}
use Rattle.std.proofs.lemmas.Bool.{lt-ltb, le-ltb}
use Rattle.sync_frames.specs.Snapshots.{Numbered}
use Rattle.sync_frames.specs.Frames.{last_number}
use Rattle.sync_server.specs.Turns.{Turned, latest, newer, raised}

-- a snapshot above the last is one more
pub newer_more : (last : ℕ) (read : List Numbered) (s : Numbered) → latest last read < s.number → newer last (read ++ s ∷ []) ≡ newer last read ++ s ∷ []
newer_more last [] s h = rw (lt-ltb last s.number h) refl
newer_more last (r ∷ read) s h =
    elim (nat_lt last r.number) as (λ b. latest (if b then r.number else last) read < s.number → (if b then r ∷ newer r.number (read ++ s ∷ []) else newer last (read ++ s ∷ [])) ≡ (if b then r ∷ newer r.number read else newer last read) ++ s ∷ []) [
      | true ↦ λ k. ap (λ (l : List Numbered). r ∷ l) (newer_more r.number read s k)
      | false ↦ λ k. newer_more last read s k
    ] h

-- another is none
pub newer_same : (last : ℕ) (read : List Numbered) (s : Numbered) → s.number ≤ latest last read → newer last (read ++ s ∷ []) ≡ newer last read
newer_same last [] s h = rw (le-ltb last s.number h) refl
newer_same last (r ∷ read) s h =
    elim (nat_lt last r.number) as (λ b. s.number ≤ latest (if b then r.number else last) read → (if b then r ∷ newer r.number (read ++ s ∷ []) else newer last (read ++ s ∷ [])) ≡ (if b then r ∷ newer r.number read else newer last read)) [
      | true ↦ λ k. ap (λ (l : List Numbered). r ∷ l) (newer_same r.number read s k)
      | false ↦ λ k. newer_same last read s k
    ] h

pub latest_append : (last : ℕ) (read : List Numbered) (s : Numbered) → latest last (read ++ s ∷ []) ≡ raised (latest last read) s
latest_append last [] s = refl
latest_append last (r ∷ read) s = latest_append (raised last r) read s

pub latest_more : (last : ℕ) (read : List Numbered) (s : Numbered) → latest last read < s.number → latest last (read ++ s ∷ []) ≡ s.number
latest_more last read s h = latest_append last read s ∙ ap (λ (b : Bool). if b then s.number else latest last read) (lt-ltb (latest last read) s.number h)

pub latest_same : (last : ℕ) (read : List Numbered) (s : Numbered) → s.number ≤ latest last read → latest last (read ++ s ∷ []) ≡ latest last read
latest_same last read s h = latest_append last read s ∙ ap (λ (b : Bool). if b then s.number else latest last read) (le-ltb (latest last read) s.number h)

-- the last number is that of the last that was newer
pub last_newer : (last : ℕ) (read : List Numbered) → last_number last (newer last read) ≡ latest last read
last_newer last [] = refl
last_newer last (r ∷ read) =
    elim (nat_lt last r.number) as (λ b. last_number last (if b then r ∷ newer r.number read else newer last read) ≡ latest (if b then r.number else last) read) [
      | true ↦ last_newer r.number read
      | false ↦ last_newer last read
    ]

-- one more was asked for and read
pub turned_more : {X C : Type 0} (asked : X → ℕ → X → Type 0) (was_read : C → Option Numbered → C → Type 0) (last : ℕ) (x y z : X) (c d e : C) (read : List Numbered) (s : Numbered)
    → Turned asked was_read last x c read y d → asked y (latest last read) z → was_read d (Some s) e → Turned asked was_read last x c (read ++ s ∷ []) z e
turned_more asked was_read last x y z c d e [] s h next this = (z, e, subst (λ w. asked w last z) h.0 next, subst (λ w. was_read w (Some s) e) h.1 this, (refl, refl))
turned_more asked was_read last x y z c d e (r ∷ read) s (w, v, first, one, h) next this = (w, v, first, one, turned_more asked was_read (raised last r) w y z v d e read s h next this)
