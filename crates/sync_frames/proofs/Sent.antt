-- What comes out of frames that were sent.
use Rattle.std.proofs.Common.{◌≡◌, ◌≢◌, ℕ, ◌<◌, Bool, true, false, cond, eqb, List, [], ◌∷◌, ◌++◌, ⊎_elim, refl, sym, ap, ap₂, subst, ◌∙◌, arith, append_assoc, Some}
use Rattle.std.specs.List.{All}
use Rattle.std.proofs.lemmas.Bool.{eq-eqb}
use Rattle.std.proofs.lemmas.Bool.Decides.{eqb_tells}
use Rattle.std.proofs.lemmas.List.Elements.{All-weaker, All-nil, All-cons}
use Rattle.flag_defs.specs.Floats.{MeansFlags}
use Rattle.sync_frames.specs.Snapshots.{Numbered}
use Rattle.sync_frames.specs.Frames.{frame_of, Frames}
use Rattle.sync_frames.specs.Sent.{AreFramesOf, IsFirstSent, GivesWhatWasSent, first_sent}
use Rattle.sync_frames.proofs.Headers.{same_frames, length-frame}
use Rattle.sync_frames.proofs.Streams.{one_snapshot}
use Rattle.std.proofs.Common.{length, length-append}

-- what was read is what was sent first
sent_first : (last : ℕ) (ss sent : List Numbered) (b r : List ℕ) → Frames last ss b → AreFramesOf sent (b ++ r) → (more : List Numbered) × (sent ≡ ss ++ more)
sent_first last [] sent b r f g = (sent, refl)
sent_first last (s ∷ ss) [] b r f g =
    absurd (omega (arith, ap length (sym (ap (λ (l : List ℕ). l ++ r) f.2) ∙ g), length-append (frame_of s.number f.0 ++ f.1) r, length-append (frame_of s.number f.0) f.1, length-frame s.number f.0))
sent_first last (s ∷ ss) (t ∷ sent) b r f g =
    let same = same_frames s.number t.number f.0 g.0 (f.1 ++ r) g.1 f.4.fits g.3.fits f.4.small g.3.small (sym (append_assoc (frame_of s.number f.0) f.1 r) ∙ sym (ap (λ (l : List ℕ). l ++ r) f.2) ∙ g.2) in
    let means = subst (λ (l : List ℕ). MeansFlags l s.flags s.floats) same.1 f.4.means in
    let one : s ≡ t = one_snapshot g.0 s t same.0 means g.3.means in
    let others = sent_first s.number ss sent f.1 r f.5 (subst (λ (l : List ℕ). AreFramesOf sent l) (sym same.2) g.4) in
    (others.0, ap₂ (λ (x : Numbered) (xs : List Numbered). x ∷ xs) (sym one) others.1)

abbrev Follows : ℕ → List Numbered → Numbered → Type 0
Follows last all s = (last < s.number) × IsFirstSent all s

-- another one in front has another number
behind : (s : Numbered) (all : List Numbered) (t : Numbered) → Follows s.number all t → IsFirstSent (s ∷ all) t
behind s all t f =
    ⊎_elim (λ (h : (eqb t.number s.number ≡ true) × (t.number ≡ s.number)). absurd (omega (arith, h.1, f.0)))
    (λ (h : (eqb t.number s.number ≡ false) × (t.number ≢ s.number)). ap (λ (b : Bool). cond b (Some s) (first_sent t.number all)) h.0 ∙ f.1) (eqb_tells t.number s.number)

first_ones : (last : ℕ) (ss more : List Numbered) (b : List ℕ) → Frames last ss b → All (Follows last (ss ++ more)) ss
first_ones last [] more b f = All-nil (Follows last more)
first_ones last (s ∷ ss) more b f =
    All-cons (Follows last (s ∷ (ss ++ more))) s ss
    (f.3, ap (λ (t : Bool). cond t (Some s) (first_sent s.number (ss ++ more))) (eq-eqb s.number s.number refl))
    (All-weaker (Follows s.number (ss ++ more)) (Follows last (s ∷ (ss ++ more))) (λ t h. (omega (arith, h.0, f.3), behind s (ss ++ more) t h)) ss (first_ones s.number ss more f.1 f.5))

pub gives : GivesWhatWasSent
gives sent stream later framed ss rest reading =
    let prefix = sent_first 0 ss sent reading.front (rest ++ later) reading.frames (subst (λ (l : List ℕ). AreFramesOf sent l) (ap (λ (l : List ℕ). l ++ later) reading.whole ∙ append_assoc reading.front rest later) framed) in
    subst (λ (l : List Numbered). All (IsFirstSent l) ss) (sym prefix.1)
    (All-weaker (Follows 0 (ss ++ prefix.0)) (IsFirstSent (ss ++ prefix.0)) (λ t h. h.1) ss (first_ones 0 ss prefix.0 reading.front reading.frames))
