-- Where remembered lines stand.
use Rattle.std.proofs.Common.{◌≡◌, ℕ, Bool, true, false, List, [], ◌∷◌, ◌++◌, Vec, Option, Some, None, Result, Ok, Err, OnOk, OnErr, nat_eq, refl, sym, ap, subst, inl, inr}
use Rattle.std.specs.Cmp.Lexicographic.{pointwise, same_text}
use Rattle.std.specs.List.{Contains}
use Rattle.std.specs.Map.{lookup}
use Rattle.std.specs.declared.alloc.Global.{Global}
use Rattle.std.proofs.lemmas.List.Elements.{Contains-append_left, Contains-append_right, Contains-push, Contains-push_cases, Contains-append_cases}
use Rattle.log_file.specs.declared.handed.Handed.{Handed}
use Rattle.lru.specs.LruCache.{LruCache, lru_cache, put_entries, promoted}
use Rattle.lru.proofs.CallerLemmas.{Contains-lookup, Contains-promoted, Contains-put_entries}
use Rattle.note_log.specs.Files.{History, StandsIn, handed_by, is_among}
use Rattle.note_log.specs.Line.{HasLine}
use Rattle.note_log.specs.Memory.{AllStand, AllStandAt, Remembered, StandAll, StandsAt, is_known, is_line, is_of_open}
use Rattle.log_file.specs.Handed.{handed_in}
use Rattle.note_log.proofs.Lists.{at_head, not_in}

abbrev pub Entry : Type 0
Entry = Vec ℕ Global × ℕ

abbrev pub Kept : Type 0
Kept = Handed × ℕ

-- nothing is remembered
pub none_stand : (history : History) (remembered : Remembered) → remembered ≡ [] → ∥ AllStand history remembered ∥₁
none_stand history remembered none = ∣ (λ e c. absurd (not_in e (subst (λ (all : Remembered). Contains all e) none c))) ∣₁

-- ---- more is kept of a file

stands_more : (history : History) (last : Kept) (number : ℕ) (line : List ℕ) → StandsAt history number line → StandsAt (history ++ last ∷ []) number line
stands_more history last number line s = (s.0, Contains-append_left history (last ∷ []) s.0 s.1, s.2, s.3)

pub all_stand_more : (history : History) (last : Kept) (remembered : Remembered) → AllStand history remembered → AllStand (history ++ last ∷ []) remembered
all_stand_more history last remembered s e c = stands_more history last e.1 e.0.items (s e c)

pub stands_last : (history : History) (handed : Handed) (number : ℕ) (line : List ℕ) → HasLine line (handed_in handed.writes.items) → StandsAt (history ++ (handed, number) ∷ []) number line
stands_last history handed number line h = ((handed, number), Contains-push history (handed, number), refl, h)

pub lines_stand_last : (history : History) (handed : Handed) (number : ℕ) (lines : List (Vec ℕ Global)) → StandAll (handed_in handed.writes.items) lines
    → AllStandAt (history ++ (handed, number) ∷ []) number lines
lines_stand_last history handed number lines s line c = stands_last history handed number line.items (s line c)

-- ---- an entry more in a table

abbrev pub eq : Vec ℕ Global → Vec ℕ Global → Bool
eq a b = pointwise nat_eq a.items b.items

pub stand_put : (history : History) (old : LruCache (Vec ℕ Global) ℕ) (line : Vec ℕ Global) (number : ℕ) → AllStand history old.entries → StandsAt history number line.items → AllStand history (put_entries eq old line number)
stand_put history old line number s has e c = elim (Contains-put_entries eq old line number e c) [
  | inl was ↦ s e was
  | inr put ↦
      let here : StandsAt history e.1 line.items = subst (λ (n : ℕ). StandsAt history n line.items) (sym put.0) has in
      elim put.1 [
        | inl same ↦ subst (λ (k : Vec ℕ Global). StandsAt history e.1 k.items) (sym same) here
        | inr there ↦ subst (λ (t : List ℕ). StandsAt history e.1 t) (same_text line.items e.0.items (sym there.2)) here
      ]
]

pub stand_promoted : (history : History) (test : Vec ℕ Global → Bool) (old : Remembered) → AllStand history old → AllStand history (promoted test old)
stand_promoted history test old s e c = s e (Contains-promoted test old e c)

-- one was put, or memory ran out
pub put_stands : {T E : Type 0} (r : Result T E) (history : History) (old new : LruCache (Vec ℕ Global) ℕ) (line : Vec ℕ Global) (number : ℕ)
    → OnOk r (new ≡ lru_cache (put_entries eq old line number) old.cap) → OnErr r (new ≡ old) → AllStand history old.entries → StandsAt history number line.items → AllStand history new.entries
put_stands (Ok x) history old new line number ok err s has = subst (λ (c : LruCache (Vec ℕ Global) ℕ). AllStand history c.entries) (sym ok) (stand_put history old line number s has)
put_stands (Err x) history old new line number ok err s has = subst (λ (c : LruCache (Vec ℕ Global) ℕ). AllStand history c.entries) (sym err) s

pub put_cap : {T E : Type 0} (r : Result T E) (old new : LruCache (Vec ℕ Global) ℕ) (entries : Remembered) → OnOk r (new ≡ lru_cache entries old.cap) → OnErr r (new ≡ old) → new.cap ≡ old.cap
put_cap (Ok x) old new entries ok err = ap (λ (c : LruCache (Vec ℕ Global) ℕ). c.cap) ok
put_cap (Err x) old new entries ok err = ap (λ (c : LruCache (Vec ℕ Global) ℕ). c.cap) err

-- ---- a line that is known

-- what a file that is open was handed is among what such files were handed
handed_among : (opened : List ℕ) (history : History) (h : Kept) → Contains history h → is_among h.1 opened ≡ true → Contains (handed_by opened history) (handed_in h.0.writes.items)
handed_among opened [] h c t = absurd (not_in h c)
handed_among opened (x ∷ history) h c t = (elim (is_among x.1 opened) as (λ y. is_among x.1 opened ≡ y → Contains (handed_by opened (x ∷ history)) (handed_in h.0.writes.items)) [
  | true ↦ λ y. elim (Contains-append_cases (x ∷ []) history h c) [
    | inl d ↦ elim (Contains-push_cases [] x h d) [
      | inl none ↦ absurd (not_in h none)
      | inr same ↦ rw y (subst (λ (k : Kept). Contains (handed_in x.0.writes.items ∷ handed_by opened history) (handed_in k.0.writes.items)) same (at_head (handed_in x.0.writes.items) (handed_by opened history)))
    ]
    | inr d ↦ rw y (Contains-append_right (handed_in x.0.writes.items ∷ []) (handed_by opened history) (handed_in h.0.writes.items) (handed_among opened history h d t))
  ]
  | false ↦ λ y. elim (Contains-append_cases (x ∷ []) history h c) [
    | inl d ↦ elim (Contains-push_cases [] x h d) [
      | inl none ↦ absurd (not_in h none)
      | inr same ↦ let is : is_among x.1 opened ≡ true = subst (λ (k : Kept). is_among k.1 opened ≡ true) (sym same) t in cc
    ]
    | inr d ↦ rw y (handed_among opened history h d t)
  ]
]) refl

known_at : (opened : List ℕ) (history : History) (remembered : Remembered) (line : List ℕ) (o : Option ℕ) → lookup (is_line line) remembered ≡ o → is_of_open opened o ≡ true → AllStand history remembered
    → StandsIn line (handed_by opened history)
known_at opened history remembered line None h t s = cc
known_at opened history remembered line (Some number) h t s =
    let e = Contains-lookup (is_line line) remembered number h in
    let there : StandsAt history number e.0.items = s (e.0, number) e.1 in
    let same : line ≡ e.0.items = same_text line e.0.items (sym e.2) in
    let open_still : is_among there.0.1 opened ≡ true = subst (λ (n : ℕ). is_among n opened ≡ true) (sym there.2) t in
    (handed_in there.0.0.writes.items, handed_among opened history there.0 there.1 open_still, subst (λ (t : List ℕ). HasLine t (handed_in there.0.0.writes.items)) (sym same) there.3)

pub known_stands : (opened : List ℕ) (history : History) (remembered : Remembered) (line : List ℕ) → AllStand history remembered → is_known opened remembered line ≡ true → StandsIn line (handed_by opened history)
known_stands opened history remembered line s t = known_at opened history remembered line (lookup (is_line line) remembered) refl t s
