-- Lines that were read of a file and are remembered, one after the other.
use Rattle.std.proofs.Common.{◌≡◌, ◌≤◌, ◌<◌, ◌+◌, ◌-◌, ℕ, Bool, true, false, cond, List, [], ◌∷◌, ◌++◌, length, take, Option, Some, None, Vec, refl, sym, ap, ◌∙◌, subst, append_assoc, append-nil, inl, inr, ◌⊎◌, arith}
use Rattle.std.specs.Cmp.Lexicographic.{same_text}
use Rattle.std.specs.List.{Contains}
use Rattle.std.specs.Map.{lookup_entry, remove_entry}
use Rattle.std.specs.Option.{option_map_or}
use Rattle.std.specs.declared.alloc.Global.{Global}
use Rattle.std.proofs.Math.Logic.{∥∥₁_map}
use Rattle.std.proofs.lemmas.Grind.{flat_map-append}
use Rattle.std.proofs.lemmas.List.{length-append, length-take, take_all}
use Rattle.std.proofs.lemmas.List.Elements.{Contains-append_right, Contains-push_cases, Contains-append_cases}
use Rattle.std.proofs.lemmas.List.Sums.{sum_by-cons}
use Rattle.byte_streams.specs.Lines.{HasNoFeed, IsFirst}
use Rattle.log_file.specs.Line.{EndsLine, ends_line, lines_in}
use Rattle.log_file.proofs.LastLines.{ends_rest, lines_both, no_lines}
use Rattle.lru.specs.LruCache.{LruCache, put_entries}
use Rattle.lru.proofs.CallerLemmas.{Contains-lookup_entry}
use Rattle.note_log.specs.Files.{History}
use Rattle.note_log.specs.Line.{HasLine}
use Rattle.note_log.specs.Memory.{AllStand, Remembered}
use Rattle.note_log.specs.Recalled.{AllRecalled, EachStandsAt, IsOneLine, Puts, Recalled, Recalls, RecallsFirst, joined}
use Rattle.note_log.proofs.Lists.{at_head, not_in}
use Rattle.note_log.proofs.Standing.{Entry, eq, stand_put}

one_feed : lines_in (10 ∷ []) ≡ 1
one_feed = omega (arith, sum_by-cons (λ (b : ℕ). cond (ends_line b) 1 0) 10 [])

take_few : (n : ℕ) (es : Remembered) → length (take n es) ≤ length es
take_few n es = omega (arith, length-take n es)

-- ---- an entry more in a table

module _ (test : Vec ℕ Global → Bool) where
  removed : (es : Remembered) (f e : Entry) → lookup_entry test es ≡ Some f → Contains es e → (f ≡ e) ⊎ Contains (remove_entry test es) e
  removed [] f e h c = absurd (not_in e c)
  removed (x ∷ es) f e h c = (elim (test x.0) as (λ y. test x.0 ≡ y → (f ≡ e) ⊎ Contains (remove_entry test (x ∷ es)) e) [
    | true ↦ λ t. let h' = rw t at h in let same : x ≡ f = cc in elim (Contains-append_cases (x ∷ []) es e c) [
      | inl d ↦ elim (Contains-push_cases [] x e d) [
        | inl none ↦ absurd (not_in e none)
        | inr is ↦ inl (sym same ∙ is)
      ]
      | inr d ↦ inr (rw t d)
    ]
    | false ↦ λ t. elim (Contains-append_cases (x ∷ []) es e c) [
      | inl d ↦ elim (Contains-push_cases [] x e d) [
        | inl none ↦ absurd (not_in e none)
        | inr is ↦ inr (rw t (subst (Contains (x ∷ remove_entry test es)) is (at_head x (remove_entry test es))))
      ]
      | inr d ↦ elim (removed es f e (rw t at h) d) [
        | inl is ↦ inl is
        | inr r ↦ inr (rw t (Contains-append_right (x ∷ []) (remove_entry test es) e r))
      ]
    ]
  ]) refl

  fewer : (es : Remembered) → length (remove_entry test es) ≤ length es
  fewer [] = omega arith
  fewer (x ∷ es) = (elim (test x.0) as (λ y. test x.0 ≡ y → length (remove_entry test (x ∷ es)) ≤ length (x ∷ es)) [
    | true ↦ λ t. rw t (omega arith)
    | false ↦ λ t. rw t (omega (arith, fewer es))
  ]) refl

module _ (old : LruCache (Vec ℕ Global) ℕ) (line : Vec ℕ Global) (v : ℕ) where
  abbrev after : Option Entry → Remembered
  after o = option_map_or (λ (e : Entry). (e.0, v) ∷ remove_entry (eq line) old.entries) o ((line, v) ∷ take (old.cap - 1) old.entries)

  few_after : (o : Option Entry) → length (after o) ≤ length old.entries + 1
  few_after None = omega (arith, take_few (old.cap - 1) old.entries)
  few_after (Some f) = omega (arith, fewer (eq line) old.entries)

  put_after : (o : Option Entry) → lookup_entry (eq line) old.entries ≡ o → Recalled v (after o) line.items
  put_after None h = ((line, v), at_head (line, v) (take (old.cap - 1) old.entries), refl, refl)
  put_after (Some f) h =
      ((f.0, v), at_head (f.0, v) (remove_entry (eq line) old.entries), sym (same_text line.items f.0.items (sym (Contains-lookup_entry (eq line) old.entries f h).1)), refl)

  kept_after : (o : Option Entry) → lookup_entry (eq line) old.entries ≡ o → length old.entries < old.cap → (text : List ℕ) → Recalled v old.entries text → Recalled v (after o) text
  kept_after None h room text r =
      let all : take (old.cap - 1) old.entries ≡ old.entries = take_all (old.cap - 1) old.entries (omega (arith, room)) in
      (r.0, subst (λ (es : Remembered). Contains ((line, v) ∷ es) r.0) (sym all) (Contains-append_right ((line, v) ∷ []) old.entries r.0 r.1), r.2, r.3)
  kept_after (Some f) h room text r = elim (removed (eq line) old.entries f r.0 h r.1) [
    | inl same ↦ ((f.0, v), at_head (f.0, v) (remove_entry (eq line) old.entries), ap (λ (e : Entry). e.0.items) same ∙ r.2, refl)
    | inr there ↦ (r.0, Contains-append_right ((f.0, v) ∷ []) (remove_entry (eq line) old.entries) r.0 there, r.2, r.3)
  ]

-- ---- a line more

begins : (bytes : List ℕ) (number cap : ℕ) (before : Remembered) → RecallsFirst bytes bytes number cap before before
begins bytes number cap before = record {
  lines = [];
  parts = refl;
  ends = inl refl;
  count = refl;
  each = λ line c. absurd (not_in line c);
  few = omega arith;
  stand = λ history s each. s;
  all = λ room line c. absurd (not_in line c);
}

pub recalls_none : (bytes : List ℕ) (number cap : ℕ) (before : Remembered) → RecallsFirst bytes bytes number cap before before
recalls_none = begins

module _ (bytes rest : List ℕ) (number cap : ℕ) (before : Remembered) (old : LruCache (Vec ℕ Global) ℕ) (new : Remembered) (line : Vec ℕ Global) (behind : List ℕ)
    (r : RecallsFirst bytes rest number cap before old.entries) (room : old.cap ≡ cap) (f : IsFirst rest line.items behind) (is : new ≡ put_entries eq old line number) where
  abbrev o : Option Entry
  o = lookup_entry (eq line) old.entries

  abbrev more : List (List ℕ)
  more = r.lines ++ line.items ∷ []

  joined_more : joined more ≡ joined r.lines ++ line.items
  joined_more = flat_map-append (λ (l : List ℕ). l) r.lines (line.items ∷ []) ∙ ap (λ (t : List ℕ). joined r.lines ++ t) (append-nil line.items)

  rest_parts : rest ≡ line.items ++ behind
  rest_parts = f.whole ∙ sym (ap (λ (t : List ℕ). t ++ behind) f.ended ∙ append_assoc f.text (10 ∷ []) behind)

  there : HasLine line.items bytes
  there = record { before = joined r.lines; after = behind; parts = r.parts ∙ ap (λ (t : List ℕ). joined r.lines ++ t) rest_parts; starts = r.ends }

  stands : (history : History) → AllStand history before → EachStandsAt history number bytes → AllStand history (put_entries eq old line number)
  stands history s each = stand_put history old line number (r.stand history s each) (each line.items there)

  all_more : length before + length more ≤ cap → AllRecalled number (put_entries eq old line number) more
  all_more fits l c =
      let count = length-append r.lines (line.items ∷ []) in
      elim (Contains-push_cases r.lines line.items l c) [
        | inl was ↦ kept_after old line number o refl (omega (arith, r.few, room, fits, count)) l (r.all (omega (arith, fits, count)) l was)
        | inr same ↦ subst (Recalled number (put_entries eq old line number)) same (put_after old line number o refl)
      ]

  put_line : RecallsFirst bytes behind number cap before (put_entries eq old line number)
  put_line = record {
    lines = more;
    parts = r.parts ∙ ap (λ (t : List ℕ). joined r.lines ++ t) rest_parts ∙ sym (append_assoc (joined r.lines) line.items behind) ∙ ap (λ (t : List ℕ). t ++ behind) (sym joined_more);
    ends = inr (joined r.lines ++ f.text, joined_more ∙ ap (λ (t : List ℕ). joined r.lines ++ t) f.ended ∙ sym (append_assoc (joined r.lines) f.text (10 ∷ [])));
    count = omega (arith, r.count, ap lines_in joined_more ∙ lines_both (joined r.lines) line.items, ap lines_in f.ended ∙ lines_both f.text (10 ∷ []), no_lines f.text f.none, one_feed, length-append r.lines (line.items ∷ []));
    each = λ l c. elim (Contains-push_cases r.lines line.items l c) [
      | inl was ↦ r.each l was
      | inr same ↦ subst IsOneLine same (f.text, f.none, f.ended)
    ];
    few = omega (arith, r.few, few_after old line number o, length-append r.lines (line.items ∷ []));
    stand = stands;
    all = all_more;
  }

  pub recalls_more : RecallsFirst bytes behind number cap before new
  recalls_more = subst (RecallsFirst bytes behind number cap before) (sym is) put_line

pub recalls_line : (bytes rest line behind : List ℕ) (number cap : ℕ) (before : Remembered) (old new : LruCache (Vec ℕ Global) ℕ) → RecallsFirst bytes rest number cap before old.entries × (old.cap ≡ cap)
    → IsFirst rest line behind → Puts line number old new.entries → new.cap ≡ old.cap → RecallsFirst bytes behind number cap before new.entries × (new.cap ≡ cap)
recalls_line bytes rest line behind number cap before old new r f p same =
    let first : IsFirst rest p.0.items behind = subst (λ (l : List ℕ). IsFirst rest l behind) (sym p.1) f in
    (recalls_more bytes rest number cap before old new.entries p.0 behind r.0 r.1 first p.2, same ∙ r.1)

-- ---- all of them

no_rest : (rest : List ℕ) → EndsLine rest → HasNoFeed rest → rest ≡ []
no_rest rest (inl none) h = none
no_rest rest (inr line) h = absurd (omega (arith, no_lines rest h, ap lines_in line.1 ∙ lines_both line.0 (10 ∷ []), one_feed))

recalls_all : (bytes rest : List ℕ) (number cap : ℕ) (before remembered : Remembered) → RecallsFirst bytes rest number cap before remembered → EndsLine bytes → HasNoFeed rest
    → length before + lines_in bytes ≤ cap → Recalls bytes number remembered
recalls_all bytes rest number cap before remembered r ends none fits =
    let nothing : rest ≡ [] = no_rest rest (ends_rest (joined r.lines) rest (subst EndsLine r.parts ends)) none in
    let whole : bytes ≡ joined r.lines = r.parts ∙ ap (λ (t : List ℕ). joined r.lines ++ t) nothing ∙ append-nil (joined r.lines) in
    record { lines = r.lines; parts = whole; each = r.each; all = r.all (omega (arith, fits, ap lines_in whole, r.count)) }

pub recalls_each : (bytes rest : List ℕ) (number cap : ℕ) (before remembered : Remembered) → RecallsFirst bytes rest number cap before remembered → ∥ EndsLine bytes ∥₁ → HasNoFeed rest
    → length before + lines_in bytes ≤ cap → ∥ Recalls bytes number remembered ∥₁
recalls_each bytes rest number cap before remembered r ends none fits = ∥∥₁_map ends (λ (e : EndsLine bytes). recalls_all bytes rest number cap before remembered r e none fits)
