-- Texts in parts.
use Rattle.std.proofs.Common.{◌≡◌, ◌<◌, ◌≤◌, ◌^◌, ◌+◌, ◌-◌, ℕ, Bool, true, false, List, [], ◌∷◌, ◌++◌, length, take, take-add, drop, pos, nat_lt, refl, sym, ap, ap₂, ◌∙◌, subst, Bor, Vec, Global, arith}
use Rattle.std.proofs.lemmas.Bool.{lt-ltb, ltb-true, ltb-false}
use Rattle.std.proofs.lemmas.List.{append_cancel_left, length-append, length-take}
use Rattle.std.specs.Prelude.{Option, MatchOption, None, Some}
use Rattle.bucket_core.specs.Rule.{Entries}
use Rattle.flag_text.specs.Shape.{text, whole, is_whole}
use Rattle.logic_ast.specs.Writing.{pair}
use Rattle.text_spans.specs.Path.{Stands, Step, index}
use Rattle.text_spans.specs.View.{IsFound, old_of}
use Rattle.text_spans.specs.declared.finding.Span.{Span}
use Rattle.text_spans.proofs.Placed.{one_place}
use Rattle.kept_document.specs.Kept.{IsKept, IsMark, entries_text}

pub pair_is_whole : (s : List ℕ) (n : ℕ) → n < 2 ^ 53 → is_whole (pair (text s) (whole (pos n))) ≡ true
pair_is_whole s n h = rw (lt-ltb n (2 ^ 53) h) refl

-- up to b is up to a, and from there up to b
parts : (t : List ℕ) (a b : ℕ) → a ≤ b → take a t ++ take (b - a) (drop a t) ≡ take b t
parts t a b le = let e : a + (b - a) ≡ b = omega (arith, le) in sym (take-add a (b - a) t) ∙ ap (λ k. take k t) e

-- ---- the mark

abbrev mark_path : List Step → ℕ → List Step
mark_path path first = path ++ index (first + 1) ∷ []

pub one_bucket : (d : List ℕ) (path : List Step) (first last : ℕ) (before : List ℕ) → last ≤ first → IsMark d path first last before (44 ∷ [])
one_bucket d path first last before le = record { alone = λ h. refl; between = λ h. absurd (omega (arith, le, h)) }

pub mark_there : (d : List ℕ) (path : List Step) (first last e s : ℕ) (old back mark : List ℕ) → first < last → Stands d (mark_path path first) (take s d) old back → e ≤ s → mark ≡ take (s - e) (drop e d)
    → IsMark d path first last (take e d) mark
mark_there d path first last e s old back mark less stands le is = record {
  alone = λ h. absurd (omega (arith, less, h));
  between = λ h.
      (old, back, subst (λ (f : List ℕ). Stands d (mark_path path first) f old back) (sym (ap (λ m. take e d ++ m) is ∙ parts d e s le)) stands);
}

pub no_second : (d : List ℕ) (path : List Step) (first last : ℕ) (before mark : List ℕ) → first < last → ((front old back : List ℕ) → Stands d (mark_path path first) front old back → ⊥)
    → IsMark d path first last before mark → ⊥
no_second d path first last before mark less none m = let h = m.between less in none (before ++ mark) h.0 h.1 h.2

-- the second would stand in front of the first
pub not_behind : (d : List ℕ) (path : List Step) (first last e s : ℕ) (old back mark : List ℕ) → first < last → Stands d (mark_path path first) (take s d) old back → e ≤ length d → s < e
    → IsMark d path first last (take e d) mark → ⊥
not_behind d path first last e s old back mark less stands le past m =
    let h = m.between less in
    let same : take e d ++ mark ≡ take s d = (one_place d (mark_path path first) (take e d ++ mark) h.0 h.1 (take s d) old back h.2 stands).0 in
    omega (arith, ap length same, length-append (take e d) mark, length-take e d, length-take s d, le, past)

marks_same : (d : List ℕ) (path : List Step) (first last : ℕ) (before m other n : List ℕ) → IsMark d path first last before m → IsMark d path first last other n → before ≡ other → m ≡ n
marks_same d path first last before m other n p q same = by (nat_lt first last) refl
  where
    by : (b : Bool) → nat_lt first last ≡ b → m ≡ n
    by false e = let le : last ≤ first = omega (arith, ltb-false first last e) in p.alone le ∙ sym (q.alone le)
    by true e =
        let less = ltb-true first last e in
        let h = p.between less in
        let g = q.between less in
        let fronts : before ++ m ≡ other ++ n = (one_place d (mark_path path first) (before ++ m) h.0 h.1 (other ++ n) g.0 g.1 h.2 g.2).0 in
        append_cancel_left other m n (ap (λ l. l ++ m) (sym same) ∙ fronts)

-- what was told of the mark
abbrev pub MarkOf : List ℕ → List Step → ℕ → ℕ → List ℕ → Option (Bor (List ℕ)) → Type 0
MarkOf d path first last before o = MatchOption o ((mark : List ℕ) → IsMark d path first last before mark → ⊥) (λ m. IsMark d path first last before m.now)

pub mark_none : (d : List ℕ) (path : List Step) (first last : ℕ) (before : List ℕ) (o : Option (Bor (List ℕ))) → MarkOf d path first last before o → o ≡ None → (mark : List ℕ) → IsMark d path first last before mark → ⊥
mark_none d path first last before o told is = subst (MarkOf d path first last before) is told

pub mark_some : (d : List ℕ) (path : List Step) (first last : ℕ) (before : List ℕ) (o : Option (Bor (List ℕ))) (m : Bor (List ℕ)) → MarkOf d path first last before o → o ≡ Some m → IsMark d path first last before m.now
mark_some d path first last before o m told is = subst (MarkOf d path first last before) is told

-- ---- the text

found_some : (d : List ℕ) (path : List Step) (o : Option Span) (s : Span) → IsFound d path o → o ≡ Some s → Stands d path (take s.start d) (old_of d s) (drop s.end d)
found_some d path o s found is = subst (λ p. IsFound d path p) is found

found_none : (d : List ℕ) (path : List Step) (o : Option Span) → IsFound d path o → o ≡ None → (front old back : List ℕ) → Stands d path front old back → ⊥
found_none d path o found is = subst (λ p. IsFound d path p) is found

up_to : (d : List ℕ) (s : Span) → s.start ≤ s.end → take s.start d ++ old_of d s ≡ take s.end d
up_to d s le = parts d s.start s.end le

module _ (d : List ℕ) (path : List Step) (first last : ℕ) (rule : Entries) where
  pub no_first : (o : Option Span) → IsFound d (path ++ index first ∷ []) o → o ≡ None → (kept : List ℕ) → IsKept d path first last rule kept → ⊥
  no_first o found is kept k = found_none d (path ++ index first ∷ []) o found is k.front k.one k.behind_one k.begins

  pub no_last : (other : List Step) (o : Option Span) → other ≡ path → IsFound d (other ++ index last ∷ []) o → o ≡ None → (kept : List ℕ) → IsKept d path first last rule kept → ⊥
  no_last other o same found is kept k =
      found_none d (other ++ index last ∷ []) o found is k.before_other k.other k.back (subst (λ (p : List Step). Stands d (p ++ index last ∷ []) k.before_other k.other k.back) (sym same) k.ends)

  pub no_mark : (other : List Step) (o : Option Span) (s : Span) → IsFound d (path ++ index first ∷ []) o → o ≡ Some s → s.start ≤ s.end → other ≡ path
      → ((mark : List ℕ) → IsMark d other first last (take s.end d) mark → ⊥) → (kept : List ℕ) → IsKept d path first last rule kept → ⊥
  no_mark other o s found is le same none kept k =
      let at = one_place d (path ++ index first ∷ []) k.front k.one k.behind_one (take s.start d) (old_of d s) (drop s.end d) k.begins (found_some d (path ++ index first ∷ []) o s found is) in
      let front : k.front ++ k.one ≡ take s.end d = ap₂ (λ a b. a ++ b) at.0 at.1 ∙ up_to d s le in
      none k.mark (subst (λ (p : List Step). IsMark d p first last (take s.end d) k.mark) (sym same) (subst (λ (b : List ℕ). IsMark d path first last b k.mark) front k.marked))

  pub kept_there : (second third : List Step) (o p : Option Span) (s t : Span) (mark out : List ℕ) → IsFound d (path ++ index first ∷ []) o → o ≡ Some s → s.start ≤ s.end → second ≡ path
      → IsFound d (second ++ index last ∷ []) p → p ≡ Some t → third ≡ path → IsMark d third first last (take s.end d) mark → out ≡ take s.start d ++ (entries_text mark false rule ++ drop t.end d)
      → IsKept d path first last rule out
  kept_there second third o p s t mark out found is le same found_last is_last same_third marked made = record {
    front = take s.start d;
    one = old_of d s;
    behind_one = drop s.end d;
    before_other = take t.start d;
    other = old_of d t;
    back = drop t.end d;
    mark = mark;
    begins = found_some d (path ++ index first ∷ []) o s found is;
    ends = subst (λ (q : List Step). Stands d (q ++ index last ∷ []) (take t.start d) (old_of d t) (drop t.end d)) same (found_some d (second ++ index last ∷ []) p t found_last is_last);
    marked = subst (λ (b : List ℕ). IsMark d path first last b mark) (sym (up_to d s le)) (subst (λ (q : List Step). IsMark d q first last (take s.end d) mark) same_third marked);
    is = made;
  }

  -- There is one such text.
  pub one_kept : (kept other : List ℕ) → IsKept d path first last rule kept → IsKept d path first last rule other → other ≡ kept
  one_kept kept other a b =
      let begins = one_place d (path ++ index first ∷ []) b.front b.one b.behind_one a.front a.one a.behind_one b.begins a.begins in
      let ends = one_place d (path ++ index last ∷ []) b.before_other b.other b.back a.before_other a.other a.back b.ends a.ends in
      let marks = marks_same d path first last (b.front ++ b.one) b.mark (a.front ++ a.one) a.mark b.marked a.marked (ap₂ (λ x y. x ++ y) begins.0 begins.1) in
      b.is ∙ ap (λ f. f ++ (entries_text b.mark false rule ++ b.back)) begins.0 ∙ ap (λ m. a.front ++ (entries_text m false rule ++ b.back)) marks
      ∙ ap (λ l. a.front ++ (entries_text a.mark false rule ++ l)) ends.2 ∙ sym a.is

-- what was told of the text
abbrev pub TextOf : List ℕ → List Step → ℕ → ℕ → Entries → Option (Vec ℕ Global) → Type 0
TextOf d path first last rule o = MatchOption o ((kept : List ℕ) → IsKept d path first last rule kept → ⊥) (λ v. IsKept d path first last rule v.items)

pub text_some : (d : List ℕ) (path : List Step) (first last : ℕ) (rule : Entries) (o : Option (Vec ℕ Global)) (v : Vec ℕ Global) → TextOf d path first last rule o → o ≡ Some v → IsKept d path first last rule v.items
text_some d path first last rule o v told is = subst (TextOf d path first last rule) is told
