-- Of what lines say, what is of one page.
use Rattle.std.proofs.Common.{◌≡◌, ℕ, true, false, List, [], ◌∷◌, map, filter, refl, sym, ap, ◌∙◌, subst, inl, inr, ⊎_elim}
use Rattle.std.proofs.lemmas.Bool.{cases_Bool}
use Rattle.std.specs.Cmp.{tied_itself}
use Rattle.std.specs.List.{AllByRecursion}
use Rattle.std.specs.Ordering.{is_eq}
use Rattle.book_core.specs.Page.{PageName, page_eq}
use Rattle.book_core.specs.PageOrder.{pages_total}
use Rattle.flag_text.specs.Printing.{text_of}
use Rattle.note_tallies.specs.Lines.{IsSaid, Said, of_hash, of_input, said_line}
use Rattle.note_lines.proofs.Lines as notes
use Rattle.note_lines.proofs.OneKind.{not_both}
use Rattle.note_lines.specs.Hashed.{Hashed, hashed_line}
use Rattle.note_lines.specs.Note.{Noted, note_line}
use Rattle.note_tallies.proofs.Pages.{same_page}
use Rattle.note_tallies.specs.Tally.{hashed_on, noted_on}
use Rattle.note_tallies.specs.Blank.{is_blank}
use Rattle.note_tallies.specs.Filter.{AreLinesOf}
use Rattle.note_streams.proofs.Among.{In}
use Rattle.note_streams.specs.Stray.{AreKept}

differs : {Y : Type 0} → true ≡ false → Y
differs h = cc

-- ---- what one line says

-- what is said is not blank
note_written : (note : Noted) → is_blank (note_line note) ≡ false
unfolding note_line text_of
note_written note = refl

hash_written : (note : Hashed) → is_blank (hashed_line note) ≡ false
unfolding hashed_line text_of
hash_written note = refl

pub not_blank : (said : Said) → is_blank (said_line said) ≡ false
not_blank (of_input note) = note_written note
not_blank (of_hash note) = hash_written note

-- a line says one thing
pub one_said : (a b : Said) → IsSaid a → IsSaid b → said_line a ≡ said_line b → a ≡ b
one_said (of_input a) (of_input b) is also same = ap of_input (notes.one_note a b is also same)
one_said (of_hash a) (of_hash b) is also same = ap of_hash (notes.one_hashed a b is also same)
one_said (of_input a) (of_hash b) is also same = absurd (not_both a b also same)
one_said (of_hash a) (of_input b) is also same = absurd (not_both b a is (sym same))

-- ---- what lines say

-- it holds of what is said, where it holds of the lines
pub each_said : (P : List ℕ → Type 0) (lines : List (List ℕ)) (saids : List Said) → ((l : List ℕ) → In l lines → P l) → AreLinesOf lines saids → AllByRecursion (λ (s : Said). IsSaid s × P (said_line s)) saids
each_said P [] saids holds are = subst (AllByRecursion (λ (s : Said). IsSaid s × P (said_line s))) (sym are) tt
each_said P (l ∷ ls) saids holds (inl blank) = each_said P ls saids (λ k there. holds k (inr there)) blank.1
each_said P (l ∷ ls) saids holds (inr some) =
    subst (AllByRecursion (λ (s : Said). IsSaid s × P (said_line s))) (sym some.2)
    ((some.3, subst P some.4 (holds l (inl refl))), each_said P ls some.1 (λ k there. holds k (inr there)) some.5)

-- what has its line among them is said
pub said_there : (lines : List (List ℕ)) (saids : List Said) (said : Said) → IsSaid said → AreLinesOf lines saids → In (said_line said) lines → In said saids
said_there [] saids said is are there = absurd there
said_there (l ∷ ls) saids said is (inl blank) (inl here) = differs (sym blank.0 ∙ ap is_blank here ∙ not_blank said)
said_there (l ∷ ls) saids said is (inl blank) (inr there) = said_there ls saids said is blank.1 there
said_there (l ∷ ls) saids said is (inr some) (inl here) = subst (In said) (sym some.2) (inl (one_said some.0 said some.3 is (sym some.4 ∙ here)))
said_there (l ∷ ls) saids said is (inr some) (inr there) = subst (In said) (sym some.2) (inr (said_there ls some.1 said is some.5 there))

pub kept_lines : (lines : List (List ℕ)) (saids : List Said) → AreLinesOf lines saids → AreKept lines
kept_lines [] saids are = tt
kept_lines (l ∷ ls) saids (inl blank) = (inl blank.0, kept_lines ls saids blank.1)
kept_lines (l ∷ ls) saids (inr some) = (inr (some.0, some.3, some.4), kept_lines ls some.1 some.5)

-- ---- those of a page

pub page_itself : (page : PageName) → page_eq page page ≡ true
page_itself page = ap is_eq (tied_itself pages_total page)

pub note_is_on : (note : Noted) (page : PageName) → page_eq note.page page ≡ true → note ≡ noted_on page note.input
note_is_on note page same = let p = same_page note.page page same in λ i. record { page = p i; input = note.input }

pub hashed_is_on : (note : Hashed) (page : PageName) → page_eq note.page page ≡ true → note ≡ hashed_on page note.hash
hashed_is_on note page same = let p = same_page note.page page same in λ i. record { page = p i; hash = note.hash }

module _ {N X : Type 0} (page_of : N → PageName) (part : N → X) (page : PageName) where
  -- the parts of those that are of the page
  abbrev pub members : List N → List X
  members ns = map part (filter (λ n. page_eq (page_of n) page) ns)

  member_here : (n : N) (ns : List N) → page_eq (page_of n) page ≡ true → members (n ∷ ns) ≡ part n ∷ members ns
  member_here n ns same = rw same refl

  member_there : (n : N) (ns : List N) → page_eq (page_of n) page ≡ false → members (n ∷ ns) ≡ members ns
  member_there n ns other = rw other refl

  module _ (on : X → N) where
    pub all_members : ((n : N) → page_eq (page_of n) page ≡ true → n ≡ on (part n)) → (P : N → Type 0) (ns : List N) → AllByRecursion P ns → AllByRecursion (λ (x : X). P (on x)) (members ns)
    all_members back P [] all = tt
    all_members back P (n ∷ ns) all =
        let later = all_members back P ns all.1 in
        ⊎_elim
        (λ (same : page_eq (page_of n) page ≡ true). subst (AllByRecursion (λ (x : X). P (on x))) (sym (member_here n ns same)) (subst P (back n same) all.0, later))
        (λ (other : page_eq (page_of n) page ≡ false). subst (AllByRecursion (λ (x : X). P (on x))) (sym (member_there n ns other)) later)
        (cases_Bool (page_eq (page_of n) page))

    pub in_members : (ns : List N) (x : X) → page_eq (page_of (on x)) page ≡ true → part (on x) ≡ x → In (on x) ns → In x (members ns)
    in_members [] x same its there = absurd there
    in_members (n ∷ ns) x same its (inl here) =
        let on_page : page_eq (page_of n) page ≡ true = ap (λ (m : N). page_eq (page_of m) page) here ∙ same in
        subst (In x) (sym (member_here n ns on_page)) (inl (ap part here ∙ its))
    in_members (n ∷ ns) x same its (inr there) =
        let later = in_members ns x same its there in
        ⊎_elim
        (λ (here : page_eq (page_of n) page ≡ true). subst (In x) (sym (member_here n ns here)) (inr later))
        (λ (other : page_eq (page_of n) page ≡ false). subst (In x) (sym (member_there n ns other)) later)
        (cases_Bool (page_eq (page_of n) page))

-- ---- of one kind

pub all_map : {N : Type 0} (say : N → Said) (P : Said → Type 0) (ns : List N) → AllByRecursion P (map say ns) → AllByRecursion (λ (n : N). P (say n)) ns
all_map say P [] all = tt
all_map say P (n ∷ ns) all = (all.0, all_map say P ns all.1)

same_note : (a b : Noted) → of_input a ≡ of_input b → a ≡ b
same_note a b e = cc

same_hashed : (a b : Hashed) → of_hash a ≡ of_hash b → a ≡ b
same_hashed a b e = cc

pub in_notes : (ns : List Noted) (n : Noted) → In (of_input n) (map of_input ns) → In n ns
in_notes [] n there = absurd there
in_notes (m ∷ ms) n (inl here) = inl (same_note m n here)
in_notes (m ∷ ms) n (inr there) = inr (in_notes ms n there)

pub in_hashes : (ns : List Hashed) (n : Hashed) → In (of_hash n) (map of_hash ns) → In n ns
in_hashes [] n there = absurd there
in_hashes (m ∷ ms) n (inl here) = inl (same_hashed m n here)
in_hashes (m ∷ ms) n (inr there) = inr (in_hashes ms n there)

pub no_hash_in : (ns : List Noted) (n : Hashed) → In (of_hash n) (map of_input ns) → ⊥
no_hash_in [] n there = there
no_hash_in (m ∷ ms) n (inl here) = cc
no_hash_in (m ∷ ms) n (inr there) = no_hash_in ms n there

pub no_note_in : (ns : List Hashed) (n : Noted) → In (of_input n) (map of_hash ns) → ⊥
no_note_in [] n there = there
no_note_in (m ∷ ms) n (inl here) = cc
no_note_in (m ∷ ms) n (inr there) = no_note_in ms n there
