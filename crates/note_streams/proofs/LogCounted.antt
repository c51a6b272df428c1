-- What was counted of lines that rise, each once, is how many notes of each page the files hold.
use Rattle.std.proofs.Common.{◌≡◌, ◌≤◌, ◌<◌, ◌+◌, ◌^◌, ◌∙◌, ℕ, Bool, true, false, cond, unwrap_or, List, [], ◌∷◌, ◌++◌, length, map, filter, count_by, length-append, Option, Some, None, append_assoc, append-nil, zero-add, add-zero, refl, sym, ap, subst, inl, inr, ⊎_elim, arith}
use Rattle.std.proofs.lemmas.Bool.{cases_Bool}
use Rattle.std.proofs.lemmas.List.Sums.{count_by-le-length, length-filter, sum_by-append}
use Rattle.std.specs.BTreeMap.{is_at}
use Rattle.std.specs.List.{AllByRecursion, Contains}
use Rattle.std.specs.List.Sorted.{IsStrictlySortedBy}
use Rattle.std.specs.Map.{lookup}
use Rattle.std.specs.declared.cmp.Ordering.TheVariants.{Less}
use Rattle.book_core.specs.Page.{PageName, bytes_cmp, page_cmp, page_eq}
use Rattle.note_tallies.proofs.Refused.{no_hash, no_input}
use Rattle.note_tallies.specs.Lines.{IsSaid, Said, of_hash, of_input, said_line, said_page}
use Rattle.note_tallies.specs.Refusals.{SaysNothing}
use Rattle.note_lines.specs.Hashed.{Hashed, has_hash}
use Rattle.note_lines.specs.Note.{Noted}
use Rattle.note_lines.specs.Reading.{Reads, ReadsHashed}
use Rattle.note_tallies.proofs.Pages.{same_page}
use Rattle.note_streams.proofs.Among.{In, from_in, to_in}
use Rattle.note_streams.proofs.Members.{one_said, page_itself}
use Rattle.note_streams.specs.Counts.{AreCounts, CountsLine, CountsLines, HasOneMore, HasRoom, IsNoteOf, SayAll, SaysPage, counted_on}
use Rattle.note_streams.specs.LogLines.{all_lines}
use Rattle.note_streams.specs.LogRecorded.{IsHeldAs}
use Rattle.note_streams.specs.Sorted.{AreDistinct}

-- ---- what a line says

pub hashed_says : (line : List ℕ) (note : Hashed) → ReadsHashed line (Some note) → SaysPage line (Some note.page)
hashed_says line note reads = (of_hash note, reads.0, reads.1, refl)

pub hashed_says_nothing : (line : List ℕ) → has_hash line ≡ true → ReadsHashed line None → SaysPage line None
hashed_says_nothing line kind reads = no_hash line kind reads

pub input_says : (line : List ℕ) (note : Noted) → Reads line (Some note) → SaysPage line (Some note.page)
input_says line note reads = (of_input note, reads.0, reads.1, refl)

pub input_says_nothing : (line : List ℕ) → has_hash line ≡ false → Reads line None → SaysPage line None
input_says_nothing line kind reads = no_input line kind reads

-- ---- one more

module _ (old new : List (PageName × ℕ)) (page : PageName) (count : ℕ) (is : count ≡ counted_on old page) where
  by_page : (q : PageName) (b : Bool) → page_eq page q ≡ b → unwrap_or (cond b (Some (count + 1)) (lookup (is_at (page_cmp q)) old)) 0 ≡ counted_on old q + cond b 1 0
  by_page q true same = ap (λ (n : ℕ). n + 1) (is ∙ ap (counted_on old) (same_page page q same))
  by_page q false other = sym (add-zero (counted_on old q))

  pub set_one : ((q : PageName) → lookup (is_at (page_cmp q)) new ≡ cond (page_eq page q) (Some (count + 1)) (lookup (is_at (page_cmp q)) old)) → HasOneMore old page new
  set_one all q = ap (λ (o : Option ℕ). unwrap_or o 0) (all q) ∙ by_page q (page_eq page q) refl

-- the line is that of a note of this page, or of none
pub counts_one : (old new : List (PageName × ℕ)) (line : List ℕ) (page : PageName) → SaysPage line (Some page) → HasOneMore old page new → CountsLine old line new
counts_one old new line page says more = inr (says.0, says.1, says.2, subst (λ (p : PageName). HasOneMore old p new) (sym says.3) more)

-- ---- lines that say something, and lines that say nothing

say_more : (lines : List (List ℕ)) (saids : List Said) (line : List ℕ) (said : Said) → IsSaid said → line ≡ said_line said → SayAll lines saids → SayAll (lines ++ line ∷ []) (saids ++ said ∷ [])
say_more [] saids line said is same say = inr (said, [], ap (λ (ss : List Said). ss ++ said ∷ []) say, is, same, refl)
say_more (l ∷ ls) saids line said is same (inl none) = inl (none.0, say_more ls saids line said is same none.1)
say_more (l ∷ ls) saids line said is same (inr some) = inr (some.0, some.1 ++ said ∷ [], ap (λ (ss : List Said). ss ++ said ∷ []) some.2, some.3, some.4, say_more ls some.1 line said is same some.5)

say_no_more : (lines : List (List ℕ)) (saids : List Said) (line : List ℕ) → SaysNothing line → SayAll lines saids → SayAll (lines ++ line ∷ []) saids
say_no_more [] saids line nothing say = inl (nothing, say)
say_no_more (l ∷ ls) saids line nothing (inl none) = inl (none.0, say_no_more ls saids line nothing none.1)
say_no_more (l ∷ ls) saids line nothing (inr some) = inr (some.0, some.1, some.2, some.3, some.4, say_no_more ls some.1 line nothing some.5)

no_more_said : (lines : List (List ℕ)) (saids : List Said) → SayAll lines saids → length saids ≤ length lines
no_more_said [] saids say = let none : length saids ≡ 0 = ap length say in omega (arith, none)
no_more_said (l ∷ ls) saids (inl none) = let few = no_more_said ls saids none.1 in omega (arith, few)
no_more_said (l ∷ ls) saids (inr some) = let few = no_more_said ls some.1 some.5 in let all = ap length some.2 in omega (arith, few, all)

each_said : (P : List ℕ → Type 0) (lines : List (List ℕ)) (saids : List Said) → ((l : List ℕ) → In l lines → P l) → SayAll lines saids → AllByRecursion (λ (s : Said). IsSaid s × P (said_line s)) saids
each_said P [] saids holds say = subst (AllByRecursion (λ (s : Said). IsSaid s × P (said_line s))) (sym say) tt
each_said P (l ∷ ls) saids holds (inl none) = each_said P ls saids (λ k there. holds k (inr there)) none.1
each_said P (l ∷ ls) saids holds (inr some) =
    subst (AllByRecursion (λ (s : Said). IsSaid s × P (said_line s))) (sym some.2)
    ((some.3, subst P some.4 (holds l (inl refl))), each_said P ls some.1 (λ k there. holds k (inr there)) some.5)

-- what has its line among them is said
said_there : (lines : List (List ℕ)) (saids : List Said) (said : Said) → IsSaid said → SayAll lines saids → In (said_line said) lines → In said saids
said_there [] saids said is say there = absurd there
said_there (l ∷ ls) saids said is (inl none) (inl here) = absurd (none.0 said is here)
said_there (l ∷ ls) saids said is (inl none) (inr there) = said_there ls saids said is none.1 there
said_there (l ∷ ls) saids said is (inr some) (inl here) = subst (In said) (sym some.2) (inl (one_said some.0 said some.3 is (sym some.4 ∙ here)))
said_there (l ∷ ls) saids said is (inr some) (inr there) = subst (In said) (sym some.2) (inr (said_there ls some.1 said is some.5 there))

said_above : (x : List ℕ) (lines : List (List ℕ)) (saids : List Said) → AllByRecursion (λ (l : List ℕ). bytes_cmp x l ≡ Less) lines → SayAll lines saids → AllByRecursion (λ (l : List ℕ). bytes_cmp x l ≡ Less) (map said_line saids)
said_above x [] saids all say = subst (λ (ss : List Said). AllByRecursion (λ (l : List ℕ). bytes_cmp x l ≡ Less) (map said_line ss)) (sym say) tt
said_above x (l ∷ ls) saids all (inl none) = said_above x ls saids all.1 none.1
said_above x (l ∷ ls) saids all (inr some) =
    subst (λ (ss : List Said). AllByRecursion (λ (l : List ℕ). bytes_cmp x l ≡ Less) (map said_line ss)) (sym some.2)
    (subst (λ (k : List ℕ). bytes_cmp x k ≡ Less) some.4 all.0, said_above x ls some.1 all.1 some.5)

-- where lines rise, so do those that say something
said_rising : (lines : List (List ℕ)) (saids : List Said) → IsStrictlySortedBy bytes_cmp lines → SayAll lines saids → IsStrictlySortedBy bytes_cmp (map said_line saids)
unfolding IsStrictlySortedBy
said_rising [] saids rising say = subst (λ (ss : List Said). IsStrictlySortedBy bytes_cmp (map said_line ss)) (sym say) tt
said_rising (l ∷ ls) saids rising (inl none) = said_rising ls saids rising.1 none.1
said_rising (l ∷ ls) saids rising (inr some) =
    subst (λ (ss : List Said). IsStrictlySortedBy bytes_cmp (map said_line ss)) (sym some.2)
    (subst (λ (k : List ℕ). AllByRecursion (λ (y : List ℕ). bytes_cmp k y ≡ Less) (map said_line some.1)) some.4 (said_above l ls some.1 rising.0 some.5), said_rising ls some.1 rising.1 some.5)

-- ---- some of what is said

module _ (p : Said → Bool) where
  taken : (s : Said) (ss : List Said) → p s ≡ true → filter p (s ∷ ss) ≡ s ∷ filter p ss
  taken s ss is = rw is refl

  left_out : (s : Said) (ss : List Said) → p s ≡ false → filter p (s ∷ ss) ≡ filter p ss
  left_out s ss is = rw is refl

  lines_of_some : (P : List ℕ → Type 0) (ss : List Said) → AllByRecursion P (map said_line ss) → AllByRecursion P (map said_line (filter p ss))
  lines_of_some P [] all = tt
  lines_of_some P (s ∷ ss) all =
      let later = lines_of_some P ss all.1 in
      ⊎_elim
      (λ (is : p s ≡ true). subst (λ (xs : List Said). AllByRecursion P (map said_line xs)) (sym (taken s ss is)) (all.0, later))
      (λ (is : p s ≡ false). subst (λ (xs : List Said). AllByRecursion P (map said_line xs)) (sym (left_out s ss is)) later)
      (cases_Bool (p s))

  some_rising : (ss : List Said) → IsStrictlySortedBy bytes_cmp (map said_line ss) → IsStrictlySortedBy bytes_cmp (map said_line (filter p ss))
  unfolding IsStrictlySortedBy
  some_rising [] rising = tt
  some_rising (s ∷ ss) rising =
      let later = some_rising ss rising.1 in
      ⊎_elim
      (λ (is : p s ≡ true). subst (λ (xs : List Said). IsStrictlySortedBy bytes_cmp (map said_line xs)) (sym (taken s ss is)) (lines_of_some (λ (y : List ℕ). bytes_cmp (said_line s) y ≡ Less) ss rising.0, later))
      (λ (is : p s ≡ false). subst (λ (xs : List Said). IsStrictlySortedBy bytes_cmp (map said_line xs)) (sym (left_out s ss is)) later)
      (cases_Bool (p s))

  all_of_some : (P Q : Said → Type 0) → ((s : Said) → p s ≡ true → P s → Q s) → (ss : List Said) → AllByRecursion P ss → AllByRecursion Q (filter p ss)
  all_of_some P Q gives [] all = tt
  all_of_some P Q gives (s ∷ ss) all =
      let later = all_of_some P Q gives ss all.1 in
      ⊎_elim
      (λ (is : p s ≡ true). subst (AllByRecursion Q) (sym (taken s ss is)) (gives s is all.0, later))
      (λ (is : p s ≡ false). subst (AllByRecursion Q) (sym (left_out s ss is)) later)
      (cases_Bool (p s))

  in_some : (ss : List Said) (x : Said) → p x ≡ true → In x ss → In x (filter p ss)
  in_some [] x is there = absurd there
  in_some (s ∷ ss) x is (inl here) = subst (In x) (sym (taken s ss (ap p here ∙ is))) (inl here)
  in_some (s ∷ ss) x is (inr there) =
      let later = in_some ss x is there in
      ⊎_elim
      (λ (here : p s ≡ true). subst (In x) (sym (taken s ss here)) (inr later))
      (λ (other : p s ≡ false). subst (In x) (sym (left_out s ss other)) later)
      (cases_Bool (p s))

-- ---- the whole

abbrev is_of : PageName → Said → Bool
is_of page said = page_eq (said_page said) page

pub counted : (files lines : List (List ℕ)) (counts : List (PageName × ℕ)) → AreDistinct files lines → CountsLines lines counts → AreCounts files counts
counted files lines counts are all page =
    let stands = each_said (Contains (all_lines files)) lines all.saids (λ l there. are.each l (from_in lines l there)) all.say in
    record {
      notes = filter (is_of page) all.saids;
      recorded = record {
        once = some_rising (is_of page) all.saids (said_rising lines all.saids are.rising all.say);
        each = all_of_some (is_of page) (λ (s : Said). IsSaid s × Contains (all_lines files) (said_line s)) (IsHeldAs (IsNoteOf page) said_line files)
            (λ s is here. record { one = record { one = here.0; page_is = same_page (said_page s) page is }; there = here.1 }) all.saids stands;
        all = λ said held.
            from_in (filter (is_of page) all.saids) said
            (in_some (is_of page) all.saids said (ap (λ (q : PageName). page_eq q page) held.one.page_is ∙ page_itself page)
            (said_there lines all.saids said held.one.one all.say (to_in lines (said_line said) (are.all (said_line said) held.there))));
      };
      count = all.each page ∙ sym (length-filter (is_of page) all.saids);
    }

-- ---- one line after another

pub record Counted (lines rest : List (List ℕ)) (counts : List (PageName × ℕ)) : Type 0 where
  pub before : List (List ℕ)
  pub split : lines ≡ before ++ rest
  pub numbers : CountsLines before counts

pub counted_none : (lines : List (List ℕ)) (counts : List (PageName × ℕ)) → counts ≡ [] → Counted lines lines counts
counted_none lines counts none = record {
  before = [];
  split = refl;
  numbers = record { saids = []; say = refl; each = λ page. ap (λ (es : List (PageName × ℕ)). counted_on es page) none };
}

one_more : (p : Said → Bool) (ss : List Said) (s : Said) → count_by p (ss ++ s ∷ []) ≡ count_by p ss + cond (p s) 1 0
one_more p ss s = sum_by-append (λ (x : Said). cond (p x) 1 0) ss (s ∷ []) ∙ ap (λ (n : ℕ). count_by p ss + n) (zero-add (cond (p s) 1 0))

module _ (lines rest others : List (List ℕ)) (line : List ℕ) (is : rest ≡ line ∷ others) (old new : List (PageName × ℕ)) (so_far : Counted lines rest old) where
  split_next : lines ≡ (so_far.before ++ line ∷ []) ++ others
  split_next = so_far.split ∙ ap (λ (ls : List (List ℕ)). so_far.before ++ ls) is ∙ sym (append_assoc so_far.before (line ∷ []) others)

  pub counted_next : CountsLine old line new → Counted lines others new
  counted_next (inl none) = record {
    before = so_far.before ++ line ∷ [];
    split = split_next;
    numbers = record {
      saids = so_far.numbers.saids;
      say = say_no_more so_far.before so_far.numbers.saids line none.0 so_far.numbers.say;
      each = λ page. ap (λ (es : List (PageName × ℕ)). counted_on es page) none.1 ∙ so_far.numbers.each page;
    };
  }
  counted_next (inr some) = record {
    before = so_far.before ++ line ∷ [];
    split = split_next;
    numbers = record {
      saids = so_far.numbers.saids ++ some.0 ∷ [];
      say = say_more so_far.before so_far.numbers.saids line some.0 some.1 some.2 so_far.numbers.say;
      each = λ page.
          some.3 page
          ∙ ap (λ (n : ℕ). n + cond (page_eq (said_page some.0) page) 1 0) (so_far.numbers.each page)
          ∙ sym (one_more (is_of page) so_far.numbers.saids some.0);
    };
  }

-- where a line is left, no number is that of the lines
pub has_room : (lines rest : List (List ℕ)) (counts : List (PageName × ℕ)) → Counted lines rest counts → 0 < length rest → length lines < 2 ^ 64 → HasRoom counts
has_room lines rest counts so_far some fits page =
    let all : length lines ≡ length so_far.before + length rest = ap length so_far.split ∙ length-append so_far.before rest in
    let few = no_more_said so_far.before so_far.numbers.saids so_far.numbers.say in
    let counted = count_by-le-length (is_of page) so_far.numbers.saids in
    let number = so_far.numbers.each page in
    omega (arith, all, few, counted, number, fits, some)

pub counted_all : (lines rest : List (List ℕ)) (counts : List (PageName × ℕ)) → rest ≡ [] → Counted lines rest counts → CountsLines lines counts
counted_all lines rest counts none all =
    subst (λ (ls : List (List ℕ)). CountsLines ls counts) (sym (all.split ∙ ap (λ (ls : List (List ℕ)). all.before ++ ls) none ∙ append-nil all.before)) all.numbers
