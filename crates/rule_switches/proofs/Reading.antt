-- Inputs that are read and counted one by one.
use Rattle.std.proofs.Common.{◌≡◌, ℕ, ◌+◌, ◌<◌, ◌≤◌, ◌^◌, List, [], ◌∷◌, ◌++◌, length, append-nil, append_assoc, refl, sym, ap, ◌∙◌, subst, arith}
use Rattle.book_core.specs.Book.{Inputs}
use Rattle.book_core.specs.Reading.{FileLine, adds, leading, lines_of, pages_in}
use Rattle.bucket_core.specs.Rule.{Entries}
use Rattle.rule_switches.specs.Counted.{IsCounted, Reads}
use Rattle.rule_switches.specs.Found.{users_in}
use Rattle.rule_switches.specs.declared.page_counting.Counted as program
use Rattle.rule_switches.specs.Counting.{Adds, Counted, HasCounted, names_of}
use Rattle.rule_switches.specs.Switches.{AreSwitches, Rows, rows_view}

module _ (one other : Entries) (bytes : List ℕ) where
  -- these were counted, and those that stand first among the rest are left
  pub record Taken (rest : List ℕ) (s : Counted) : Type 0 where
    pub before : s.before ≡ one
    pub after : s.after ≡ other
    pub span : s.span ≡ 2 ^ 32
    pub taken : Inputs
    pub counted : HasCounted s taken
    pub lines : leading (lines_of bytes) ≡ taken ++ leading (lines_of rest)
    pub pages : pages_in (lines_of rest) ≡ pages_in (lines_of bytes)
    pub room : s.inputs + length rest ≤ length bytes

  pub none_taken : (s : Counted) → (s.before ≡ one) × (s.after ≡ other) → s.span ≡ 2 ^ 32 → HasCounted s [] → Taken bytes s
  none_taken s rules span none = record {
    before = rules.0;
    after = rules.1;
    span = span;
    taken = [];
    counted = none;
    lines = refl;
    pages = refl;
    room = omega (arith, none.number);
  }

  module _ (rest : List ℕ) (s : Counted) (had : Taken rest s) where
    -- an input more
    pub one_taken : (behind input : List ℕ) (line : FileLine) (t : Counted) → lines_of rest ≡ line ∷ lines_of behind → line ≡ adds input → length behind < length rest → Adds s t (names_of s.before s.after input) 1
        → ((inputs : Inputs) → HasCounted s inputs → HasCounted t (inputs ++ input ∷ [])) → Taken behind t
    one_taken behind input line t begins is shorter more counts =
        let here : lines_of rest ≡ adds input ∷ lines_of behind = begins ∙ ap (λ (l : FileLine). l ∷ lines_of behind) is in
        record {
          before = more.before ∙ had.before;
          after = more.after ∙ had.after;
          span = more.span ∙ had.span;
          taken = had.taken ++ input ∷ [];
          counted = counts had.taken had.counted;
          lines = had.lines ∙ ap (λ (ls : List FileLine). had.taken ++ leading ls) here ∙ sym (append_assoc had.taken (input ∷ []) (leading (lines_of behind)));
          pages = sym (ap pages_in here) ∙ had.pages;
          room = omega (arith, had.room, shorter, more.inputs);
        }

    -- none is left
    all_taken : leading (lines_of rest) ≡ [] → Reads one other bytes rest s
    all_taken none =
        let all : leading (lines_of bytes) ≡ had.taken = had.lines ∙ ap (λ (xs : Inputs). had.taken ++ xs) none ∙ append-nil had.taken in
        record {
          before = had.before;
          after = had.after;
          counted = subst (λ (xs : Inputs). HasCounted s xs) (sym all) had.counted;
          pages = had.pages;
          room = had.room;
        }

    pub ends_file : lines_of rest ≡ [] → Reads one other bytes rest s
    ends_file none = all_taken (ap leading none)

    pub ends_page : (behind : List ℕ) (line : FileLine) → lines_of rest ≡ line ∷ lines_of behind → ((after : List FileLine) → leading (line ∷ after) ≡ []) → Reads one other bytes rest s
    ends_page behind line begins none = all_taken (ap leading begins ∙ none (lines_of behind))

  module _ (rest : List ℕ) (s : Counted) (reads : Reads one other bytes rest s) where
    -- what the inputs change
    pub switches_so : (rows : Rows) → ((inputs : Inputs) → HasCounted s inputs → AreSwitches s.before s.after inputs rows) → AreSwitches one other (leading (lines_of bytes)) rows
    switches_so rows each =
        subst (λ (r : Entries). AreSwitches one r (leading (lines_of bytes)) rows) reads.after
        (subst (λ (r : Entries). AreSwitches r s.after (leading (lines_of bytes)) rows) reads.before (each (leading (lines_of bytes)) reads.counted))

    pub counted_so : (c : program.Counted) → c.inputs ≡ s.inputs → c.users ≡ users_in (rows_view c.rows.items) → users_in (rows_view c.rows.items) ≤ s.inputs → c.rest.now ≡ rest → IsCounted bytes c
    counted_so c inputs users few left = record {
      inputs = inputs ∙ reads.counted.number;
      users = users;
      few = omega (arith, inputs, users, few);
      pages = ap (λ (b : List ℕ). pages_in (lines_of b)) left ∙ reads.pages;
      room = omega (arith, reads.room, inputs, ap length left);
    }
