-- What two rules do on a page, and to a tally.
use Rattle.std.proofs.Common.{◌≡◌, ℕ, ◌%◌, ◌==◌, ◌&&◌, Bool, true, false, List, [], ◌∷◌, length, Option, Result, Ok, Err, refl, sym, ap, ◌∙◌, subst}
use Rattle.std.proofs.lemmas.Bool.{eqb-true}
use Rattle.book_core.specs.Book.{Inputs}
use Rattle.bucket_core.specs.Rule.{Entries, total_weight}
use Rattle.flag_defs.specs.Document.{Definitions}
use Rattle.rule_switches.specs.Found.{Found, IsFound, PageFound, counted, is_asked, left, users_in}
use Rattle.rule_switches.specs.Rules.{Rules, both, none, rules_on, rules_view}
use Rattle.rule_switches.specs.Tallied.{AreTallied, AreTallyFound, AreWhereAsked, GivesFound, IsTallyFound, IsWhereFits, fits}
use Rattle.rule_switches.specs.declared.comparison.Found as program
use Rattle.rule_switches.specs.declared.page_edit.Side.{Side}
use Rattle.rule_switches.specs.declared.fault.NoRule.{NoRule}
use Rattle.rule_switches.specs.declared.fault.TallyFault.{TallyFault}
use Rattle.rule_switches.specs.declared.fault.TallyFault.TheVariants.{OtherTally}
use Rattle.rule_switches.specs.declared.rules.Rules as program_rules
use Rattle.rule_switches.specs.declared.rules.Rules.TheVariants as code
use Rattle.rule_switches.specs.Switches.{AreSwitches, Rows}
use Rattle.note_tallies.specs.Tally.{PageTally}

-- ---- on a page

pub found_both : (rs : Rules) (r : program_rules.Rules) (a b : Entries) (xs : Inputs) (n u : ℕ) (rows : Rows) → rules_view r ≡ rs → r ≡ code.Both a b → AreSwitches a b xs rows → n ≡ length xs → u ≡ users_in rows → IsFound rs xs (counted n u rows)
found_both rs r a b xs n u rows are is switches inputs users =
    let same : both a b ≡ rs = sym (ap rules_view is) ∙ are in
    subst (λ (s : Rules). IsFound s xs (counted n u rows)) same (rows, switches, ap (λ (k : ℕ). counted k u rows) inputs ∙ ap (λ (k : ℕ). counted (length xs) k rows) users)

pub found_none : (rs : Rules) (r : program_rules.Rules) (side : Side) (reason : NoRule) (xs : Inputs) → rules_view r ≡ rs → r ≡ code.None side reason → IsFound rs xs (left side reason)
found_none rs r side reason xs are is =
    let same : none side reason ≡ rs = sym (ap rules_view is) ∙ are in
    subst (λ (s : Rules). IsFound s xs (left side reason)) same refl

-- ---- of a tally

both_true : (a b : Bool) → (a && b) ≡ true → (a ≡ true) × (b ≡ true)
both_true true b is = (refl, is)
both_true false b is = cc

pub first_fits : (t : PageTally) (a b : Entries) → fits t a b ≡ true → t.total % total_weight a ≡ 0
first_fits t a b is = eqb-true _ _ (both_true (t.total % total_weight a == 0) (t.total % total_weight b == 0) is).0

pub other_fits : (t : PageTally) (a b : Entries) → fits t a b ≡ true → t.total % total_weight b ≡ 0
other_fits t a b is = eqb-true _ _ (both_true (t.total % total_weight a == 0) (t.total % total_weight b == 0) is).1

pub tallied_both : (rs : Rules) (r : program_rules.Rules) (a b : Entries) (t : PageTally) (f : Result program.Found TallyFault) → rules_view r ≡ rs → r ≡ code.Both a b → GivesFound f (IsWhereFits (fits t a b) a b t) → GivesFound f (IsTallyFound rs t)
tallied_both rs r a b t f are is gives =
    let same : both a b ≡ rs = sym (ap rules_view is) ∙ are in
    subst (λ (s : Rules). GivesFound f (IsTallyFound s t)) same gives

pub tallied_none : (rs : Rules) (r : program_rules.Rules) (side : Side) (reason : NoRule) (t : PageTally) → rules_view r ≡ rs → r ≡ code.None side reason → IsTallyFound rs t (Ok (left side reason))
tallied_none rs r side reason t are is =
    let same : none side reason ≡ rs = sym (ap rules_view is) ∙ are in
    subst (λ (s : Rules). IsTallyFound s t (Ok (left side reason))) same refl

pub where_fits : (b : Bool) (before after : Entries) (t : PageTally) (f : Result program.Found TallyFault) → b ≡ true → GivesFound f (IsWhereFits true before after t) → GivesFound f (IsWhereFits b before after t)
where_fits b before after t f is gives = subst (λ (k : Bool). GivesFound f (IsWhereFits k before after t)) (sym is) gives

pub where_not : (b : Bool) (before after : Entries) (t : PageTally) → b ≡ false → IsWhereFits b before after t (Err OtherTally)
where_not b before after t is = subst (λ (k : Bool). IsWhereFits k before after t (Err OtherTally)) (sym is) refl

pub fitting : (before after : Entries) (t : PageTally) (n u : ℕ) (rows : Rows) → AreTallied before after t rows → n ≡ t.inputs → u ≡ users_in rows → IsWhereFits true before after t (Ok (counted n u rows))
fitting before after t n u rows are inputs users =
    (rows, are, ap Ok (ap (λ (k : ℕ). counted k u rows) inputs ∙ ap (λ (k : ℕ). counted t.inputs k rows) users))

-- ---- the page of a tally, where it is asked for

module _ (old new : Definitions) (only : Option (List ℕ)) (t : PageTally) where
  pub asked_found : (f : Found) (ps : List PageFound) → is_asked only t.page ≡ true → IsTallyFound (rules_on old new t.page) t (Ok f) → ps ≡ record { page = t.page; found = f } ∷ [] → AreTallyFound old new only t (Ok ps)
  unfolding AreTallyFound
  asked_found f ps here is one = subst (λ (b : Bool). AreWhereAsked b old new t (Ok ps)) (sym here) (Ok f, is, ap Ok one)

  pub asked_refused : is_asked only t.page ≡ true → IsTallyFound (rules_on old new t.page) t (Err OtherTally) → AreTallyFound old new only t (Err OtherTally)
  unfolding AreTallyFound
  asked_refused here is = subst (λ (b : Bool). AreWhereAsked b old new t (Err OtherTally)) (sym here) (Err OtherTally, is, refl)

  pub not_asked : (ps : List PageFound) → is_asked only t.page ≡ false → ps ≡ [] → AreTallyFound old new only t (Ok ps)
  unfolding AreTallyFound
  not_asked ps other empty = subst (λ (b : Bool). AreWhereAsked b old new t (Ok ps)) (sym other) (ap Ok empty)
