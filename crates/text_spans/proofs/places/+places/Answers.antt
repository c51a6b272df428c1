use Rattle.std.proofs.Common.{◌≡◌, ◌∷◌, [], None, Some, refl, arith}
use Rattle.json.specs.Json.{after_end_array}
use Rattle.json.specs.Reads.{token_of}
use Rattle.json.specs.Token.{Token as Kind}
use Rattle.text_spans.proofs.Going.{goes_none, goes_on}
use Rattle.text_spans.specs.View.{path_of, step_of}
use Rattle.text_spans.proofs.Located.{in_list, in_object, item_found, item_over, item_passed, items_same, member_found, member_missing, member_over, member_passed, not_in_list, not_in_object, nothing_opens, nothing_there}
use Rattle.text_spans.proofs.places.+places.Goals as goal

-- ---- items

pub items_place-items-init : goal.items_place-items-init
items_place-items-init t c = record { left = λ d n js r e. (n, js, e, refl); stands = c.requires.stands; passed = goes_none _ _ _ refl }

pub items_place-returns-then-left-eq0-clause-place : goal.items_place-returns-then-left-eq0-clause-place
items_place-returns-then-left-eq0-clause-place t c =
    let going : (after_end_array c.items.cursor.reader ≡ None) × (c.take_end_list.new.self.reader ≡ c.items.cursor.reader) × (c.take_end_list.new.self.rest.now ≡ c.items.cursor.rest.now) = grind arith in
    let none : after_end_array c.take_end_list.new.self.reader ≡ None = rw (going.1) going.0 in
    λ d n js r e.
    item_found d r _ _ _ _ c.items.left _ _ _ (items_same d r _ _ _ _ _ _ _ going.1 going.2 (c.items.invariant.left d n js r e)) none c.if-left-eq0.true (c.value_place-found.ensures.place d) (λ us h. (c.close.ensures.closed us h).0)

pub items_place-returns-then-left-eq0-clause-passed : goal.items_place-returns-then-left-eq0-clause-passed
items_place-returns-then-left-eq0-clause-passed t c =
    goes_on _ _ _ _ _ _ (goes_on _ _ _ _ _ _ c.items.invariant.passed c.take_end_list.ensures.passed) (goes_on _ _ _ _ _ _ c.value_place-found.ensures.passed c.close.ensures.passed)

pub items_place-items-preserved : goal.items_place-items-preserved
items_place-items-preserved t c =
    let going : (after_end_array c.items.cursor.reader ≡ None) × (c.take_end_list.new.self.reader ≡ c.items.cursor.reader) × (c.take_end_list.new.self.rest.now ≡ c.items.cursor.rest.now) = grind arith in
    let none : after_end_array c.take_end_list.new.self.reader ≡ None = rw (going.1) going.0 in
    record {
      left = λ d n js r e.
          item_passed d r _ _ _ _ c.items.left _ _ (items_same d r _ _ _ _ _ _ _ going.1 going.2 (c.items.invariant.left d n js r e)) none c.if-left-eq0.false (λ us h. (c.pass_value.ensures.value d us h).0) c.pass_value.ensures.passed;
      stands = c.pass_value.ensures.stands;
      passed = goes_on _ _ _ _ _ _ c.items.invariant.passed (goes_on _ _ _ _ _ _ c.take_end_list.ensures.passed c.pass_value.ensures.passed);
    }

pub items_place-returns-clause-place : goal.items_place-returns-clause-place
items_place-returns-clause-place t c =
    let over : after_end_array c.items.cursor.reader ≡ Some c.take_end_list.new.self.reader = grind arith in
    λ d n js r e. item_over d r _ _ _ _ c.items.left _ (c.items.invariant.left d n js r e) over

pub items_place-returns-clause-passed : goal.items_place-returns-clause-passed
items_place-returns-clause-passed t c = goes_on _ _ _ _ _ _ c.items.invariant.passed c.take_end_list.ensures.passed

-- ---- members

pub members_place-members-init : goal.members_place-members-init
members_place-members-init t c = record { left = λ d n ms r e. (n, ms, e, refl); stands = c.requires.1.1; passed = goes_none _ _ _ refl }

pub members_place-members-preserved-then-eq : goal.members_place-members-preserved-then-eq
members_place-members-preserved-then-eq t c =
    let first : c.members.cursor.reader ≡ Kind.key c.in-Key.key.now ∷ c.next.new.self.reader = grind arith in
    record {
      left = λ d n ms r e.
          member_found d r _ _ _ _ _ _ (c.members.invariant.left d n ms r e) c.in-Key.key.now _ _ _ _ _ first (grind arith) c.next.ensures.passed c.value_place-found.ensures.passed (c.value_place-found.ensures.place d);
      stands = c.value_place-found.ensures.stands;
      passed = goes_on _ _ _ _ _ _ c.members.invariant.passed (goes_on _ _ _ _ _ _ c.next.ensures.passed c.value_place-found.ensures.passed);
    }

pub members_place-members-preserved : goal.members_place-members-preserved
members_place-members-preserved t c =
    let first : c.members.cursor.reader ≡ Kind.key c.in-Key.key.now ∷ c.next.new.self.reader = grind arith in
    record {
      left = λ d n ms r e.
          member_passed d r _ _ _ _ _ _ (c.members.invariant.left d n ms r e) c.in-Key.key.now _ _ _ _ first (grind arith) c.next.ensures.passed c.pass_value.ensures.passed (λ us h. (c.pass_value.ensures.value d us h).0);
      stands = c.pass_value.ensures.stands;
      passed = goes_on _ _ _ _ _ _ c.members.invariant.passed (goes_on _ _ _ _ _ _ c.next.ensures.passed c.pass_value.ensures.passed);
    }

pub members_place-returns-in_default-token : goal.members_place-returns-in_default-token
members_place-returns-in_default-token t c = record {
  place = λ d n ms r e. member_over d r _ _ _ _ _ _ (c.members.invariant.left d n ms r e) c.in-Some.token _ c.in-Some.ensures.value.0 c.in_default-token.not-Key;
  stands = c.next.ensures.stands;
  passed = goes_on _ _ _ _ _ _ c.members.invariant.passed c.next.ensures.passed;
}

pub members_place-returns-clause-place : goal.members_place-returns-clause-place
members_place-returns-clause-place t c = λ d n ms r e. member_missing d r _ _ _ _ _ _ (c.members.invariant.left d n ms r e) c.in_default.ensures.value.0

pub members_place-returns-clause-passed : goal.members_place-returns-clause-passed
members_place-returns-clause-passed t c = goes_on _ _ _ _ _ _ c.members.invariant.passed c.next.ensures.passed

-- ---- parts

pub part_place-returns-in_err-token-clause-place : goal.part_place-returns-in_err-token-clause-place
part_place-returns-in_err-token-clause-place t c =
    let none : c.args.cursor.now.reader ≡ [] = grind arith in
    λ d j r e. nothing_there (step_of c.args.step) (path_of c.args.path.now) c.args.cursor.now.rest.now d _ r j e none

pub part_place-returns-in-Index-clause-place : goal.part_place-returns-in-Index-clause-place
part_place-returns-in-Index-clause-place t c =
    let first : c.args.cursor.now.reader ≡ Kind.begin_array ∷ c.next.new.self.reader = grind arith in
    λ d j r e. rw (c.in-Index.is) (in_list d _ _ r _ _ j (path_of c.args.path.now) c.next.ensures.passed c.in-Index.index _ _ first c.items_place.ensures.place e)

pub part_place-returns-in-Index-clause-passed : goal.part_place-returns-in-Index-clause-passed
part_place-returns-in-Index-clause-passed t c = goes_on _ _ _ _ _ _ c.next.ensures.passed c.items_place.ensures.passed

pub part_place-returns-in-Name-clause-place : goal.part_place-returns-in-Name-clause-place
part_place-returns-in-Name-clause-place t c =
    let first : c.args.cursor.now.reader ≡ Kind.begin_array ∷ c.next.new.self.reader = grind arith in
    λ d j r e. rw (c.in-Name.is, c.no_place.ensures.none) (not_in_list d _ _ r _ _ j (path_of c.args.path.now) c.next.ensures.passed c.in-Name.field-0.now _ first c.no_place.ensures.closed e)

pub part_place-returns-in-Name-clause-passed : goal.part_place-returns-in-Name-clause-passed
part_place-returns-in-Name-clause-passed t c = goes_on _ _ _ _ _ _ c.next.ensures.passed c.no_place.ensures.passed

pub part_place-returns-in-Index-step-clause-place : goal.part_place-returns-in-Index-step-clause-place
part_place-returns-in-Index-step-clause-place t c =
    let first : c.args.cursor.now.reader ≡ Kind.begin_object ∷ c.next.new.self.reader = grind arith in
    λ d j r e. rw (c.in-Index-step.is, c.no_place-in-Index-step.ensures.none) (not_in_object d _ _ r _ _ j (path_of c.args.path.now) c.next.ensures.passed c.in-Index-step.field-0 _ first c.no_place-in-Index-step.ensures.closed e)

pub part_place-returns-in-Index-step-clause-passed : goal.part_place-returns-in-Index-step-clause-passed
part_place-returns-in-Index-step-clause-passed t c = goes_on _ _ _ _ _ _ c.next.ensures.passed c.no_place-in-Index-step.ensures.passed

pub part_place-returns-in-Name-step-clause-place : goal.part_place-returns-in-Name-step-clause-place
part_place-returns-in-Name-step-clause-place t c =
    let first : c.args.cursor.now.reader ≡ Kind.begin_object ∷ c.next.new.self.reader = grind arith in
    λ d j r e. rw (c.in-Name-step.is) (in_object d _ _ r _ _ j (path_of c.args.path.now) c.next.ensures.passed c.in-Name-step.name.now _ _ first c.members_place.ensures.place e)

pub part_place-returns-in-Name-step-clause-passed : goal.part_place-returns-in-Name-step-clause-passed
part_place-returns-in-Name-step-clause-passed t c = goes_on _ _ _ _ _ _ c.next.ensures.passed c.members_place.ensures.passed

pub part_place-returns-in_default-clause-place : goal.part_place-returns-in_default-clause-place
part_place-returns-in_default-clause-place t c =
    let first : c.args.cursor.now.reader ≡ token_of c.in_ok-token.token ∷ c.next.new.self.reader = grind arith in
    λ d j r e. nothing_opens (step_of c.args.step) (path_of c.args.path.now) c.args.cursor.now.rest.now d _ r j e c.in_ok-token.token _ first (λ h. c.in_default.not-BeginArray h) (λ h. c.in_default.not-BeginObject h)
