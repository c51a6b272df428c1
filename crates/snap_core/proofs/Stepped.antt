-- What the sources and the hub do is what the machine does, in each state that agrees with them.
use Rattle.std.proofs.Common.{◌≡◌, ℕ, ◌+◌, ◌-◌, ◌<◌, Bool, true, false, List, [], ◌∷◌, ◌++◌, length, slice_get, nat_lt, if◌then◌else◌, Option, None, Some, option_map, IfOk, Result, Ok, Err, refl, sym, ap, ◌∙◌, subst, arith, length-append}
use Rattle.std.proofs.lemmas.Bool.{ltb-true}
use Rattle.flag_defs.specs.Document.{Definitions}
use Rattle.source_merge.specs.Merge.{merged_of}
use Rattle.source_merge.specs.Sources.{SourceList, Sets, cleared}
use Rattle.source_merge.specs.declared.fault.SourceFault.{SourceFault}
use Rattle.snap_core.specs.Agreement.{Agrees, Steps}
use Rattle.std.specs.declared.alloc.AllocError.{AllocError}
use Rattle.snap_core.specs.Event.{Happening, Reply, answer_view, sets, clears, publishes, joins, takes, leaves, done, published, joined, taken, refused}
use Rattle.snap_core.specs.Hub.{Numbered, HubState, Members, number_in, newer_than, taken_since, taken_by, may_join, members_after, last_number, with_member, with_taken, without, hub_published, hub_joined, hub_taken, hub_left, hub_left_by}
use Rattle.snap_core.specs.World.{State, Outcome, last_of, publishing, taking, leaving, refuses}
use Rattle.snap_core.specs.WorldView.{Stored}
use Rattle.snap_core.specs.declared.event.Answer.{Answer}
use Rattle.snap_core.specs.declared.event.Refusal.TheVariants.{Source, Hub}
use Rattle.snap_core.specs.declared.fault.HubFault.{HubFault}
use Rattle.snap_core.specs.declared.fault.HubFault.TheVariants.{LastNumber, TooManySubs, NoSub}

-- ---- a test that gives one thing or refuses

passed : {X E : Type 0} (b : Bool) (x y : X) (e : E) → (let r : Result X E = if b then Ok x else Err e in r) ≡ Ok y → (b ≡ true) × (x ≡ y)
passed true x y e h = (refl, cc)
passed false x y e h = absurd (cc)

failed : {X E : Type 0} (b : Bool) (x : X) (d e : E) → (let r : Result X E = if b then Ok x else Err d in r) ≡ Err e → (b ≡ false) × (d ≡ e)
failed true x d e h = absurd (cc)
failed false x d e h = (refl, cc)

-- ---- the last of the published flags

last_one : (fs : List Definitions) (f : Definitions) → slice_get (fs ++ f ∷ []) (length fs) ≡ Some f
last_one [] f = refl
last_one (g ∷ fs) f = last_one fs f

pub last_of-push : (fs : List Definitions) (f : Definitions) → last_of (fs ++ f ∷ []) ≡ Some (record { number = length fs + 1; flags = f })
last_of-push fs f =
    let size : length (fs ++ f ∷ []) ≡ length fs + 1 = length-append fs (f ∷ []) in
    let place : length (fs ++ f ∷ []) - 1 ≡ length fs = omega (arith, size) in
    ap (λ (o : Option Definitions). let r : Option Numbered = option_map (λ flags. record { number = length (fs ++ f ∷ []); flags = flags }) o in r) (ap (slice_get (fs ++ f ∷ [])) place ∙ last_one fs f)
    ∙ ap (λ n. let r : Option Numbered = Some (record { number = n; flags = f }) in r) size

pub there_is_one : (f : Definitions) (fs : List Definitions) → (x : Definitions) × (slice_get (f ∷ fs) (length fs) ≡ Some x)
there_is_one f [] = (f, refl)
there_is_one f (g ∷ fs) = there_is_one g fs

-- where flags were published, the last has their number
pub last_is : (fs : List Definitions) (n : ℕ) → n < length fs → (x : Definitions) × (last_of fs ≡ Some (record { number = length fs; flags = x }))
last_is [] n h = absurd (omega (arith, h))
last_is (f ∷ fs) n h =
    let one = there_is_one f fs in
    let place : length (f ∷ fs) - 1 ≡ length fs = omega arith in
    (one.0, ap (λ (o : Option Definitions). let r : Option Numbered = option_map (λ flags. record { number = length (f ∷ fs); flags = flags }) o in r) (ap (slice_get (f ∷ fs)) place ∙ one.1))

pub number_of_last : (fs : List Definitions) → number_in (last_of fs) ≡ length fs
number_of_last [] = refl
number_of_last (f ∷ fs) = ap number_in (last_is (f ∷ fs) 0 (omega arith)).1

-- an answer that is a refusal
pub told : (old new : Stored) (e : Happening) (reply : Reply) (P : Type 0) (r : Result Answer AllocError) → IfOk r (λ a. answer_view a ≡ reply) → IfOk r (λ a. P) → (P → Steps old e reply new) → IfOk r (λ a. Steps old e (answer_view a) new)
told old new e reply P (Err x) is holds steps = tt
told old new e reply P (Ok a) is holds steps = subst (λ (x : Reply). Steps old e x new) (sym is) (steps holds)

module _ (old : Stored) where
  -- ---- sources

  pub set_done : (name bytes : List ℕ) (sources : SourceList) → Sets old.sources name bytes (Ok sources) → Steps old (sets name bytes) done (record old { sources = sources })
  set_done name bytes sources is s a = (
    record s { sources = sources },
    (Ok sources, subst (λ (os : SourceList). Sets os name bytes (Ok sources)) a.sources is, refl),
    record { sources = refl; current = a.current; members = a.members; next = a.next; lawful = a.lawful; shown = a.shown; counted = a.counted; seats = a.seats; is_sealed = a.is_sealed },
  )

  -- what stays as it was agrees as before
  same_sources : (sources : SourceList) → sources ≡ old.sources → (s : State) → Agrees s old → Agrees s (record old { sources = sources })
  same_sources sources same s a = record { sources = same ∙ a.sources; current = a.current; members = a.members; next = a.next; lawful = a.lawful; shown = a.shown; counted = a.counted; seats = a.seats; is_sealed = a.is_sealed }

  pub set_refused : (name bytes : List ℕ) (sources : SourceList) (fault : SourceFault) → sources ≡ old.sources → Sets old.sources name bytes (Err fault) → Steps old (sets name bytes) (refused (Source fault)) (record old { sources = sources })
  set_refused name bytes sources fault same is s a = (s, (Err fault, subst (λ (os : SourceList). Sets os name bytes (Err fault)) a.sources is, refl), same_sources sources same s a)

  pub clear_done : (name : List ℕ) (sources : SourceList) → cleared old.sources name ≡ Ok sources → Steps old (clears name) done (record old { sources = sources })
  clear_done name sources is s a =
      let now : cleared s.sources name ≡ Ok sources = ap (λ (os : SourceList). cleared os name) (sym a.sources) ∙ is in (
        record s { sources = sources },
        rw now refl,
        record { sources = refl; current = a.current; members = a.members; next = a.next; lawful = a.lawful; shown = a.shown; counted = a.counted; seats = a.seats; is_sealed = a.is_sealed },
      )

  pub clear_refused : (name : List ℕ) (sources : SourceList) (fault : SourceFault) → sources ≡ old.sources → cleared old.sources name ≡ Err fault → Steps old (clears name) (refused (Source fault)) (record old { sources = sources })
  clear_refused name sources fault same is s a =
      let now : cleared s.sources name ≡ Err fault = ap (λ (os : SourceList). cleared os name) (sym a.sources) ∙ is in
      (s, rw now refl, same_sources sources same s a)

  -- ---- publishing

  merged_now : (r : Result Definitions SourceFault) (s : State) → Agrees s old → merged_of old.sources ≡ r → merged_of s.sources ≡ r
  merged_now r s a is = ap merged_of (sym a.sources) ∙ is

  number_now : (s : State) → Agrees s old → number_in old.hub.current ≡ length s.published
  number_now s a = ap number_in a.current ∙ number_of_last s.published

  pub merge_refused : (fault : SourceFault) → merged_of old.sources ≡ Err fault → Steps old publishes (refused (Source fault)) old
  merge_refused fault is s a = (s, rw (merged_now (Err fault) s a is) refl, a)

  pub publish_done : (flags : Definitions) (hub : HubState) (n : ℕ) → merged_of old.sources ≡ Ok flags → hub_published old.hub flags ≡ Ok hub → n ≡ number_in hub.current → Steps old publishes (published n) (record old { hub = hub })
  publish_done flags hub n is put number s a =
      let size = number_now s a in
      let after : HubState = record old.hub { current = Some (record { number = number_in old.hub.current + 1; flags = flags }) } in
      let test = passed (nat_lt (number_in old.hub.current) last_number) after hub LastNumber put in
      let room : nat_lt (length s.published) last_number ≡ true = ap (λ m. nat_lt m last_number) (sym size) ∙ test.0 in
      let t : State = record s { published = s.published ++ flags ∷ [] } in
      let told : n ≡ length s.published + 1 = number ∙ (ap (λ (h : HubState). number_in h.current) (sym test.1) ∙ ap (λ m. m + 1) size) in
      let last : hub.current ≡ last_of (s.published ++ flags ∷ []) =
      ap (λ (h : HubState). h.current) (sym test.1) ∙ (ap (λ m. let r : Option Numbered = Some (record { number = m + 1; flags = flags }) in r) size ∙ sym (last_of-push s.published flags)) in (
        t,
        ap (λ m. let o : Outcome = (published m, t) in o) told ∙ sym (ap (publishing s) (merged_now (Ok flags) s a is) ∙ ap (λ b. let o : Outcome = if b then (published (length s.published + 1), t) else refuses (Hub LastNumber) s in o) room),
        record { sources = a.sources; current = last; members = ap (λ (h : HubState). h.members) (sym test.1) ∙ a.members; next = ap (λ (h : HubState). h.next) (sym test.1) ∙ a.next; lawful = a.lawful; shown = a.shown; counted = a.counted; seats = a.seats; is_sealed = a.is_sealed },
      )

  same_hub : (hub : HubState) → hub ≡ old.hub → (s : State) → Agrees s old → Agrees s (record old { hub = hub })
  same_hub hub same s a = record { sources = a.sources; current = ap (λ (h : HubState). h.current) same ∙ a.current; members = ap (λ (h : HubState). h.members) same ∙ a.members; next = ap (λ (h : HubState). h.next) same ∙ a.next; lawful = a.lawful; shown = a.shown; counted = a.counted; seats = a.seats; is_sealed = a.is_sealed }

  pub publish_refused : (flags : Definitions) (hub : HubState) (fault : HubFault) → hub ≡ old.hub → merged_of old.sources ≡ Ok flags → hub_published old.hub flags ≡ Err fault → Steps old publishes (refused (Hub fault)) (record old { hub = hub })
  publish_refused flags hub fault same is put s a =
      let after : HubState = record old.hub { current = Some (record { number = number_in old.hub.current + 1; flags = flags }) } in
      let test = failed (nat_lt (number_in old.hub.current) last_number) after LastNumber fault put in
      let full : nat_lt (length s.published) last_number ≡ false = ap (λ m. nat_lt m last_number) (sym (number_now s a)) ∙ test.0 in (
        s,
        ap (λ f. let o : Outcome = refuses (Hub f) s in o) (sym test.1) ∙ sym (ap (publishing s) (merged_now (Ok flags) s a is) ∙ ap (λ b. let o : Outcome = if b then (published (length s.published + 1), record s { published = s.published ++ flags ∷ [] }) else refuses (Hub LastNumber) s in o) full),
        same_hub hub same s a,
      )

  -- ---- subscribers

  may_now : (s : State) → Agrees s old → may_join old.hub.next old.hub.members ≡ may_join s.next s.members
  may_now s a = ap (λ n. may_join n old.hub.members) a.next ∙ ap (may_join s.next) a.members

  pub join_done : (hub : HubState) (id : ℕ) → hub_joined old.hub ≡ Ok hub → id ≡ old.hub.next → Steps old joins (joined id) (record old { hub = hub })
  join_done hub id is given s a =
      let after : HubState = record old.hub { members = with_member old.hub.next old.hub.members; next = old.hub.next + 1 } in
      let test = passed (may_join old.hub.next old.hub.members) after hub TooManySubs is in
      let may : may_join s.next s.members ≡ true = sym (may_now s a) ∙ test.0 in
      let t : State = record s { members = with_member s.next s.members; next = s.next + 1 } in
      let members : hub.members ≡ with_member s.next s.members =
      ap (λ (h : HubState). h.members) (sym test.1) ∙ (ap (λ n. with_member n old.hub.members) a.next ∙ ap (with_member s.next) a.members) in (
        t,
        ap (λ n. let o : Outcome = (joined n, t) in o) (given ∙ a.next) ∙ sym (ap (λ b. let o : Outcome = if b then (joined s.next, t) else refuses (Hub TooManySubs) s in o) may),
        record { sources = a.sources; current = ap (λ (h : HubState). h.current) (sym test.1) ∙ a.current; members = members; next = ap (λ (h : HubState). h.next) (sym test.1) ∙ ap (λ n. n + 1) a.next; lawful = a.lawful; shown = a.shown; counted = a.counted; seats = a.seats; is_sealed = a.is_sealed },
      )

  pub join_refused : (hub : HubState) (fault : HubFault) → hub ≡ old.hub → hub_joined old.hub ≡ Err fault → Steps old joins (refused (Hub fault)) (record old { hub = hub })
  join_refused hub fault same is s a =
      let after : HubState = record old.hub { members = with_member old.hub.next old.hub.members; next = old.hub.next + 1 } in
      let test = failed (may_join old.hub.next old.hub.members) after TooManySubs fault is in
      let full : may_join s.next s.members ≡ false = sym (may_now s a) ∙ test.0 in (
        s,
        ap (λ f. let o : Outcome = refuses (Hub f) s in o) (sym test.1) ∙ sym (ap (λ b. let o : Outcome = if b then (joined s.next, record s { members = with_member s.next s.members; next = s.next + 1 }) else refuses (Hub TooManySubs) s in o) full),
        same_hub hub same s a,
      )

  -- the number that a subscriber took last is the one of the state
  last_now : (id : ℕ) (o : Option ℕ) (s : State) → Agrees s old → taken_by id old.hub.members ≡ o → taken_by id s.members ≡ o
  last_now id o s a e = ap (taken_by id) (sym a.members) ∙ e

  pub take_done : (hub : HubState) (id : ℕ) (snapshot : Option Numbered) → hub_taken old.hub id ≡ Ok snapshot → hub ≡ record old.hub { members = members_after id snapshot old.hub.members } → Steps old (takes id) (taken snapshot) (record old { hub = hub })
  take_done hub id snapshot is after s a = by (taken_by id old.hub.members) refl is
    where
      -- what is left after this snapshot was taken
      left : (t : State) (ms : Members) → t ≡ record s { members = ms } → members_after id snapshot old.hub.members ≡ ms → Agrees t (record old { hub = hub })
      left t ms made members = subst (λ (x : State). Agrees x (record old { hub = hub })) (sym made) (record { sources = a.sources; current = ap (λ (h : HubState). h.current) after ∙ a.current; members = ap (λ (h : HubState). h.members) after ∙ members; next = ap (λ (h : HubState). h.next) after ∙ a.next; lawful = a.lawful; shown = a.shown; counted = a.counted; seats = a.seats; is_sealed = a.is_sealed })

      new_one : (last : ℕ) → taken_by id old.hub.members ≡ Some last → nat_lt last (length s.published) ≡ true → snapshot ≡ old.hub.current
          → (t : State) × ((let p : Outcome = (taken snapshot, t) in p) ≡ taking s id (taken_by id s.members)) × Agrees t (record old { hub = hub })
      new_one last e b chosen =
          let t : State = record s { members = with_taken id (length s.published) s.members } in
          let one = last_is s.published last (ltb-true last (length s.published) b) in
          let told : snapshot ≡ last_of s.published = chosen ∙ a.current in
          let members : members_after id snapshot old.hub.members ≡ with_taken id (length s.published) s.members =
          ap (λ (sn : Option Numbered). members_after id sn old.hub.members) (told ∙ one.1) ∙ ap (with_taken id (length s.published)) a.members in (
            t,
            ap (λ (sn : Option Numbered). let p : Outcome = (taken sn, t) in p) told
                ∙ sym (ap (taking s id) (last_now id (Some last) s a e) ∙ ap (λ c. let p : Outcome = if c then (taken (last_of s.published), t) else (taken None, s) in p) b),
            left t (with_taken id (length s.published) s.members) refl members,
          )

      nothing : (last : ℕ) → taken_by id old.hub.members ≡ Some last → nat_lt last (length s.published) ≡ false → snapshot ≡ None
          → (t : State) × ((let p : Outcome = (taken snapshot, t) in p) ≡ taking s id (taken_by id s.members)) × Agrees t (record old { hub = hub })
      nothing last e b chosen = (
        s,
        ap (λ (sn : Option Numbered). let p : Outcome = (taken sn, s) in p) chosen
            ∙ sym (ap (taking s id) (last_now id (Some last) s a e) ∙ ap (λ c. let p : Outcome = if c then (taken (last_of s.published), record s { members = with_taken id (length s.published) s.members }) else (taken None, s) in p) b),
        left s s.members refl (ap (λ (sn : Option Numbered). members_after id sn old.hub.members) chosen ∙ a.members),
      )

      some : (last : ℕ) → taken_by id old.hub.members ≡ Some last → newer_than last old.hub.current ≡ snapshot → (b : Bool) → nat_lt last (number_in old.hub.current) ≡ b
          → (t : State) × ((let p : Outcome = (taken snapshot, t) in p) ≡ taking s id (taken_by id s.members)) × Agrees t (record old { hub = hub })
      some last e chosen true b = new_one last e (ap (nat_lt last) (sym (number_now s a)) ∙ b) (sym chosen ∙ ap (λ c. let sn : Option Numbered = if c then old.hub.current else None in sn) b)
      some last e chosen false b = nothing last e (ap (nat_lt last) (sym (number_now s a)) ∙ b) (sym chosen ∙ ap (λ c. let sn : Option Numbered = if c then old.hub.current else None in sn) b)

      by : (o : Option ℕ) → taken_by id old.hub.members ≡ o → taken_since o old.hub.current ≡ Ok snapshot
          → (t : State) × ((let p : Outcome = (taken snapshot, t) in p) ≡ taking s id (taken_by id s.members)) × Agrees t (record old { hub = hub })
      by None e h = absurd (cc)
      by (Some last) e h = some last e (cc) (nat_lt last (number_in old.hub.current)) refl

  pub take_refused : (hub : HubState) (id : ℕ) (fault : HubFault) → hub ≡ old.hub → hub_taken old.hub id ≡ Err fault → Steps old (takes id) (refused (Hub fault)) (record old { hub = hub })
  take_refused hub id fault same is s a = by (taken_by id old.hub.members) refl is
    where
      by : (o : Option ℕ) → taken_by id old.hub.members ≡ o → taken_since o old.hub.current ≡ Err fault
          → (t : State) × ((let p : Outcome = (refused (Hub fault), t) in p) ≡ taking s id (taken_by id s.members)) × Agrees t (record old { hub = hub })
      by None e h =
          let told : NoSub ≡ fault = cc in
          (s, ap (λ f. let p : Outcome = refuses (Hub f) s in p) (sym told) ∙ sym (ap (taking s id) (last_now id None s a e)), same_hub hub same s a)
      by (Some last) e h = absurd (cc)

  pub leave_done : (hub : HubState) (id : ℕ) → hub_left old.hub id ≡ Ok hub → Steps old (leaves id) done (record old { hub = hub })
  leave_done hub id is s a = by (taken_by id old.hub.members) refl is
    where
      by : (o : Option ℕ) → taken_by id old.hub.members ≡ o → hub_left_by o old.hub id ≡ Ok hub
          → (t : State) × ((let p : Outcome = (done, t) in p) ≡ leaving s id (taken_by id s.members)) × Agrees t (record old { hub = hub })
      by None e h = absurd (cc)
      by (Some last) e h =
          let after : HubState = record old.hub { members = without id old.hub.members } in
          let is_after : after ≡ hub = cc in
          let t : State = record s { members = without id s.members } in (
            t,
            sym (ap (leaving s id) (last_now id (Some last) s a e)),
            record { sources = a.sources; current = ap (λ (h : HubState). h.current) (sym is_after) ∙ a.current; members = ap (λ (h : HubState). h.members) (sym is_after) ∙ ap (without id) a.members; next = ap (λ (h : HubState). h.next) (sym is_after) ∙ a.next; lawful = a.lawful; shown = a.shown; counted = a.counted; seats = a.seats; is_sealed = a.is_sealed },
          )

  pub leave_refused : (hub : HubState) (id : ℕ) (fault : HubFault) → hub ≡ old.hub → hub_left old.hub id ≡ Err fault → Steps old (leaves id) (refused (Hub fault)) (record old { hub = hub })
  leave_refused hub id fault same is s a = by (taken_by id old.hub.members) refl is
    where
      by : (o : Option ℕ) → taken_by id old.hub.members ≡ o → hub_left_by o old.hub id ≡ Err fault
          → (t : State) × ((let p : Outcome = (refused (Hub fault), t) in p) ≡ leaving s id (taken_by id s.members)) × Agrees t (record old { hub = hub })
      by None e h =
          let told : NoSub ≡ fault = cc in
          (s, ap (λ f. let p : Outcome = refuses (Hub f) s in p) (sym told) ∙ sym (ap (leaving s id) (last_now id None s a e)), same_hub hub same s a)
      by (Some last) e h = absurd (cc)
