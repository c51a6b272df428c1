-- The machine values of a handle: the box behind its pointer where it holds one, and else nothing.
use Rattle.std.proofs.Common.{◌≡◌, ℕ, List, [], ◌∷◌, refl, Bool, true, false}
use seplogic.Ra.Ura.{Ura}
use mir.Val.{Val, vptr, vbool}
use types.Logic.{Logic}
use types.Kit.{Item, Goal, Seq, Step, step, ‵, ◌$◌, drop, fjoin, fpack, feq_i}
use denote.RattleType.{Valss}
use denote.Builtin.{RawPtr, bool}
use denote.RawPtr.{Ptr, block_ptr, null_ptr, ptr_val}
use denote.Steps.{nothing}
use denote.Struct.Struct.{within}
use denote.Struct.Owning.{shape}
use Rattle.std.specs.Prelude.{Option, Some, None}
use Rattle.std.specs.Box.Ownership.{box_owns}
use Rattle.libc.specs.Heap.{chunk}
use Rattle.held_box.proofs.Parts.{words}
use Rattle.flagops_c.specs.Held.{held_at, is_held}
use Rattle.flagops_c.specs.contracts.handle.Handle as handle
use Rattle.library_seat.specs.contracts.seat.Seat.{the_row as R}

module _ {M : Type 1} {𝓤 : Ura M} {𝓛 : Logic 𝓤} {K : Type 0} {Γ : List (Item 𝓤)} {G : Goal 𝓤 𝓛.H} where
  pub either : K → (at : Ptr) (held : Bool) (s : Option R.Denot) → held ≡ is_held s → (held ≡ false → s ≡ None → Seq K 𝓛 Γ G)
      → ((x : R.Denot) → held ≡ true → s ≡ Some x → Seq K 𝓛 (‵ (box_owns chunk R at x) ∷ Γ) G) → Seq K 𝓛 (‵ (held_at at s) ∷ Γ) G
  either t at held None e none some = drop t $ none e refl
  either t at held (Some x) e none some = some x e refl

  pub handle_in : K → (b o : ℕ) (x : R.Denot)
      → Step K 𝓛 (‵ ((handle.the_row).own_val (record { address = block_ptr b o; held = true; seat = Some x; flag = refl }) (words (vptr b o) (vbool true) ∷ [])) ∷ Γ) G (‵ (box_owns chunk R (block_ptr b o) x) ∷ Γ) G
  handle_in t b o x = step (λ s. let v : Val = words (vptr b o) (vbool true) in
      nothing t $ feq_i t (List Val) (vbool true ∷ []) (vbool true ∷ []) refl $ fjoin t $ feq_i t (List Val) (vptr b o ∷ []) (vptr b o ∷ []) refl $ fjoin t $ feq_i t (List Val) (v ∷ []) (v ∷ []) refl $ fjoin t $
      fpack t (Valss (RawPtr ∷ bool ∷ [])) (within (shape handle.the_type) (block_ptr b o, (true, tt)) (v ∷ [])) (vptr b o ∷ [], (vbool true ∷ [], tt)) $ fjoin t $ s)

  pub none_in : K → Step K 𝓛 (‵ ((handle.the_row).own_val (record { address = null_ptr; held = false; seat = None; flag = refl }) (words (ptr_val null_ptr) (vbool false) ∷ [])) ∷ Γ) G Γ G
  none_in t = step (λ s. let v : Val = words (ptr_val null_ptr) (vbool false) in
      nothing t $ nothing t $ feq_i t (List Val) (vbool false ∷ []) (vbool false ∷ []) refl $ fjoin t $ feq_i t (List Val) (ptr_val null_ptr ∷ []) (ptr_val null_ptr ∷ []) refl $ fjoin t $ feq_i t (List Val) (v ∷ []) (v ∷ []) refl $ fjoin t $
      fpack t (Valss (RawPtr ∷ bool ∷ [])) (within (shape handle.the_type) (null_ptr, (false, tt)) (v ∷ [])) (ptr_val null_ptr ∷ [], (vbool false ∷ [], tt)) $ fjoin t $ s)
