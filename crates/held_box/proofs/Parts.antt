-- The machine value of a held box: two words, the address of its block and the bits of its allocator.
use Rattle.std.proofs.Common.{◌≡◌, ℕ, List, [], ◌∷◌, ◌++◌, refl, subst}
use mathlib.Core.Bool.{true, ◌&&◌}
use lib.Dec.{T}
use seplogic.Ra.Ura.{Ura}
use mir.Syntax.{impl, tnil, dnil}
use mir.Raw.{raw as bare}
use mir.Val.{Val, vptr, vstruct, vcons, vnil, of_list, has_ty, WT}
use base.Logic.{never, fst∗}
use types.Logic.{Logic, sem}
use types.Kit.{Item, Goal, Seq, Step, step, ‵, ◌$◌, move, drop, fsplit, fjoin, fpick, fpack, feq_i, feq_l}
use denote.RattleType.{RattleType, Valss}
use denote.Builtin.{RawPtr}
use denote.Memory.{lone}
use denote.RawPtr.{Ptr, block_ptr, null_ptr, ptr_val, in_a_block}
use denote.Steps.{nothing}
use denote.Param.{layout}
use denote.Param.Laws.{Laws}
use denote.Struct.Struct.{within}
use denote.Struct.Owning.{shape}
use Rattle.core.specs.declared.alloc.Allocator.{Ghosts}
use Rattle.core.proofs.alloc.Calls.{Al, handle_tells}
use Rattle.core.proofs.cell.Inside.{Good}
use Rattle.std.specs.Box.Ownership.{box_owns}
use Rattle.std_alloc.proofs.ResultValues.{and_tt}
use Rattle.held_box.specs.contracts.HeldBox as held

-- two words beside one another
abbrev pub words : Val → Val → Val
words v w = vstruct (vcons v (vcons w vnil))

module _ (R Z : RattleType) (L : Laws Z) (g : Ghosts Z.Denot) where
  abbrev pub Held : RattleType
  Held = held.the_row R Z g

  abbrev pub block : Z.Denot → Ptr → R.Denot → base.Fml.Fml
  block a p x = box_owns (g.dealloc_token a) R p x

  abbrev of_handle : Al
  of_handle = record { row = Z; laws = L; g = g; d = impl [] tnil dnil; drops = impl [] tnil dnil }

  -- an address and a good handle make a good struct
  pub typed : (b o : ℕ) (h : Val) → Good (layout Z) h → T (has_ty (layout Z) h && true) × WT (words (vptr b o) h)
  typed b o h fits = (and_tt (has_ty (layout Z) h) fits.0, (tt, (fits.1, tt)))

  module _ {M : Type 1} {𝓤 : Ura M} {𝓛 : Logic 𝓤} {K : Type 0} {Γ : List (Item 𝓤)} {G : Goal 𝓤 𝓛.H} where
    -- taken apart: [the block; the handle]. Nothing lies at null
    pub apart : K → (d : Held.Denot) (vs : List Val)
        → ((b o : ℕ) (h : Val) → d.address ≡ block_ptr b o → vs ≡ words (vptr b o) h ∷ [] → Good (layout Z) h
        → Seq K 𝓛 (‵ (block d.allocator (block_ptr b o) d.value) ∷ ‵ (Z.own_val d.allocator (h ∷ [])) ∷ Γ) G)
        → Seq K 𝓛 (‵ (Held.own_val d vs) ∷ Γ) G
    apart t d vs rest =
        fsplit t $ fpick t (λ vss. fsplit t $ feq_l t (λ is_struct. fsplit t $ feq_l t (λ is_pointer. fsplit t $
        handle_tells of_handle t d.allocator vss.1.0 (λ h is_handle fits. move t (1 ∷ []) $ drop t $ move t (1 ∷ []) $
        in_a_block t d.address (λ p. block d.allocator p d.value) (fst∗ 𝓤 (never 𝓤) (sem 𝓛 (g.dealloc_token d.allocator (bare (lone R.mir)) null_ptr))) (λ b o is_block.
        let as_struct : List Val → List Val → Type 0 = λ ps hs. vs ≡ vstruct (of_list (ps ++ (hs ++ []))) ∷ [] in
        rest b o h is_block
        (subst (λ (p : Ptr). as_struct (ptr_val p ∷ []) (h ∷ [])) is_block
        (subst (as_struct (ptr_val d.address ∷ [])) is_handle
        (subst (λ (ps : List Val). as_struct ps vss.1.0) is_pointer is_struct)))
        fits)))))

    -- put together of the same
    pub together : K → (b o : ℕ) (h : Val) (a : Z.Denot) (x : R.Denot)
        → Step K 𝓛 (‵ (Held.own_val (record { address = block_ptr b o; allocator = a; value = x }) (words (vptr b o) h ∷ [])) ∷ Γ) G
        (‵ (block a (block_ptr b o) x) ∷ ‵ (Z.own_val a (h ∷ [])) ∷ Γ) G
    together t b o h a x = step (λ s. let p : List Val = vptr b o ∷ [] in let v : List Val = words (vptr b o) h ∷ [] in
        nothing t $ move t (2 ∷ 0 ∷ []) $ fjoin t $ feq_i t (List Val) p p refl $ fjoin t $ feq_i t (List Val) v v refl $ fjoin t $
        fpack t (Valss (RawPtr ∷ Z ∷ [])) (within (shape (held.the_type R Z g)) (block_ptr b o, (a, tt)) v) (p, (h ∷ [], tt)) $ fjoin t $ s)
