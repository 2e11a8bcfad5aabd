-- The data fields of a `Shared` and of a `Seat`. Assumes `Logic`.
use Rattle.std.proofs.Common.{◌≡◌, T, List, [], ◌∷◌, ◌++◌, refl, ap, ◌∙◌}
use seplogic.Ra.Ura.{Ura}
use mir.Syntax.{Ty, ty_ptr, ty_struct, tcons, tnil}
use mir.Val.{Val, vstruct, vcons, vnil, of_list, has_ty, WT}
use base.Logic.{ent, emp}
use types.Logic.{Logic, sem}
use denote.RattleType.{RattleType}
use denote.Laws.{Is}
use denote.Opens.{Opens}
use denote.Copied.{Struct-Copied}
use denote.RawPtr.{Ptr, block_ptr, null_ptr, ptr_val, InBlock}
use denote.Shadow.{makes_shadow}
use denote.Struct.Laws.{RawPtr-copy, field_copy}
use denote.Struct.Struct.{Struct}
use denote.Struct.Owning.{shape}
use denote.Struct.Tuple.{Tuple}
use Rattle.gc_cells.specs.contracts.shared.Seat as seat
use Rattle.gc_cells.specs.contracts.strip.Strip as strip
use Rattle.core.specs.contracts.marker.PhantomData as marker
use Rattle.gc_cells.specs.declared.shared.TableRule.{Ghosts}
use Rattle.gc_cells.specs.contracts.shared.Shared as hand

abbrev pub hand_of : Ptr → Ptr → Val
hand_of w p = vstruct (vcons (ptr_val w) (vcons (ptr_val p) (vcons (vstruct vnil) vnil)))

pub Ptr-Good : (p : Ptr) → InBlock p → T (has_ty ty_ptr (ptr_val p)) × WT (ptr_val p)
Ptr-Good (block_ptr b o) i = (tt, tt)
Ptr-Good null_ptr i = absurd i

pub hand_good : (w p : Ptr) → InBlock w → InBlock p → T (has_ty (ty_struct [] (tcons ty_ptr (tcons ty_ptr (tcons (ty_struct [] tnil) tnil)))) (hand_of w p)) × WT (hand_of w p)
hand_good (block_ptr b o) (block_ptr c e) i j = (tt, (tt, (tt, (tt, tt))))
hand_good (block_ptr b o) null_ptr i j = absurd j
hand_good null_ptr p i j = absurd i

module _ (R U X Y : RattleType) (g : Ghosts Y.Denot R.Denot U.Denot X.Denot) where
  abbrev pub HandData : RattleType
  HandData = Struct (shape (hand.the_type R U X Y g))

  pub hand_told : (w p : Ptr) (vs : List Val) → Is HandData (w, (p, (tt, tt))) vs → vs ≡ hand_of w p ∷ []
  hand_told w p vs is = is.1.0 ∙ ap (λ (ws : List Val). vstruct (of_list (ws ++ (is.0.1.0 ++ (is.0.1.1.0 ++ [])))) ∷ []) is.1.1.0
      ∙ ap (λ (ws : List Val). vstruct (of_list (ptr_val w ∷ (ws ++ (is.0.1.1.0 ++ [])))) ∷ []) is.1.1.1.0 ∙ ap (λ (ws : List Val). vstruct (of_list (ptr_val w ∷ ptr_val p ∷ (ws ++ []))) ∷ []) is.1.1.1.1.0.1.0

  module _ {M : Type 1} {𝓤 : Ura M} (𝓛 : Logic 𝓤) (w p : Ptr) where
    pub hand_made : ent 𝓤 (emp 𝓤) (sem 𝓛 (HandData.own_val (w, (p, (tt, tt))) (hand_of w p ∷ [])))
    hand_made = makes_shadow 𝓛 (HandData.own_val (w, (p, (tt, tt))) (hand_of w p ∷ [])) (λ vss. (tt, (tt, (tt, ((λ uss. (tt, tt)), tt)))))
        ((ptr_val w ∷ [], (ptr_val p ∷ [], (vstruct vnil ∷ [], tt))), (refl, (refl, (refl, ((tt, (refl, tt)), tt)))))

  pub hand_opens : {M : Type 1} {𝓤 : Ura M} (𝓛 : Logic 𝓤) → Opens 𝓛 HandData
  hand_opens {M} {𝓤 = 𝓤} 𝓛 = (Struct-Copied 𝓛 (shape (hand.the_type R U X Y g)) (refl, (refl, (refl, tt)))
      (RawPtr-copy.copied M 𝓤 𝓛, (RawPtr-copy.copied M 𝓤 𝓛, ((field_copy (marker.the_type (Tuple (Y ∷ U ∷ X ∷ []))) tt).copied M 𝓤 𝓛, tt)))).opens

abbrev pub token_val : Val
token_val = vstruct (vcons (vstruct vnil) vnil)

module _ (R U : RattleType) where
  abbrev pub Token : RattleType
  Token = Struct (shape (seat.the_type R U))

  pub token_made : {M : Type 1} {𝓤 : Ura M} (𝓛 : Logic 𝓤) → ent 𝓤 (emp 𝓤) (sem 𝓛 (Token.own_val (tt, tt) (token_val ∷ [])))
  token_made 𝓛 = makes_shadow 𝓛 (Token.own_val (tt, tt) (token_val ∷ [])) (λ vss. (tt, ((λ uss. (tt, tt)), tt))) ((vstruct vnil ∷ [], tt), (refl, ((tt, (refl, tt)), tt)))

abbrev pub strip_of : Ptr → Val
strip_of p = vstruct (vcons (ptr_val p) vnil)

abbrev pub pair_of : Val → Val → Val
pair_of u v = vstruct (vcons u (vcons v vnil))

abbrev strip_ty : Ty
strip_ty = ty_struct [] (tcons ty_ptr tnil)

pub strip_good : (p : Ptr) → InBlock p → T (has_ty strip_ty (strip_of p)) × WT (strip_of p)
strip_good (block_ptr b o) i = (tt, (tt, tt))
strip_good null_ptr i = absurd i

pub strips_good : (w p : Ptr) → InBlock w → InBlock p → T (has_ty (ty_struct [] (tcons strip_ty (tcons strip_ty tnil))) (pair_of (strip_of w) (strip_of p))) × WT (pair_of (strip_of w) (strip_of p))
strips_good (block_ptr b o) (block_ptr c e) i j = (tt, ((tt, tt), ((tt, tt), tt)))
strips_good (block_ptr b o) null_ptr i j = absurd j
strips_good null_ptr p i j = absurd i

pub dealt_good : (w p : Ptr) → InBlock w → InBlock p
    → T (has_ty (ty_struct [] (tcons (ty_struct [] (tcons ty_ptr (tcons ty_ptr (tcons (ty_struct [] tnil) tnil)))) (tcons (ty_struct [] (tcons (ty_struct [] tnil) tnil)) tnil))) (pair_of (hand_of w p) token_val)) × WT (pair_of (hand_of w p) token_val)
dealt_good (block_ptr b o) (block_ptr c e) i j = (tt, ((tt, (tt, (tt, tt))), ((tt, tt), tt)))
dealt_good (block_ptr b o) null_ptr i j = absurd j
dealt_good null_ptr p i j = absurd i

module _ (R : RattleType) where
  abbrev pub StripData : RattleType
  StripData = Struct (shape (strip.the_type R))

  pub strip_told : (p : Ptr) (vs : List Val) → Is StripData (p, tt) vs → vs ≡ strip_of p ∷ []
  strip_told p vs is = is.1.0 ∙ ap (λ (ws : List Val). vstruct (of_list (ws ++ [])) ∷ []) is.1.1.0

  pub strip_made : {M : Type 1} {𝓤 : Ura M} (𝓛 : Logic 𝓤) (p : Ptr) → ent 𝓤 (emp 𝓤) (sem 𝓛 (StripData.own_val (p, tt) (strip_of p ∷ [])))
  strip_made 𝓛 p = makes_shadow 𝓛 (StripData.own_val (p, tt) (strip_of p ∷ [])) (λ vss. (tt, (tt, tt))) ((ptr_val p ∷ [], tt), (refl, (refl, tt)))
