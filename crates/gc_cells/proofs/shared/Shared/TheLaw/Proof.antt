-- A `&` to a `Shared` holds the table's invariant and a share of its token. Assumes `Logic`.
use Rattle.std.proofs.Common.{[], ◌∷◌}
use denote.Struct.Tuple.{Tuple}
use denote.RattleType.{RattleType}
use denote.Param.Laws.{Laws}
use denote.Param.Shared.{copy_shared}
use denote.Struct.Field.{RawPtr-field}
use denote.Struct.Laws.{RawPtr-copy, field_copy}
use denote.Struct.Lending.{of_Lends}
use Rattle.core.specs.contracts.marker.PhantomData as P
use Rattle.gc_cells.specs.declared.shared.TableRule.{Ghosts}
use Rattle.gc_cells.specs.contracts.shared.Shared as C
use Rattle.gc_cells.proofs.shared.Shared.TheLaw.Statement.{statement}
use Rattle.atomic_table.proofs.Shown.{shown_laws, lends_shown}

pub shares : (T U X Y : RattleType) (g : Ghosts Y.Denot T.Denot U.Denot X.Denot) (L : Laws T) (L' : Laws U) (K : Laws X) (L'' : Laws Y) → statement T U X Y g L L' K L''
shares T U X Y g L L' K L'' = let Both = Tuple (Y ∷ U ∷ X ∷ []) in of_Lends (C.struct T U X Y g) (C.the_codes T.Denot U.Denot X.Denot Y.Denot T.coded U.coded X.coded Y.coded (P.the_row Both).coded) (C.the_heap T U X Y g) (C.the_lent T U X Y g)
    (λ d p. shown_laws T U.coded (g.holds d.key) d.words d.slots d.table_id)
    (copy_shared RawPtr-field RawPtr-copy, (copy_shared RawPtr-field RawPtr-copy, (copy_shared (P.the_field Both) (field_copy (P.the_type Both) tt), tt)))
    (λ M 𝓤 𝓛 d p. lends_shown T U.coded (g.holds d.key) d.words d.slots d.table_id 𝓛 (C.the_row T U X Y g).lives)
