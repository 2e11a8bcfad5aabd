-- Threads may share the words of a table.
use denote.RattleType.{RattleType}
use denote.Param.Send.{IsSend, IsSync, sendable}
use Rattle.gc_cells.specs.declared.shared.TableRule.{Ghosts}
use Rattle.gc_cells.specs.contracts.shared.Shared.{the_row, the_type}
use denote.Struct.Struct.{Struct}
use denote.Struct.Owning.{shape}
use Rattle.atomic_table.proofs.Sent.{shares_keyless}

pub sync : (S V K P : RattleType) (g : Ghosts P.Denot S.Denot V.Denot K.Denot) → IsSend S → IsSync (the_row S V K P g)
sync S V K P g s = let fields : IsSync (Struct (shape (the_type S V K P g))) = search sendable depth 20 in
    record { shared = λ d b o ν. (fields.shared (d.words, (d.slots, (tt, tt))) b o ν, shares_keyless S s V.coded.code d.table_id (g.holds d.key) d.words d.slots ν) }
